-- A table that is closed further is the closure of the assertions at hand.
use Rattle.std.proofs.Common.{◌≡◌, ◌↔◌, ◌<◌, ◌≤◌, List, ◌++◌, length, take, drop, All, Contains, sym, ap, subst, ◌∙◌}
use Rattle.ct_sorts.specs.declared.ids.SortId.{SortId}
use Rattle.ct_sorts.specs.Declarations.{Declarations}
use Rattle.ct_sorts.specs.Grown.{Begins}
use Rattle.ct_terms.specs.declared.ids.TermId.{TermId}
use Rattle.ct_terms.specs.Terms.{Terms, IsBoolean, AreOrdered, AreSorted}
use Rattle.ct_terms.specs.CoreTree.{CoreTree, term_at}
use Rattle.ct_closure.specs.Closed.{InClosure, HasVariables, HasMoreThan, most_closure_terms}
use Rattle.ct_closure.specs.ClosedTable.{HasTree, IsClosedTable, IsSplitTerm, AreRising, ClosureValue, terms_at}
use Rattle.ct_closure.specs.Further.{IsClosureOver}
use Rattle.ct_base.specs.declared.base.Base.{Base}
use Rattle.ct_base.specs.Base.{IsClosedFor}
use Rattle.ct_base.proofs.RootLemmas.{booleans_longer, trees_longer, parts, whole_trees, whole_booleans}

-- the trees of roots that are the first of the assertions, and of the others, are those of all
pub all_trees : (table from : Terms) (roots asserts : List TermId) → terms_at table roots ≡ terms_at from (take (length roots) asserts) → terms_at table roots ++ terms_at from (drop (length roots) asserts) ≡ terms_at from asserts
all_trees table from roots asserts same =
    ap (λ (trees : List CoreTree). trees ++ terms_at from (drop (length roots) asserts)) same ∙ parts from asserts (length roots)

module _ (d : Declarations) (from table longer : Terms) (roots all asserts : List TermId) (grown : Begins table longer) (roots_grown : Begins roots all)
    (theorem : (table more : Terms) (t : TermId) → AreOrdered (table ++ more) → t.0 < length table → term_at (table ++ more) t ≡ term_at table t) (ordered : AreOrdered longer) (booleans : All (IsBoolean table) roots)
    (same : terms_at table roots ≡ terms_at from (take (length roots) asserts)) (rest : terms_at longer (drop (length roots) all) ≡ terms_at from (drop (length roots) asserts)) (rest_booleans : All (IsBoolean longer) (drop (length roots) all)) where
  pub roots_are : terms_at longer all ≡ terms_at from asserts
  roots_are = whole_trees table longer from roots all asserts roots_grown (trees_longer theorem table longer roots grown ordered booleans) same rest

  pub roots_boolean : All (IsBoolean longer) all
  roots_boolean = whole_booleans table longer from roots all asserts roots_grown (booleans_longer table longer roots grown booleans) rest_booleans

  pub closure_over : (split : List TermId) → IsClosureOver d (terms_at table roots ++ terms_at from (drop (length roots) asserts)) longer split → IsClosureOver d (terms_at longer all) longer split
  closure_over split is = subst (λ (trees : List CoreTree). IsClosureOver d trees longer split) (all_trees table from roots asserts same ∙ sym roots_are) is

  pub closed_for : (b : Base) (closure : ClosureValue) → b.table ≡ longer → b.roots.items ≡ all → AreSorted d longer → ((t : CoreTree) → HasTree longer t ↔ InClosure d (terms_at table roots ++ terms_at from (drop (length roots) asserts)) t)
      → IsClosedTable d longer → ((t : TermId) → Contains closure.split t ↔ ((sort : SortId) × IsSplitTerm d longer t sort)) → AreRising closure.split
      → HasVariables d (terms_at table roots ++ terms_at from (drop (length roots) asserts)) closure.variables → length longer ≤ most_closure_terms → IsClosedFor d (terms_at from asserts) b closure
  closed_for b closure same_table same_roots sorted exact is_closed splits rising variables few =
      let trees_are = all_trees table from roots asserts same in
      record {
        roots = ap (λ (ts : Terms). terms_at ts b.roots.items) same_table ∙ ap (terms_at longer) same_roots ∙ roots_are;
        booleans = subst (λ (ts : Terms). All (IsBoolean ts) b.roots.items) (sym same_table) (subst (All (IsBoolean longer)) (sym same_roots) roots_boolean);
        sorted = subst (AreSorted d) (sym same_table) sorted;
        exact = subst (λ (ts : Terms). (t : CoreTree) → HasTree ts t ↔ InClosure d (terms_at from asserts) t) (sym same_table)
            (subst (λ (trees : List CoreTree). (t : CoreTree) → HasTree longer t ↔ InClosure d trees t) trees_are exact);
        is_closed = subst (IsClosedTable d) (sym same_table) is_closed;
        splits = subst (λ (ts : Terms). (t : TermId) → Contains closure.split t ↔ ((sort : SortId) × IsSplitTerm d ts t sort)) (sym same_table) splits;
        rising = rising;
        variables = subst (λ (trees : List CoreTree). HasVariables d trees closure.variables) trees_are variables;
        few = subst (λ (ts : Terms). length ts ≤ most_closure_terms) (sym same_table) few;
      }

-- what has too many terms with the first and the other assertions has so with all
pub more_terms : (d : Declarations) (table from : Terms) (roots asserts : List TermId) → terms_at table roots ≡ terms_at from (take (length roots) asserts)
    → HasMoreThan d (terms_at table roots ++ terms_at from (drop (length roots) asserts)) most_closure_terms → HasMoreThan d (terms_at from asserts) most_closure_terms
more_terms d table from roots asserts same more =
    subst (λ (trees : List CoreTree). HasMoreThan d trees most_closure_terms) (all_trees table from roots asserts same) more
