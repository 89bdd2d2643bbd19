-- Verdicts on assertions that are the same terms of another table, and closures of some of the assertions.
use Rattle.std.proofs.Common.{◌≡◌, ◌↔◌, ℕ, List, All, Contains, sym, subst, ◌∙◌, inl, inr}
use Rattle.std.proofs.lemmas.List.Elements.{All-contains, Contains-append_left, Contains-append_right, Contains-append_cases}
use Rattle.ct_lemmas.proofs.Contained.{Contains-map, Contains-map_cases}
use Rattle.ct_sorts.specs.Declarations.{Declarations}
use Rattle.ct_terms.specs.declared.ids.TermId.{TermId}
use Rattle.ct_terms.specs.Terms.{Terms}
use Rattle.ct_terms.specs.CoreTree.{CoreTree, term_at}
use Rattle.ct_closure.specs.Closed.{truth_trees, InClosure, HasVariables, HasMoreThan}
use Rattle.ct_closure.specs.ClosedTable.{HasTree, terms_at}
use Rattle.ct_log.specs.Recorded.{Derived}
use Rattle.ct_engine.specs.Theorems.{ModelTheorems}
use Rattle.ct_engine.specs.declared.verdict.Spent.{Spent}
use Rattle.ct_engine.specs.declared.verdict.Verdict.{Verdict}
use Rattle.ct_engine.specs.declared.verdict.Verdict.TheVariants.{Sat, Unsat, Unknown}
use Rattle.ct_engine.specs.Verdict.{IsRefutation, IsSpending, IsVerdict}
use Rattle.ct_engine.proofs.ModelLemmas.{Holds-same}

module _ (theorems : ModelTheorems) (d : Declarations) (table other : Terms) (asserts others : List TermId) (same : terms_at table asserts ≡ terms_at other others) where
  -- a refutation of the same terms
  pub refutation_same : (derived : Derived) → IsRefutation d table asserts derived → IsRefutation d other others derived
  refutation_same derived is = record {
    declarations = is.declarations;
    is_table = is.is_table;
    sorted = is.sorted;
    asserted = is.asserted ∙ same;
    passes = is.passes;
    no_model = λ i proper holds. is.no_model i proper (Holds-same theorems d i other table others asserts same holds);
  }

  -- the record of a search over the same terms
  pub spending_same : (budget : ℕ) (spent : Spent) → IsSpending d table asserts budget spent → IsSpending d other others budget spent
  spending_same budget spent is = record {
    declarations = is.declarations;
    asserted = is.asserted ∙ same;
    closure = subst (λ (trees : List CoreTree). (t : CoreTree) → HasTree spent.derivation.rec.terms t ↔ InClosure d trees t) same is.closure;
    variables = subst (λ (trees : List CoreTree). HasVariables d trees spent.variables) same is.variables;
    allowed = is.allowed;
    below = is.below;
    recorded = is.recorded;
  }

  -- a verdict on the same terms
  pub verdict_same : (budget : ℕ) (verdict : Verdict) → IsVerdict d table asserts budget verdict → IsVerdict d other others budget verdict
  verdict_same budget (Sat i) is = record { proper = is.proper; holds = Holds-same theorems d i table other asserts others (sym same) is.holds }
  verdict_same budget (Unsat derived) is = refutation_same derived is
  verdict_same budget (Unknown spent) is = spending_same budget spent is

-- the closure of some of the terms is inside that of all
closure_grows : (d : Declarations) (some all : List CoreTree) → ((t : CoreTree) → Contains some t → Contains all t) → (t : CoreTree) → InClosure d some t → InClosure d all t
closure_grows d some all inside t is set closed = is set (record {
  rooted = λ s h. elim (Contains-append_cases truth_trees some s h) [
    | inl truth ↦ closed.rooted s (Contains-append_left truth_trees all s truth)
    | inr root ↦ closed.rooted s (Contains-append_right truth_trees all s (inside s root))
  ];
  closed = closed.closed;
})

-- so it is not larger
pub more_than_some : (d : Declarations) (table : Terms) (asserts chosen : List TermId) (count : ℕ) → All (Contains asserts) chosen → HasMoreThan d (terms_at table chosen) count → HasMoreThan d (terms_at table asserts) count
more_than_some d table asserts chosen count among more = record {
  members = more.members;
  many = more.many;
  different = more.different;
  inside = λ t h. closure_grows d (terms_at table chosen) (terms_at table asserts) (λ s is.
      let found = Contains-map_cases (term_at table) chosen s is in
      subst (Contains (terms_at table asserts)) found.2 (Contains-map (term_at table) asserts found.0 (All-contains (Contains asserts) chosen found.0 among found.1))) t (more.inside t h);
}
