-- Assertions hold in one table where they hold in another in which they are the same terms.
use Rattle.std.proofs.Common.{◌≡◌, true, List, Contains, sym, ap, subst, ◌∙◌}
use Rattle.std.proofs.lemmas.List.Elements.{All-contains}
use Rattle.ct_lemmas.proofs.Contained.{Contains-map, Contains-map_cases}
use Rattle.ct_lemmas.proofs.Each.{All-from_Contains}
use Rattle.ct_sorts.specs.Declarations.{Declarations}
use Rattle.ct_sorts.specs.Consistent.{IsConsistent}
use Rattle.ct_terms.specs.declared.ids.TermId.{TermId}
use Rattle.ct_terms.specs.Terms.{Terms, IsTermTable, AreSorted}
use Rattle.ct_terms.specs.CoreTree.{CoreTree, term_at}
use Rattle.ct_closure.specs.ClosedTable.{terms_at}
use Rattle.ct_values.specs.Value.{Value}
use Rattle.ct_values.specs.TruthValue.{is_true}
use Rattle.ct_eval.specs.declared.interp.Interp.{Interp}
use Rattle.ct_eval.specs.TreeValue.{tree_value}
use Rattle.ct_eval.specs.Truth.{Holds, truth_value}
use Rattle.ct_log.specs.Acceptance.{Passes}
use Rattle.ct_log.specs.Recorded.{Derived, IsDerivation}
use Rattle.ct_checker.specs.Rejection.{EndsEmpty}
use Rattle.ct_engine.specs.Theorems.{ModelTheorems}
use Rattle.ct_engine.specs.Verdict.{IsRefutation}

module _ (theorems : ModelTheorems) (d : Declarations) (i : Interp) where
  -- a term is true where its tree is
  by_tree : (terms : Terms) (t : TermId) → truth_value d i terms t ≡ is_true i.graph (tree_value d i (term_at terms t))
  by_tree terms t = ap (λ (v : Value). is_true i.graph v) (theorems.tree d i terms t)

  -- the trees of assertions that hold are true
  trees_hold : (terms : Terms) (asserts : List TermId) → Holds d i terms asserts → (tree : CoreTree) → Contains (terms_at terms asserts) tree → is_true i.graph (tree_value d i tree) ≡ true
  trees_hold terms asserts holds tree inside =
      let found = Contains-map_cases (term_at terms) asserts tree inside in
      let here : truth_value d i terms found.0 ≡ true = All-contains (λ (t : TermId). truth_value d i terms t ≡ true) asserts found.0 holds found.1 in
      subst (λ (s : CoreTree). is_true i.graph (tree_value d i s) ≡ true) found.2 (sym (by_tree terms found.0) ∙ here)

  -- assertions hold where they are the same terms
  pub Holds-same : (terms other : Terms) (asserts others : List TermId) → terms_at other others ≡ terms_at terms asserts → Holds d i terms asserts → Holds d i other others
  Holds-same terms other asserts others same holds =
      All-from_Contains (λ (t : TermId). truth_value d i other t ≡ true) others (λ t inside.
      by_tree other t ∙ trees_hold terms asserts holds (term_at other t)
      (subst (λ (trees : List CoreTree). Contains trees (term_at other t)) same (Contains-map (term_at other) others t inside)))

-- a derivation that ends with the empty clause refutes the assertions
pub IsRefutation-from : ModelTheorems → (d : Declarations) (table : Terms) (asserts : List TermId) (derived : Derived) → IsConsistent d → IsTermTable derived.rec.terms → derived.declarations ≡ d → terms_at derived.rec.terms derived.asserts ≡ terms_at table asserts → IsDerivation derived → EndsEmpty derived.rec.lines → IsRefutation d table asserts derived
IsRefutation-from theorems d table asserts derived consistent is_table declared same derivation (before, last, ends, empty) = record {
  declarations = declared;
  is_table = is_table;
  sorted = sorted;
  asserted = same;
  passes = passes;
  no_model = λ i proper holds. theorems.no_model d i derived.rec.terms derived.asserts derived.rec.lines consistent proper is_table.ordered is_table.begins sorted passes
      (Holds-same theorems d i table derived.rec.terms asserts derived.asserts same holds);
}
  where
    sorted : AreSorted d derived.rec.terms
    sorted = subst (λ (e : Declarations). AreSorted e derived.rec.terms) declared derivation.judges.sorted

    passes : Passes d derived.rec.terms derived.asserts derived.rec.lines
    passes = subst (λ (e : Declarations). Passes e derived.rec.terms derived.asserts derived.rec.lines) declared (record {
      accepted = derivation.accepted;
      before = before;
      last = last;
      ends = ends;
      empty = empty;
    })
