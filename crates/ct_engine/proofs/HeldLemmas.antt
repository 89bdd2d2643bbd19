-- Assertions hold in an interpretation in which terms of one class have one value.
use Rattle.std.proofs.Common.{◌≡◌, ◌↔◌, IsTrue, true, List, [], Some, slice_get, Contains, ap, ◌∙◌}
use Rattle.ct_lemmas.proofs.Each.{All-from_Contains}
use Rattle.ct_lemmas.proofs.Prefixes.{slice_get-take}
use Rattle.ct_sorts.specs.declared.ids.SortId.{SortId}
use Rattle.ct_sorts.specs.Declarations.{Declarations, bool_sort}
use Rattle.ct_terms.specs.declared.ids.TermId.{TermId}
use Rattle.ct_terms.specs.declared.term.Core.TheVariants.{Con}
use Rattle.ct_terms.specs.Terms.{Terms, IsBoolean, IsOfSort, AreOrdered, BeginsWithTruths}
use Rattle.ct_rules.specs.Rules.{truth_term}
use Rattle.ct_values.specs.Graph.{IsClosed}
use Rattle.ct_values.specs.Agreement.{point}
use Rattle.ct_values.specs.TruthValue.{is_true}
use Rattle.ct_eval.specs.declared.interp.Interp.{Interp}
use Rattle.ct_eval.specs.Evaluation.{is_same, value_of}
use Rattle.ct_eval.specs.Truth.{Holds, truth_value}
use Rattle.ct_congr.specs.State.{State, AreEqual}
use Rattle.ct_engine.specs.Theorems.{ValueTheorems}

-- two terms of one sort have one value exactly where they are of one class
abbrev pub HaveClassValues : Declarations → Terms → Interp → State → Type 0
HaveClassValues d terms i state = (t u : TermId) (s : SortId) → IsOfSort terms t s → IsOfSort terms u s
    → IsTrue (is_same i.graph (value_of d i terms t) (value_of d i terms u)) ↔ AreEqual state t u

module _ (theorems : ValueTheorems) (d : Declarations) (terms : Terms) (ordered : AreOrdered terms) (begins : BeginsWithTruths terms) (i : Interp) (closed : IsClosed i.graph) (state : State) (values : HaveClassValues d terms i state) where
  -- `true` stands first, and is true
  true_at : slice_get terms 0 ≡ Some (Con (record { 0 = 0 }) [], bool_sort)
  true_at = slice_get-take 2 terms 0 (Con (record { 0 = 0 }) [], bool_sort) (ap (λ (ts : Terms). slice_get ts 0) begins)

  true_is_true : truth_value d i terms (truth_term true) ≡ true
  true_is_true = ap (is_true i.graph) (theorems.unfolds d i terms (truth_term true) (Con (record { 0 = 0 }) []) bool_sort ordered true_at)

  -- and so is a term of its class
  true_in_class : (t : TermId) → IsBoolean terms t → AreEqual state t (truth_term true) → truth_value d i terms t ≡ true
  true_in_class t boolean equal =
      let same = (values t (truth_term true) bool_sort boolean (Con (record { 0 = 0 }) [], true_at)).1 equal in
      let one = (theorems.same (point i.graph (value_of d i terms t)) (point i.graph (value_of d i terms (truth_term true))) closed closed).0 same in
      theorems.truth d i terms t (truth_term true) one ∙ true_is_true

  pub Holds-in_class : (asserts : List TermId) → ((t : TermId) → Contains asserts t → IsBoolean terms t) → ((t : TermId) → Contains asserts t → AreEqual state t (truth_term true)) → Holds d i terms asserts
  Holds-in_class asserts booleans equal =
      All-from_Contains (λ (t : TermId). truth_value d i terms t ≡ true) asserts (λ t inside. true_in_class t (booleans t inside) (equal t inside))
