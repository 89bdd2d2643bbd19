-- One more open class with a value.
use Rattle.std.proofs.Common.{◌≡◌, ℕ, ◌<◌, List, [], ◌∷◌, ◌++◌, length, slice_get, Some, refl, sym, ◌∙◌, ap, subst, inl, inr, arith}
use Rattle.std.proofs.lemmas.Option.{none-some, same_Some}
use Rattle.ct_sorts.specs.declared.ids.SortId.{SortId}
use Rattle.ct_sorts.specs.Declarations.{Declarations}
use Rattle.ct_sorts.specs.Grown.{Begins}
use Rattle.ct_card.specs.Made.{Prepared, IsPrepared}
use Rattle.ct_card.specs.Sizes.{Table}
use Rattle.ct_values.specs.declared.node.NodeId.{NodeId}
use Rattle.ct_values.specs.Graph.{Nodes}
use Rattle.ct_values.specs.Agreement.{Point, node_point}
use Rattle.ct_values.specs.Fitting.{HasNodeSort}
use Rattle.ct_values.specs.WellFormed.{IsWellFormedGraph}
use Rattle.ct_terms.specs.Terms.{IsOfSort}
use Rattle.ct_congr.specs.State.{State}
use Rattle.ct_build.specs.declared.open_classes.OpenClass.{OpenClass}
use Rattle.ct_build.specs.OpenClasses.{AreOfAllSorts}
use Rattle.ct_build.specs.Chosen.{AreChosen, IsPushed}
use Rattle.ct_build.proofs.ListLemmas.{pushed_at, length-push}
use Rattle.ct_build.proofs.GraphLemmas.{begins_sort}
use Rattle.ct_build.proofs.DefaultLemmas.{all_sorts_longer}
use Rattle.ct_build.proofs.TermLemmas.{one_term_sort}

module _ (state : State) (unbuilt : List OpenClass) (g longer : Nodes) (chosen : List NodeId) (grown : Begins g longer) (class : OpenClass) (listed : slice_get unbuilt (length chosen) ≡ Some class) (s : SortId) (is_of : IsOfSort state.terms class.rep s) (n : NodeId) where
  -- the sort of the next class
  next_sort : (other : OpenClass) (q : SortId) → slice_get unbuilt (length chosen) ≡ Some other → IsOfSort state.terms other.rep q → s ≡ q
  next_sort other q at has =
      let same : class ≡ other = same_Some class other (sym listed ∙ at) in
      one_term_sort state.terms class.rep s q is_of (subst (λ (c : OpenClass). IsOfSort state.terms c.rep q) (sym same) has)

  pub chosen_more : (defaults : List NodeId) → length chosen < length unbuilt → IsWellFormedGraph state.declarations longer → HasNodeSort state.declarations longer n s → AreChosen state g defaults unbuilt chosen → AreChosen state longer defaults unbuilt (chosen ++ n ∷ [])
  chosen_more defaults more formed has old = record {
    formed = formed;
    of_sorts = all_sorts_longer state.declarations g longer defaults grown old.of_sorts;
    few = omega (arith, more, length-push chosen n);
    sorted = λ i other m q at at_m has_q. elim (pushed_at chosen n m i at_m) [
      | inl h ↦ begins_sort state.declarations g longer m q grown (old.sorted i other m q at h has_q)
      | inr (e, same) ↦
          let one = next_sort other q (ap (slice_get unbuilt) (sym e) ∙ at) has_q in
          subst (λ (k : NodeId). HasNodeSort state.declarations longer k q) (sym same) (subst (λ (x : SortId). HasNodeSort state.declarations longer n x) one has)
    ];
  }

  pub pushed_is : (IsNumbered : SortId → ℕ → Point → Type 0) (number : ℕ) → IsNumbered s number (node_point longer n) → IsPushed state IsNumbered unbuilt g chosen number longer (chosen ++ n ∷ [])
  pushed_is IsNumbered number is = record {
    node = n;
    grown = grown;
    nodes_are = refl;
    numbered = λ other q at has. subst (λ (x : SortId). IsNumbered x number (node_point longer n)) (next_sort other q at has) is;
  }

-- a copy is as good
pub chosen_of_copy : (state : State) (defaults : List NodeId) (unbuilt : List OpenClass) (g copy : Nodes) (chosen list : List NodeId) → copy ≡ g → list ≡ chosen → AreChosen state g defaults unbuilt chosen → AreChosen state copy defaults unbuilt list
chosen_of_copy state defaults unbuilt g copy chosen list e f are =
    subst (λ (l : List NodeId). AreChosen state copy defaults unbuilt l) (sym f) (subst (λ (h : Nodes). AreChosen state h defaults unbuilt chosen) (sym e) are)

pub pushed_of_copy : (state : State) (IsNumbered : SortId → ℕ → Point → Type 0) (unbuilt : List OpenClass) (g copy : Nodes) (chosen list : List NodeId) (number : ℕ) (new : Nodes) (after : List NodeId) → copy ≡ g → list ≡ chosen → IsPushed state IsNumbered unbuilt copy list number new after → IsPushed state IsNumbered unbuilt g chosen number new after
pushed_of_copy state IsNumbered unbuilt g copy chosen list number new after e f is =
    subst (λ (l : List NodeId). IsPushed state IsNumbered unbuilt g l number new after) f (subst (λ (h : Nodes). IsPushed state IsNumbered unbuilt h list number new after) e is)

-- at the start none is chosen
pub chosen_none : (state : State) (defaults : List NodeId) (unbuilt : List OpenClass) (g : Nodes) (chosen : List NodeId) → chosen ≡ [] → IsWellFormedGraph state.declarations g → AreOfAllSorts state.declarations g defaults → AreChosen state g defaults unbuilt chosen
chosen_none state defaults unbuilt g chosen e formed of_sorts = record {
  formed = formed;
  of_sorts = of_sorts;
  few = let none : length chosen ≡ 0 = ap length e in omega (arith, none);
  sorted = λ i class n s listed at has. absurd (none-some n (ap (λ (l : List NodeId). slice_get l i) (sym e) ∙ at));
}

pub prepared_of_copy : (d : Declarations) (sizes : Table) (g copy : Nodes) (prepared other : Prepared) → copy ≡ g → other ≡ prepared → IsPrepared d sizes g prepared → IsPrepared d sizes copy other
prepared_of_copy d sizes g copy prepared other e f is =
    subst (λ (p : Prepared). IsPrepared d sizes copy p) (sym f) (subst (λ (h : Nodes). IsPrepared d sizes h prepared) (sym e) is)
