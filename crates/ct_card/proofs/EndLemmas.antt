-- Nodes that depart from default values: their sorts, and when they can be built.
use Rattle.std.proofs.Common.{◌≡◌, ℕ, ◌+◌, ◌<◌, ◌^◌, false, List, length, map, get_or, slice_get, slice_set, Some, refl, sym, ◌∙◌, ap, subst, inl, inr}
use Rattle.ct_sorts.specs.declared.ids.CtorId.{CtorId}
use Rattle.ct_sorts.specs.Declarations.{Declarations}
use Rattle.ct_sorts.specs.Consistent.{IsConsistent}
use Rattle.ct_sorts.specs.Structure.{HaveOwnConstructors, AreOfTheirSorts, HaveOwnSelectors, AreOfTheirConstructors}
use Rattle.ct_values.specs.declared.node.Node.{Node}
use Rattle.ct_values.specs.Graph.{Nodes}
use Rattle.ct_values.specs.Fitting.{HasNodeSort, node_sort}
use Rattle.ct_card.specs.declared.departure.Departure.{Departure}
use Rattle.ct_card.specs.declared.departure.Departure.TheVariants.{Nowhere, Constructor as Other, Field}
use Rattle.ct_card.specs.Fields.{ctor_fields, ctors_of}
use Rattle.ct_card.specs.Rules.{IsDerived}
use Rattle.ct_card.specs.Defaults.{is_free_sort, node_of_sort}
use Rattle.ct_card.specs.Departures.{IsDeparture}
use Rattle.ct_card.specs.Built.{IsDepartingNode, IsEndNode, CanDepart}
use Rattle.ct_card.proofs.BuiltLemmas.{own_ctor, own_within, con_sort}

module _ (d : Declarations) (consistent : IsConsistent d) (own : HaveOwnConstructors d) (own_sels : HaveOwnSelectors d) (of_sorts : AreOfTheirSorts d) (of_ctors : AreOfTheirConstructors d) (several ranks : List ℕ) (base : ℕ) where
  -- the sort of a node that departs
  departing_sort : (s second : ℕ) (departure : Departure) (node : Node) (c : CtorId) → s < length d.sorts → ((index : ℕ) × (slice_get (ctors_of d s) index ≡ Some c)) → IsDeparture d several s c departure → IsDepartingNode d several ranks base second departure node → node_sort d node ≡ Some (record { 0 = s })
  departing_sort s second Nowhere node c within place departs is = absurd is
  departing_sort s second (Other ctor) node c within place departs is =
      let mine = own_ctor d consistent own own_sels of_sorts of_ctors s departs.index ctor within departs.listed in
      ap (node_sort d) is ∙ con_sort d ctor (map (node_of_sort base ranks) (ctor_fields d ctor)) mine.0 s mine.1 mine.2
  departing_sort s second (Field step) node c within place departs is =
      let mine = own_ctor d consistent own own_sels of_sorts of_ctors s place.0 c within place.1 in
      ap (node_sort d) is ∙ con_sort d step.ctor (slice_set (map (node_of_sort base ranks) (ctor_fields d step.ctor)) step.place (node_of_sort second several step.next)) mine.0 s (ap (λ (z : CtorId). slice_get d.ctors z.0) departs.ctor ∙ mine.1) mine.2

  pub end_sort : (s second number : ℕ) (departure : Departure) (node : Node) → s < length d.sorts → (is_free_sort d s ≡ false → (c : CtorId) × ((index : ℕ) × (slice_get (ctors_of d s) index ≡ Some c)) × IsDeparture d several s c departure) → IsEndNode d several ranks base second s number departure node → node_sort d node ≡ Some (record { 0 = s })
  end_sort s second number departure node within departs (inl (free, is)) = ap (node_sort d) is
  end_sort s second number departure node within departs (inr (other, is)) =
      let by = departs other in departing_sort s second departure node by.0 within by.1 by.2 is

  -- a value can depart where second values of lower ranks stand
  pub can_depart : (g : Nodes) (s second : ℕ) (departure : Departure) (c : CtorId) → s < length d.sorts → ((index : ℕ) × (slice_get (ctors_of d s) index ≡ Some c)) → IsDeparture d several s c departure → (departure ≡ Nowhere → ⊥)
      → ((t : ℕ) → IsDerived several t → get_or several t 0 < get_or several s 0 → (second + get_or several t 0 < 2 ^ 64) × HasNodeSort d g (node_of_sort second several t) (record { 0 = t }))
      → CanDepart d several second g departure
  can_depart g s second Nowhere c within place departs some lower = some refl
  can_depart g s second (Other ctor) c within place departs some lower = own_within d consistent own own_sels of_sorts of_ctors s departs.index ctor within departs.listed
  can_depart g s second (Field step) c within place departs some lower =
      let at = lower step.next departs.lower.0 departs.lower.1 in (
        subst (λ (z : CtorId). z.0 < length d.ctors) (sym departs.ctor) (own_within d consistent own own_sels of_sorts of_ctors s place.0 c within place.1),
        ap (λ (z : CtorId). slice_get (ctor_fields d z) step.place) departs.ctor ∙ departs.field,
        departs.lower.0,
        at.0,
        at.1,
      )
