-- Which constructor is of which sort, and which selector of which constructor.
use Rattle.std.proofs.Common.{◌≡◌, ℕ, ◌<◌, List, length, map, slice_get, Some, sym, ◌∙◌, ap, subst}
use Rattle.std.proofs.Math.Nat.{zero-add}
use Rattle.std.proofs.lemmas.Option.{same_Some, slice_get_within}
use Rattle.std.proofs.lemmas.List.Folds.{flat_map-map}
use Rattle.std.specs.List.{range_with_len}
use Rattle.ct_lemmas.proofs.Lists.{slice_get-map_at, slice_get-map_source, slice_get-there}
use Rattle.ct_sorts.specs.declared.ids.CtorId.{CtorId}
use Rattle.ct_sorts.specs.declared.ids.SelId.{SelId}
use Rattle.ct_sorts.specs.Declarations.{Declarations, Sort, Constructor, Selector}
use Rattle.ct_sorts.specs.Consistent.{owners, indices, IsConsistent}
use Rattle.ct_sorts.specs.Structure.{HaveOwnConstructors, AreOfTheirSorts, HaveOwnSelectors, AreOfTheirConstructors}
use Rattle.ct_sorts.proofs.Lists.{slice_get-range, range-slice_get}
use Rattle.ct_sorts.proofs.GroupLemmas.{row, in_row, of_row}

-- the items of the groups are those of a row of numbers, in order
module _ {X : Type 0} (number : ℕ → X) (groups : List (List X)) (count : ℕ) (all : row groups ≡ map number (range_with_len 0 count)) where
  -- an item of a group is its index in the row
  pub item_number : (g p : ℕ) (group : List X) (x : X) → slice_get groups g ≡ Some group → slice_get group p ≡ Some x → (k : ℕ) × (k < count) × (x ≡ number k) × (slice_get (owners 0 groups) k ≡ Some g) × (slice_get (indices groups) k ≡ Some p)
  item_number g p group x at_g at_p =
      let found = in_row 0 groups g p group x at_g at_p in
      let numbered = slice_get-range number 0 count found.0 x (subst (λ l. slice_get l found.0 ≡ Some x) all found.1.item) in
      (found.0, numbered.0, numbered.1 ∙ ap number (zero-add found.0), found.1.owner ∙ ap Some (zero-add g), found.1.place)

  -- each number is an item of a group
  pub number_item : (k : ℕ) → k < count → (g : ℕ) × (p : ℕ) × (group : List X) × (slice_get groups g ≡ Some group) × (slice_get group p ≡ Some (number k)) × (slice_get (owners 0 groups) k ≡ Some g) × (slice_get (indices groups) k ≡ Some p)
  number_item k within =
      let found = of_row 0 groups k (number k) (subst (λ l. slice_get l k ≡ Some (number k)) (sym all) (range-slice_get number 0 count k within ∙ ap (λ n. Some (number n)) (zero-add k))) in
      (found.g, found.p, found.group, found.at_g, found.at_p, found.stands.owner ∙ ap Some (zero-add found.g), found.stands.place)

-- the groups of constructors, and those of selectors
module _ (d : Declarations) (c : IsConsistent d) where
  ctor_groups : row (map (λ (s : Sort). s.ctors) d.sorts) ≡ map (λ n. record { 0 = n }) (range_with_len 0 (length d.ctors))
  ctor_groups = flat_map-map _ (λ (s : Sort). s.ctors) d.sorts ∙ c.all_ctors

  sel_groups : row (map (λ (t : Constructor). t.sels) d.ctors) ≡ map (λ n. record { 0 = n }) (range_with_len 0 (length d.sels))
  sel_groups = flat_map-map _ (λ (t : Constructor). t.sels) d.ctors ∙ c.all_sels

  -- a constructor stands once among those of the sorts
  pub one_place : (s t i j : ℕ) (sort other : Sort) (k : CtorId) → slice_get d.sorts s ≡ Some sort → slice_get sort.ctors i ≡ Some k → slice_get d.sorts t ≡ Some other → slice_get other.ctors j ≡ Some k → (s ≡ t) × (i ≡ j)
  one_place s t i j sort other k at listed at_other listed_other =
      let first = item_number (λ n. record { 0 = n }) (map (λ (x : Sort). x.ctors) d.sorts) (length d.ctors) ctor_groups s i sort.ctors k (slice_get-map_at _ d.sorts s sort at) listed in
      let second = item_number (λ n. record { 0 = n }) (map (λ (x : Sort). x.ctors) d.sorts) (length d.ctors) ctor_groups t j other.ctors k (slice_get-map_at _ d.sorts t other at_other) listed_other in
      let same : first.0 ≡ second.0 = ap (λ (x : CtorId). x.0) (sym first.2 ∙ second.2) in (
        same_Some s t (sym first.3 ∙ ap (slice_get (owners 0 (map (λ (x : Sort). x.ctors) d.sorts))) same ∙ second.3),
        same_Some i j (sym first.4 ∙ ap (slice_get (indices (map (λ (x : Sort). x.ctors) d.sorts))) same ∙ second.4),
      )

  pub own_constructors : HaveOwnConstructors d
  own_constructors s index sort k at listed =
      let item = item_number (λ n. record { 0 = n }) (map (λ (s : Sort). s.ctors) d.sorts) (length d.ctors) ctor_groups s index sort.ctors k (slice_get-map_at _ d.sorts s sort at) listed in
      let there = slice_get-there d.ctors item.0 item.1 in
      (there.0, subst (λ (i : CtorId). slice_get d.ctors i.0 ≡ Some there.0) (sym item.2) there.1, same_Some _ _ (sym (slice_get-map_at (λ (t : Constructor). t.sort.0) d.ctors item.0 there.0 there.1) ∙ ap (λ l. slice_get l item.0) c.ctor_sorts ∙ item.3))

  pub of_their_sorts : AreOfTheirSorts d
  of_their_sorts k ctor at =
      let item = number_item (λ n. record { 0 = n }) (map (λ (s : Sort). s.ctors) d.sorts) (length d.ctors) ctor_groups k (slice_get_within d.ctors k ctor at) in
      let sort = slice_get-map_source (λ (s : Sort). s.ctors) d.sorts item.0 item.2 item.3 in
      let owner : ctor.sort.0 ≡ item.0 = same_Some _ _ (sym (slice_get-map_at (λ (t : Constructor). t.sort.0) d.ctors k ctor at) ∙ ap (λ l. slice_get l k) c.ctor_sorts ∙ item.5) in
      (sort.0, item.1, subst (λ i. slice_get d.sorts i ≡ Some sort.0) (sym owner) sort.1, subst (λ (l : List CtorId). slice_get l item.1 ≡ Some (record { 0 = k })) (sym sort.2) item.4)

  pub own_selectors : HaveOwnSelectors d
  own_selectors k index ctor s at listed =
      let item = item_number (λ n. record { 0 = n }) (map (λ (t : Constructor). t.sels) d.ctors) (length d.sels) sel_groups k index ctor.sels s (slice_get-map_at _ d.ctors k ctor at) listed in
      let there = slice_get-there d.sels item.0 item.1 in
      (there.0, subst (λ (i : SelId). slice_get d.sels i.0 ≡ Some there.0) (sym item.2) there.1, same_Some _ _ (sym (slice_get-map_at (λ (t : Selector). t.ctor.0) d.sels item.0 there.0 there.1) ∙ ap (λ l. slice_get l item.0) c.sel_ctors ∙ item.3), same_Some _ _ (sym (slice_get-map_at (λ (t : Selector). t.place) d.sels item.0 there.0 there.1) ∙ ap (λ l. slice_get l item.0) c.sel_places ∙ item.4))

  pub of_their_constructors : AreOfTheirConstructors d
  of_their_constructors s sel at =
      let item = number_item (λ n. record { 0 = n }) (map (λ (t : Constructor). t.sels) d.ctors) (length d.sels) sel_groups s (slice_get_within d.sels s sel at) in
      let ctor = slice_get-map_source (λ (t : Constructor). t.sels) d.ctors item.0 item.2 item.3 in
      let owner : sel.ctor.0 ≡ item.0 = same_Some _ _ (sym (slice_get-map_at (λ (t : Selector). t.ctor.0) d.sels s sel at) ∙ ap (λ l. slice_get l s) c.sel_ctors ∙ item.5) in
      let index : sel.place ≡ item.1 = same_Some _ _ (sym (slice_get-map_at (λ (t : Selector). t.place) d.sels s sel at) ∙ ap (λ l. slice_get l s) c.sel_places ∙ item.6) in
      (ctor.0, subst (λ i. slice_get d.ctors i ≡ Some ctor.0) (sym owner) ctor.1, subst (λ i. slice_get ctor.0.sels i ≡ Some (record { 0 = s })) (sym index) (subst (λ (l : List SelId). slice_get l item.1 ≡ Some (record { 0 = s })) (sym ctor.2) item.4))
