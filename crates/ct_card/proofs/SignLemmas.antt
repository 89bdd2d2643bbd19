-- Default values have their signs, and second values do not.
use Rattle.std.proofs.Common.{◌≡◌, ℕ, suc, ◌+◌, ◌-◌, ◌<◌, ◌≤◌, true, false, cond, List, [], ◌∷◌, ◌++◌, length, map, get_or, slice_get, slice_set, Some, refl, sym, ◌∙◌, ap, subst, inl, inr, arith}
use Rattle.std.proofs.lemmas.Bool.{cases_order}
use Rattle.std.proofs.lemmas.Option.{same_Some, slice_get_within}
use Rattle.ct_lemmas.proofs.Lists.{slice_get-append_left, slice_get-last, slice_get-map_at, slice_get-there}
use Rattle.ct_sorts.specs.declared.ids.CtorId.{CtorId}
use Rattle.ct_sorts.specs.Declarations.{Declarations}
use Rattle.ct_sorts.specs.Consistent.{IsConsistent}
use Rattle.ct_sorts.specs.Structure.{HaveOwnConstructors, AreOfTheirSorts, HaveOwnSelectors, AreOfTheirConstructors}
use Rattle.ct_values.specs.declared.node.NodeId.{NodeId}
use Rattle.ct_values.specs.declared.node.Node.{Node}
use Rattle.ct_values.specs.declared.node.Node.TheVariants.{Con, Elem}
use Rattle.ct_values.specs.declared.node.Head.{Head}
use Rattle.ct_values.specs.declared.node.Head.TheVariants as heads
use Rattle.ct_values.specs.Graph.{Nodes, IsClosed, node_head}
use Rattle.ct_values.specs.Value.{reference}
use Rattle.ct_values.specs.Agreement.{Point, node_point, head}
use Rattle.ct_card.specs.declared.departure.Step.{Step}
use Rattle.ct_card.specs.declared.departure.Departure.{Departure}
use Rattle.ct_card.specs.declared.departure.Departure.TheVariants.{Nowhere, Constructor as Other, Field}
use Rattle.ct_card.specs.Fields.{ctor_fields, ctors_of}
use Rattle.ct_card.specs.Rules.{IsDerived, IsOrder}
use Rattle.ct_card.specs.Defaults.{is_free_sort, node_of_sort, default_node}
use Rattle.ct_card.specs.Departures.{IsDeparture, AreSeconds}
use Rattle.ct_card.specs.Paths.{HasHeadAt}
use Rattle.ct_card.specs.Built.{node_with, IsEndNode}
use Rattle.ct_card.specs.Signs.{IsSign, LacksSign, IsSecondValue, HasAllDefaults, HasSeconds}
use Rattle.ct_card.proofs.SizeLemmas.{derived_within}
use Rattle.ct_card.proofs.WellFormedLemmas.{longer_sort}
use Rattle.ct_card.proofs.PathLemmas.{Agrees, same_head_at}
use Rattle.ct_card.proofs.NthLemmas.{same_element}
use Rattle.ct_card.proofs.BuiltLemmas.{head_at, child_at, set_there}
use Rattle.ct_card.proofs.EndLemmas.{end_sort}

-- a rank is at most the length of the order
pub rank_in_order : (ranks order : List ℕ) → IsOrder ranks order → (s : ℕ) → IsDerived ranks s → get_or ranks s 0 ≤ length order
rank_in_order ranks order is s derived =
    let here : get_or ranks s 0 ≡ suc (get_or ranks s 0 - 1) = omega arith in
    let within = slice_get_within order (get_or ranks s 0 - 1) s (is.of (get_or ranks s 0 - 1) s here) in
    omega arith

-- ---- longer graphs

pub longer_defaults : (d : Declarations) (ranks : List ℕ) (ctors : List CtorId) (base : ℕ) (g more : Nodes) → HasAllDefaults d ranks ctors base g → HasAllDefaults d ranks ctors base (g ++ more)
longer_defaults d ranks ctors base g more all = record {
  stand = λ s c within at. slice_get-append_left g more (node_of_sort base ranks s).0 (default_node d ranks base s c) (all.stand s c within at);
  sorted = λ s within. longer_sort d g more (node_of_sort base ranks s) (record { 0 = s }) (all.sorted s within);
}

-- heads at the ends of paths are there already where a graph grew
pub shorter_head_at : Agrees → (g more : Nodes) (n : NodeId) (path : List ℕ) (h : Head) → IsClosed g → n.0 < length g → HasHeadAt path h (node_point (g ++ more) n) → HasHeadAt path h (node_point g n)
shorter_head_at laws g more n path h closed within has = same_head_at laws path h (node_point (g ++ more) n) (node_point g n) (laws.grown g more (reference n) closed within) has

pub longer_second : Agrees → (d : Declarations) (ctors : List CtorId) (seconds : List Departure) (g more : Nodes) (s : ℕ) (n : NodeId) → IsClosed g → IsSecondValue d ctors seconds g s n → IsSecondValue d ctors seconds (g ++ more) s n
longer_second laws d ctors seconds g more s n closed is =
    let (path, h, sign, none) = is.lacks in
    record {
      sorted = longer_sort d g more n (record { 0 = s }) is.sorted;
      lacks = (path, h, sign, λ has. none (shorter_head_at laws g more n path h closed (slice_get_within g n.0 is.sorted.0 is.sorted.1) has));
    }

-- ---- default values

default_free : (d : Declarations) (ranks : List ℕ) (base s : ℕ) (c : CtorId) → is_free_sort d s ≡ true → default_node d ranks base s c ≡ Elem (record { 0 = s }) 0
default_free d ranks base s c e = ap (λ b. cond b (Elem (record { 0 = s }) 0) (Con c (map (node_of_sort base ranks) (ctor_fields d c)))) e

default_built : (d : Declarations) (ranks : List ℕ) (base s : ℕ) (c : CtorId) → is_free_sort d s ≡ false → default_node d ranks base s c ≡ Con c (map (node_of_sort base ranks) (ctor_fields d c))
default_built d ranks base s c e = ap (λ b. cond b (Elem (record { 0 = s }) 0) (Con c (map (node_of_sort base ranks) (ctor_fields d c)))) e

pub same_ctor : (b c : CtorId) → Some (heads.Con b) ≡ Some (heads.Con c) → b ≡ c
same_ctor b c e = let h : heads.Con b ≡ heads.Con c = same_Some _ _ e in cc

module _ (d : Declarations) (several ranks : List ℕ) (ctors : List CtorId) (seconds : List Departure) (base : ℕ) (are : AreSeconds d several ctors seconds) (long : length several ≡ length d.sorts) where
  -- the default value of a sort has the signs of it
  pub default_sign : (g : Nodes) → HasAllDefaults d ranks ctors base g → (path : List ℕ) (s : ℕ) (h : Head) → s < length d.sorts → IsSign d ctors seconds s path h → HasHeadAt path h (node_point g (node_of_sort base ranks s))
  default_sign g all [] s h within (inl (free, is)) =
      let c = slice_get-there ctors s (omega (arith, are.chosen)) in
      head_at g (node_of_sort base ranks s) (default_node d ranks base s c.0) (all.stand s c.0 within c.1) ∙ ap (λ (x : Node). Some (node_head x)) (default_free d ranks base s c.0 free) ∙ ap Some (sym is)
  default_sign g all [] s h within (inr (other_kind, c, other, at_second, at_c, is)) =
      head_at g (node_of_sort base ranks s) (default_node d ranks base s c) (all.stand s c within at_c) ∙ ap (λ (x : Node). Some (node_head x)) (default_built d ranks base s c other_kind) ∙ ap Some (sym is)
  default_sign g all (place ∷ path) s h within (step, other_kind, at_second, place_is, rest) =
      let c = slice_get-there ctors s (omega (arith, are.chosen)) in
      let field = are.each s c.0 (Field step) c.1 at_second other_kind in
      let at : slice_get (ctor_fields d c.0) place ≡ Some step.next = ap (slice_get (ctor_fields d c.0)) place_is ∙ field.field in
      let stands = all.stand s c.0 within c.1 ∙ ap Some (default_built d ranks base s c.0 other_kind) in
      let inside : step.next < length d.sorts = subst (λ n. step.next < n) long (derived_within several step.next field.lower.0) in (
        node_point g (node_of_sort base ranks step.next),
        child_at g (node_of_sort base ranks s) c.0 (map (node_of_sort base ranks) (ctor_fields d c.0)) place (node_of_sort base ranks step.next) stands (slice_get-map_at (node_of_sort base ranks) (ctor_fields d c.0) place step.next at),
        default_sign g all path step.next h inside rest,
      )

  -- ---- nodes that depart

  -- a node with a second value in a place lacks a sign of the sort there
  pub child_lacks : Agrees → (g : Nodes) (n : NodeId) (c : CtorId) (ids : List NodeId) (place s : ℕ) (child : NodeId) (node : Node) → IsClosed g → IsSecondValue d ctors seconds g s child → node ≡ Con c ids → slice_get ids place ≡ Some child → n.0 ≡ length g
      → (path : List ℕ) × (h : Head) × IsSign d ctors seconds s path h × (HasHeadAt (place ∷ path) h (node_point (g ++ node ∷ []) n) → ⊥)
  child_lacks laws g n c ids place s child node closed is node_is at number =
      let (path, h, sign, none) = is.lacks in
      let stands : slice_get (g ++ node ∷ []) n.0 ≡ Some (Con c ids) = ap (slice_get (g ++ node ∷ [])) number ∙ slice_get-last g node ∙ ap Some node_is in
      let there_is = child_at (g ++ node ∷ []) n c ids place child stands at in (
        path,
        h,
        sign,
        λ (q, at_q, has).
            let same : q ≡ node_point (g ++ node ∷ []) child = same_Some _ _ (sym at_q ∙ there_is) in
            none (shorter_head_at laws g (node ∷ []) child path h closed (slice_get_within g child.0 is.sorted.0 is.sorted.1) (subst (λ (z : Point). HasHeadAt path h z) same has)),
      )

  -- and so does one that departs by a field
  pub departing_lacks : Agrees → (g : Nodes) (second : ℕ) (n : NodeId) (step : Step) (child : NodeId) (node : Node) → IsClosed g → IsSecondValue d ctors seconds g step.next child → slice_get (ctor_fields d step.ctor) step.place ≡ Some step.next → node ≡ node_with d ranks base step child → n.0 ≡ length g
      → (path : List ℕ) × (h : Head) × IsSign d ctors seconds step.next path h × (HasHeadAt (step.place ∷ path) h (node_point (g ++ node ∷ []) n) → ⊥)
  departing_lacks laws g second n step child node closed is field node_is number =
      child_lacks laws g n step.ctor (slice_set (map (node_of_sort base ranks) (ctor_fields d step.ctor)) step.place child) step.place step.next child node closed is node_is
      (set_there (map (node_of_sort base ranks) (ctor_fields d step.ctor)) step.place child (node_of_sort base ranks step.next) (slice_get-map_at (node_of_sort base ranks) (ctor_fields d step.ctor) step.place step.next field)) number

  -- the head of a node that was pushed
  pub pushed_head : (g : Nodes) (n : NodeId) (node : Node) → n.0 ≡ length g → head (node_point (g ++ node ∷ []) n) ≡ Some (node_head node)
  pushed_head g n node number = head_at (g ++ node ∷ []) n node (ap (slice_get (g ++ node ∷ [])) number ∙ slice_get-last g node)

  -- ---- second values

  -- what stands at the end of a second value lacks a sign of the sort
  second_lacks : Agrees → (g : Nodes) (second s : ℕ) (n : NodeId) (departure : Departure) (node : Node) → IsClosed g → s < length d.sorts → n.0 ≡ length g → slice_get seconds s ≡ Some departure
      → ((t : ℕ) → IsDerived several t → get_or several t 0 < get_or several s 0 → IsSecondValue d ctors seconds g t (node_of_sort second several t))
      → IsEndNode d several ranks base second s 1 departure node → LacksSign d ctors seconds s (node_point (g ++ node ∷ []) n)
  second_lacks laws g second s n departure node closed within number stored lower (inl (free, is)) = (
    [],
    heads.Elem (record { 0 = s }) 0,
    inl (free, refl),
    λ has.
        let e : Some (heads.Elem (record { 0 = s }) 1) ≡ Some (heads.Elem (record { 0 = s }) 0) = ap (λ (x : Node). Some (node_head x)) (sym is) ∙ sym (pushed_head g n node number) ∙ has in
        let k = same_element (record { 0 = s }) 1 0 e in
        omega (arith, k),
  )
  second_lacks laws g second s n Nowhere node closed within number stored lower (inr (other, is)) = absurd is
  second_lacks laws g second s n (Other ctor) node closed within number stored lower (inr (other, is)) =
      let c = slice_get-there ctors s (omega (arith, are.chosen)) in
      let differ = are.each s c.0 (Other ctor) c.1 stored other in (
        [],
        heads.Con c.0,
        inr (other, c.0, ctor, stored, c.1, refl),
        λ has.
            let e : Some (heads.Con ctor) ≡ Some (heads.Con c.0) = ap (λ (x : Node). Some (node_head x)) (sym is) ∙ sym (pushed_head g n node number) ∙ has in
            differ.differ (same_ctor ctor c.0 e),
      )
  second_lacks laws g second s n (Field step) node closed within number stored lower (inr (other, is)) =
      let c = slice_get-there ctors s (omega (arith, are.chosen)) in
      let field = are.each s c.0 (Field step) c.1 stored other in
      let own_field : slice_get (ctor_fields d step.ctor) step.place ≡ Some step.next = ap (λ (z : CtorId). slice_get (ctor_fields d z) step.place) field.ctor ∙ field.field in
      let (path, h, sign, none) = departing_lacks laws g second n step (node_of_sort second several step.next) node closed (lower step.next field.lower.0 field.lower.1) own_field is number in
      (step.place ∷ path, h, (step, other, stored, refl, sign), none)

  module _ (consistent : IsConsistent d) (own : HaveOwnConstructors d) (own_sels : HaveOwnSelectors d) (of_sorts : AreOfTheirSorts d) (of_ctors : AreOfTheirConstructors d) (listed : (s : ℕ) (c : CtorId) → s < length d.sorts → is_free_sort d s ≡ false → slice_get ctors s ≡ Some c → (index : ℕ) × (slice_get (ctors_of d s) index ≡ Some c)) where
    -- how the second value of a sort departs
    pub second_departs : (s : ℕ) (departure : Departure) → s < length d.sorts → slice_get seconds s ≡ Some departure → is_free_sort d s ≡ false → (c : CtorId) × ((index : ℕ) × (slice_get (ctors_of d s) index ≡ Some c)) × IsDeparture d several s c departure
    second_departs s departure within stored other =
        let c = slice_get-there ctors s (omega (arith, are.chosen)) in
        (c.0, listed s c.0 within other c.1, are.each s c.0 departure c.1 stored other)

    -- one more second value, that of the next sort of the queue
    pub seconds_step : Agrees → (queue : List ℕ) → IsOrder several queue → (g : Nodes) (second index s : ℕ) (n : NodeId) (departure : Departure) (node : Node) → IsClosed g → slice_get queue index ≡ Some s → length g ≡ second + index → n.0 ≡ length g → slice_get seconds s ≡ Some departure
        → HasSeconds d several ctors seconds second g index → IsEndNode d several ranks base second s 1 departure node → HasSeconds d several ctors seconds second (g ++ node ∷ []) (index + 1)
    seconds_step laws queue order g second index s n departure node closed at count number stored all is = λ t derived few.
        let rank : get_or several s 0 ≡ suc index = order.at index s at in
        let within : s < length d.sorts = subst (λ m. s < m) long (derived_within several s (omega arith)) in
        elim (cases_order (get_or several t 0) (suc index)) [
          | inl e ↦
              let same : s ≡ t = same_Some _ _ (sym at ∙ order.of index t e) in
              let place : n ≡ node_of_sort second several s = ap (λ m. record { 0 = m }) (omega (arith, count, number, rank)) in
              let lacks = second_lacks laws g second s n departure node closed within number stored (λ u derived_u less. all u derived_u (omega arith)) is in
              let stands : slice_get (g ++ node ∷ []) n.0 ≡ Some node = ap (slice_get (g ++ node ∷ [])) number ∙ slice_get-last g node in
              let new : IsSecondValue d ctors seconds (g ++ node ∷ []) s n = record { sorted = (node, stands, end_sort d consistent own own_sels of_sorts of_ctors several ranks base s second 1 departure node within (second_departs s departure within stored) is); lacks = lacks } in
              subst (λ m. IsSecondValue d ctors seconds (g ++ node ∷ []) m (node_of_sort second several m)) same (subst (λ (z : NodeId). IsSecondValue d ctors seconds (g ++ node ∷ []) s z) place new)
          | inr (inl less) ↦ longer_second laws d ctors seconds g (node ∷ []) t (node_of_sort second several t) closed (all t derived (omega arith))
          | inr (inr more) ↦ absurd (omega arith)
        ]
