-- The steps of the search, from what their functions return and write.
use Rattle.std.proofs.Common.{◌≡◌, ℕ, ◌<◌, inl, inr, List, [], ◌∷◌, ◌++◌, length, Option, Some, None, Result, Ok, Err, IfOk, OnOk, slice_get, slice_set, get_or, drop, refl, sym, ap, subst, ◌∙◌}
use Rattle.std.proofs.lemmas.Option.{none-some, slice_get_read, slice_get_within}
use Rattle.ct_ordering.specs.declared.hop.Hop.{Hop}
use Rattle.ct_ordering.specs.declared.search.Colour.{Colour}
use Rattle.ct_ordering.specs.declared.search.Colour.TheVariants.{White, Grey, Black}
use Rattle.ct_ordering.specs.Graph.{Graph, HasKid}
use Rattle.ct_ordering.specs.Order.{IsCycle}
use Rattle.ct_ordering.specs.Search.{HasColour, first_hop, next_hop, IsUnderWay, StayMet, IsStep, IsStepOrCycle, IsWalk}
use Rattle.ct_ordering.proofs.ListLemmas.{slice_set-cases, slice_set-here}
use Rattle.ct_ordering.proofs.RoomLemmas.{less-entered, less-finished, less-passed}
use Rattle.ct_ordering.proofs.SearchLemmas.{white-grey, white-black, top-grey, leads-top, LeadsTo, two-points, under_way-entered, under_way-finished, under_way-passed, cycle-closed}

-- what is read of the colours
pub colour-read : (colours : List Colour) (point : ℕ) (colour value : Colour) → point < length colours → colour ≡ get_or colours point colour → colour ≡ value → HasColour colours point value
colour-read colours point colour value within read is = slice_get_read colours (length colours) point colour refl within read ∙ ap Some is

-- no point gets white by a write of another colour
stay-set : (colours : List Colour) (point : ℕ) (colour : Colour) → (White ≡ colour → ⊥) → StayMet colours (slice_set colours point colour)
stay-set colours point colour other i is =
    elim (slice_set-cases colours point colour i White is) [ inl here ↦ absurd (other (sym here.1)) | inr old ↦ old.1 ]

module _ {E : Type 0} (g : Graph) (colours : List Colour) (order : List ℕ) (rest : List Hop) (top : Hop) (u : IsUnderWay g colours order (rest ++ top ∷ [])) where
  -- all kids were looked at
  pub step-finished : (new : List Colour) (longer : List ℕ) (r : Result (Option ℕ) E) → slice_get (g.kids top.point) top.place ≡ None → IfOk r (λ found. found ≡ None) → OnOk r (new ≡ slice_set colours top.point Black) → OnOk r (longer ≡ order ++ top.point ∷ [])
      → IfOk r (λ found. IsStepOrCycle g colours new longer (rest ++ top ∷ []) rest found)
  step-finished new longer (Err e) none found new_is longer_is = tt
  step-finished new longer (Ok x) none found new_is longer_is =
      let step : IsStep g colours (slice_set colours top.point Black) (order ++ top.point ∷ []) (rest ++ top ∷ []) rest =
      record {
        under_way = under_way-finished g colours order rest top none u;
        stay = stay-set colours top.point Black white-black;
        less = less-finished g colours rest top (length rest) (top-grey g colours order rest top u);
      } in
      subst (λ (o : Option ℕ). IsStepOrCycle g colours new longer (rest ++ top ∷ []) rest o) (sym found)
      (subst (λ (c : List Colour). IsStep g colours c longer (rest ++ top ∷ []) rest) (sym new_is)
      (subst (λ (l : List ℕ). IsStep g colours (slice_set colours top.point Black) l (rest ++ top ∷ []) rest) (sym longer_is) step))

  -- the kid is white
  pub step-descended : (new : List Colour) (same : List ℕ) (stack : List Hop) (kid : ℕ) (r : Result (Option ℕ) E) → HasKid g top.point top.place kid → HasColour colours kid White → IfOk r (λ found. found ≡ None) → OnOk r (new ≡ slice_set colours kid (Grey (length (rest ++ top ∷ [])))) → OnOk r (same ≡ order) → OnOk r (stack ≡ (rest ++ top ∷ []) ++ first_hop kid ∷ [])
      → IfOk r (λ found. IsStepOrCycle g colours new same (rest ++ top ∷ []) stack found)
  step-descended new same stack kid (Err e) has white found new_is same_is stack_is = tt
  step-descended new same stack kid (Ok x) has white found new_is same_is stack_is =
      let old = rest ++ top ∷ [] in
      let grey = Grey (length old) in
      let step : IsStep g colours (slice_set colours kid grey) order old (old ++ first_hop kid ∷ []) =
      record {
        under_way = under_way-entered g colours order old kid white (leads-top g rest top kid has) u;
        stay = stay-set colours kid grey (white-grey (length old));
        less = less-entered g colours old kid white;
      } in
      subst (λ (o : Option ℕ). IsStepOrCycle g colours new same old stack o) (sym found)
      (subst (λ (c : List Colour). IsStep g colours c same old stack) (sym new_is)
      (subst (λ (l : List ℕ). IsStep g colours (slice_set colours kid grey) l old stack) (sym same_is)
      (subst (λ (s : List Hop). IsStep g colours (slice_set colours kid grey) order old s) (sym stack_is) step)))

  -- the kid is black
  pub step-passed : (stack : List Hop) (kid : ℕ) (r : Result (Option ℕ) E) → HasKid g top.point top.place kid → HasColour colours kid Black → IfOk r (λ found. found ≡ None) → OnOk r (stack ≡ rest ++ next_hop top ∷ [])
      → IfOk r (λ found. IsStepOrCycle g colours colours order (rest ++ top ∷ []) stack found)
  step-passed stack kid (Err e) has black found stack_is = tt
  step-passed stack kid (Ok x) has black found stack_is =
      let old = rest ++ top ∷ [] in
      let step : IsStep g colours colours order old (rest ++ next_hop top ∷ []) =
      record {
        under_way = under_way-passed g colours order rest top kid has black u;
        stay = λ i is. is;
        less = less-passed g colours rest top kid has;
      } in
      subst (λ (o : Option ℕ). IsStepOrCycle g colours colours order old stack o) (sym found)
      (subst (λ (s : List Hop). IsStep g colours colours order old s) (sym stack_is) step)

  -- the kid is grey
  pub step-closed : (stack : List Hop) (kid depth : ℕ) (r : Result (Option ℕ) E) → HasKid g top.point top.place kid → HasColour colours kid (Grey depth) → IfOk r (λ found. found ≡ Some depth) → OnOk r (stack ≡ rest ++ top ∷ [])
      → IfOk r (λ found. IsStepOrCycle g colours colours order (rest ++ top ∷ []) stack found)
  step-closed stack kid depth (Err e) has grey found stack_is = tt
  step-closed stack kid depth (Ok x) has grey found stack_is =
      let old = rest ++ top ∷ [] in
      subst (λ (o : Option ℕ). IsStepOrCycle g colours colours order old stack o) (sym found)
      (subst (λ (s : List Hop). (depth < length s) × IsCycle g (drop depth s)) (sym stack_is) (cycle-closed g colours order rest top kid depth has grey u))

-- ---- walks

-- a walk begins at a white point
pub walk-start : (g : Graph) (from : ℕ) (colours new : List Colour) (order same : List ℕ) (empty stack : List Hop) → HasColour colours from White → IsUnderWay g colours order [] → empty ≡ [] → new ≡ slice_set colours from (Grey (length empty)) → same ≡ order → stack ≡ empty ++ first_hop from ∷ []
    → IsWalk g from colours new same stack
walk-start g from colours new order same empty stack white u empty_is new_is same_is stack_is =
    let grey = Grey 0 in
    let written = slice_set colours from grey in
    let leads : LeadsTo g [] from = λ hop index at last. absurd (none-some hop at) in
    let walk : IsWalk g from colours written order (first_hop from ∷ []) =
    record {
      under_way = under_way-entered g colours order [] from white leads u;
      stay = stay-set colours from grey (white-grey 0);
      met = λ is. two-points written from from White grey is (slice_set-here colours from grey (slice_get_within colours from White white)) (white-grey 0) refl;
    } in
    let new_written : new ≡ written = new_is ∙ ap (λ (s : List Hop). slice_set colours from (Grey (length s))) empty_is in
    let stack_one : stack ≡ first_hop from ∷ [] = stack_is ∙ ap (λ (s : List Hop). s ++ first_hop from ∷ []) empty_is in
    subst (λ (c : List Colour). IsWalk g from colours c same stack) (sym new_written)
    (subst (λ (l : List ℕ). IsWalk g from colours written l stack) (sym same_is)
    (subst (λ (s : List Hop). IsWalk g from colours written order s) (sym stack_one) walk))
