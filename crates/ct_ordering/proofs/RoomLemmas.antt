-- How much is still to be done: less after each step.
use Rattle.std.proofs.Common.{◌≡◌, ℕ, zero, suc, ◌+◌, ◌<◌, List, [], ◌∷◌, ◌++◌, length, slice_set, refl, ap, arith}
use Rattle.std.proofs.lemmas.Option.{none-some, same_Some, slice_get_within}
use Rattle.ct_ordering.specs.declared.hop.Hop.{Hop}
use Rattle.ct_ordering.specs.declared.search.Colour.{Colour}
use Rattle.ct_ordering.specs.declared.search.Colour.TheVariants.{White, Grey, Black}
use Rattle.ct_ordering.specs.Graph.{Graph, HasKid}
use Rattle.ct_ordering.specs.Search.{HasColour, first_hop, next_hop, room, left, left_of, steps_left}

-- a white point that is met takes its steps off
room-met : (kids : ℕ → List ℕ) (first : ℕ) (colours : List Colour) (n point depth : ℕ) → first + n ≡ point → HasColour colours n White → room kids first (slice_set colours n (Grey depth)) + (length (kids point) + 2) ≡ room kids first colours
room-met kids first [] n point depth e white = absurd (none-some White white)
room-met kids first (White ∷ colours) zero point depth e white =
    let same : length (kids first) ≡ length (kids point) = ap (λ k. length (kids k)) (omega (arith, e)) in
    omega (arith, same)
room-met kids first (Grey other ∷ colours) zero point depth e white = let same = same_Some (Grey other) White white in cc
room-met kids first (Black ∷ colours) zero point depth e white = let same = same_Some Black White white in cc
room-met kids first (White ∷ colours) (suc n) point depth e white =
    let later = room-met kids (first + 1) colours n point depth (omega (arith, e)) white in
    omega (arith, later)
room-met kids first (Grey other ∷ colours) (suc n) point depth e white = room-met kids (first + 1) colours n point depth (omega (arith, e)) white
room-met kids first (Black ∷ colours) (suc n) point depth e white = room-met kids (first + 1) colours n point depth (omega (arith, e)) white

-- a grey point that is done takes nothing off
room-done : (kids : ℕ → List ℕ) (first : ℕ) (colours : List Colour) (n depth : ℕ) → HasColour colours n (Grey depth) → room kids first (slice_set colours n Black) ≡ room kids first colours
room-done kids first [] n depth grey = refl
room-done kids first (White ∷ colours) zero depth grey = let same = same_Some White (Grey depth) grey in cc
room-done kids first (Grey other ∷ colours) zero depth grey = refl
room-done kids first (Black ∷ colours) zero depth grey = refl
room-done kids first (White ∷ colours) (suc n) depth grey = ap (λ k. length (kids first) + 2 + k) (room-done kids (first + 1) colours n depth grey)
room-done kids first (Grey other ∷ colours) (suc n) depth grey = room-done kids (first + 1) colours n depth grey
room-done kids first (Black ∷ colours) (suc n) depth grey = room-done kids (first + 1) colours n depth grey

-- one hop more
left-push : (kids : ℕ → List ℕ) (stack : List Hop) (hop : Hop) → left kids (stack ++ hop ∷ []) ≡ left kids stack + left_of kids hop
left-push kids [] hop = omega arith
left-push kids (x ∷ stack) hop = let later = left-push kids stack hop in omega (arith, later)

pub less-entered : (g : Graph) (colours : List Colour) (stack : List Hop) (point : ℕ) → HasColour colours point White → steps_left g (slice_set colours point (Grey (length stack))) (stack ++ first_hop point ∷ []) < steps_left g colours stack
less-entered g colours stack point white = omega (arith, room-met g.kids 0 colours point point (length stack) (omega arith) white, left-push g.kids stack (first_hop point))

pub less-finished : (g : Graph) (colours : List Colour) (stack : List Hop) (top : Hop) (depth : ℕ) → HasColour colours top.point (Grey depth) → steps_left g (slice_set colours top.point Black) stack < steps_left g colours (stack ++ top ∷ [])
less-finished g colours stack top depth grey = omega (arith, room-done g.kids 0 colours top.point depth grey, left-push g.kids stack top)

pub less-passed : (g : Graph) (colours : List Colour) (stack : List Hop) (top : Hop) (kid : ℕ) → HasKid g top.point top.place kid → steps_left g colours (stack ++ next_hop top ∷ []) < steps_left g colours (stack ++ top ∷ [])
less-passed g colours stack top kid has =
    omega (arith, slice_get_within (g.kids top.point) top.place kid has, left-push g.kids stack top, left-push g.kids stack (next_hop top))
