-- What holds while the search is under way, after each kind of step.
use Rattle.std.proofs.Common.{◌≡◌, ℕ, ◌+◌, ◌-◌, ◌<◌, ◌⊎◌, inl, inr, List, [], ◌∷◌, ◌++◌, length, drop, Option, Some, None, slice_get, slice_set, get_or, All, refl, sym, ap, subst, ◌∙◌, arith}
use Rattle.std.proofs.lemmas.List.{length-set, length-drop, length_push}
use Rattle.std.proofs.lemmas.List.Elements.{All-drop}
use Rattle.std.proofs.lemmas.Option.{same_Some, slice_get_within, slice_get-get_or}
use Rattle.ct_lemmas.proofs.Lists.{slice_get-append_left, slice_get-last, slice_get-push_cases}
use Rattle.ct_lemmas.proofs.Numbers.{last_or_before}
use Rattle.ct_ordering.specs.declared.hop.Hop.{Hop}
use Rattle.ct_ordering.specs.declared.search.Colour.{Colour}
use Rattle.ct_ordering.specs.declared.search.Colour.TheVariants.{White, Grey, Black}
use Rattle.ct_ordering.specs.Graph.{Graph, HasKid}
use Rattle.ct_ordering.specs.Order.{GoesTo, IsPath, IsCycle}
use Rattle.ct_ordering.specs.Search.{HasColour, StandsIn, IsAtDepth, first_hop, next_hop, IsPartialOrder, IsUnderWay}
use Rattle.ct_ordering.proofs.ListLemmas.{none-past, slice_get-drop, slice_set-cases, slice_set-here, slice_set-other}

-- ---- colours

pub white-grey : (depth : ℕ) → White ≡ Grey depth → ⊥
white-grey depth e = cc

pub white-black : White ≡ Black → ⊥
white-black e = cc

grey-black : (depth : ℕ) → Grey depth ≡ Black → ⊥
grey-black depth e = cc

-- the depth of a grey point
abbrev depth_of : Colour → Option ℕ
depth_of White = None
depth_of (Grey depth) = Some depth
depth_of Black = None

same_Grey : (a b : ℕ) → Grey a ≡ Grey b → a ≡ b
same_Grey a b e = same_Some a b (ap depth_of e)

-- points of two colours are two
pub two-points : (colours : List Colour) (i j : ℕ) (a b : Colour) → HasColour colours i a → HasColour colours j b → (a ≡ b → ⊥) → i ≡ j → ⊥
two-points colours i j a b at_i at_j other same = other (same_Some a b (sym at_i ∙ ap (slice_get colours) same ∙ at_j))

-- ---- the stack

-- what is on the stack is so with one hop more
at-left : (stack : List Hop) (top : Hop) (depth point : ℕ) → IsAtDepth stack depth point → IsAtDepth (stack ++ top ∷ []) depth point
at-left stack top depth point at = (at.0, slice_get-append_left stack (top ∷ []) depth at.0 at.1, at.2)

-- the hop on top
at-top : (stack : List Hop) (top : Hop) → IsAtDepth (stack ++ top ∷ []) (length stack) top.point
at-top stack top = (top, slice_get-last stack top, refl)

-- what is on the stack with one hop more was there before, or is that hop
at-cases : (stack : List Hop) (top : Hop) (depth point : ℕ) → IsAtDepth (stack ++ top ∷ []) depth point → IsAtDepth stack depth point ⊎ ((depth ≡ length stack) × (top.point ≡ point))
at-cases stack top depth point at =
    elim (slice_get-push_cases stack top at.0 depth at.1) [
      | inl before ↦ inl (at.0, before, at.2)
      | inr last ↦ inr (last.0, ap (λ (hop : Hop). hop.point) last.1 ∙ at.2)
    ]

-- only the points count
at-replaced : (stack : List Hop) (top new : Hop) (depth point : ℕ) → top.point ≡ new.point → IsAtDepth (stack ++ top ∷ []) depth point → IsAtDepth (stack ++ new ∷ []) depth point
at-replaced stack top new depth point same at =
    elim (at-cases stack top depth point at) [
      | inl before ↦ at-left stack new depth point before
      | inr last ↦ (new, subst (λ (k : ℕ). slice_get (stack ++ new ∷ []) k ≡ Some new) (sym last.0) (slice_get-last stack new), sym same ∙ last.1)
    ]

-- a part of a path is a path
path-left : (g : Graph) (stack : List Hop) (top : Hop) → IsPath g (stack ++ top ∷ []) → IsPath g stack
path-left g stack top path index hop next at at_next =
    path index hop next (slice_get-append_left stack (top ∷ []) index hop at) (slice_get-append_left stack (top ∷ []) (index + 1) next at_next)

-- the last hop of a path goes to this point
abbrev pub LeadsTo : Graph → List Hop → ℕ → Type 0
LeadsTo g stack point = (hop : Hop) (index : ℕ) → slice_get stack index ≡ Some hop → index + 1 ≡ length stack → GoesTo g hop point

path-top : (g : Graph) (stack : List Hop) (top : Hop) → IsPath g (stack ++ top ∷ []) → LeadsTo g stack top.point
path-top g stack top path hop index at last =
    path index hop top (slice_get-append_left stack (top ∷ []) index hop at) (subst (λ (k : ℕ). slice_get (stack ++ top ∷ []) k ≡ Some top) (sym last) (slice_get-last stack top))

path-push : (g : Graph) (stack : List Hop) (top : Hop) → IsPath g stack → LeadsTo g stack top.point → IsPath g (stack ++ top ∷ [])
path-push g stack top path leads index hop next at at_next =
    elim (slice_get-push_cases stack top next (index + 1) at_next) [
      | inl next_before ↦
          let within = slice_get_within stack (index + 1) next next_before in
          elim (slice_get-push_cases stack top hop index at) [
            | inl before ↦ path index hop next before next_before
            | inr last ↦ absurd (omega (arith, within, last.0))
          ]
      | inr next_last ↦ elim (slice_get-push_cases stack top hop index at) [
        | inl before ↦ subst (GoesTo g hop) (ap (λ (h : Hop). h.point) next_last.1) (leads hop index before next_last.0)
        | inr last ↦ absurd (omega (arith, next_last.0, last.0))
      ]
    ]

-- a hop with an edge to the point, on top, leads there
pub leads-top : (g : Graph) (stack : List Hop) (top : Hop) (kid : ℕ) → HasKid g top.point top.place kid → LeadsTo g (stack ++ top ∷ []) kid
leads-top g stack top kid has hop index at last =
    elim (slice_get-push_cases stack top hop index at) [
      | inl before ↦ absurd (omega (arith, slice_get_within stack index hop before, last, length_push stack top))
      | inr is ↦ subst (λ (h : Hop). GoesTo g h kid) is.1 has
    ]

-- ---- the order

stands-left : (list : List ℕ) (new point : ℕ) → StandsIn list point → StandsIn (list ++ new ∷ []) point
stands-left list new point at = (at.0, slice_get-append_left list (new ∷ []) at.0 point at.1)

-- a new point whose kids stand in the order
partial-push : (g : Graph) (order : List ℕ) (new : ℕ) → (StandsIn order new → ⊥) → ((place kid : ℕ) → HasKid g new place kid → StandsIn order kid) → IsPartialOrder g order → IsPartialOrder g (order ++ new ∷ [])
partial-push g order new is_new kids partial = record {
  once = λ point first second at_first at_second.
      elim (slice_get-push_cases order new point first at_first) [
        | inl one ↦ elim (slice_get-push_cases order new point second at_second) [
          | inl other ↦ partial.once point first second one other
          | inr last ↦ absurd (is_new (first, one ∙ ap Some (sym last.1)))
        ]
        | inr last ↦ elim (slice_get-push_cases order new point second at_second) [
          | inl other ↦ absurd (is_new (second, other ∙ ap Some (sym last.1)))
          | inr other ↦ last.0 ∙ sym other.0
        ]
      ];
  before = λ point place kid later has at.
      elim (slice_get-push_cases order new point later at) [
        | inl old ↦
            let found = partial.before point place kid later has old in
            (found.0, found.1, slice_get-append_left order (new ∷ []) found.0 kid found.2)
        | inr last ↦
            let found = kids place kid (subst (λ (p : ℕ). HasKid g p place kid) (sym last.1) has) in
            (found.0, omega (arith, slice_get_within order found.0 kid found.1, last.0), slice_get-append_left order (new ∷ []) found.0 kid found.1)
      ];
}

-- ---- steps

module _ (g : Graph) (colours : List Colour) (order : List ℕ) (rest : List Hop) (top : Hop) (u : IsUnderWay g colours order (rest ++ top ∷ [])) where
  -- the point on top is grey
  pub top-grey : HasColour colours top.point (Grey (length rest))
  top-grey = (u.grey top.point (length rest)).1 (at-top rest top)

  -- it is a point
  pub top-within : top.point < g.count
  top-within = subst (λ (n : ℕ). top.point < n) u.long (slice_get_within colours top.point (Grey (length rest)) top-grey)

-- a white point goes onto a stack that leads there
pub under_way-entered : (g : Graph) (colours : List Colour) (order : List ℕ) (stack : List Hop) (point : ℕ) → HasColour colours point White → LeadsTo g stack point → IsUnderWay g colours order stack
    → IsUnderWay g (slice_set colours point (Grey (length stack))) order (stack ++ first_hop point ∷ [])
under_way-entered g colours order stack point white leads u =
    let depth = length stack in
    let top = first_hop point in
    let new = slice_set colours point (Grey depth) in
    let within : point < length colours = slice_get_within colours point White white in
    record {
      long = length-set colours point (Grey depth) ∙ u.long;
      black = λ i. (
        λ is. elim (slice_set-cases colours point (Grey depth) i Black is) [ inl here ↦ absurd (grey-black depth here.1) | inr other ↦ (u.black i).0 other.1 ],
        λ at. let was = (u.black i).1 at in slice_set-other colours point (Grey depth) i Black (λ same. two-points colours point i White Black white was white-black (sym same)) was,
      );
      grey = λ i k. (
        λ is. elim (slice_set-cases colours point (Grey depth) i (Grey k) is) [
          | inl here ↦ (top, subst (λ (n : ℕ). slice_get (stack ++ top ∷ []) n ≡ Some top) (same_Grey depth k here.1) (slice_get-last stack top), sym here.0)
          | inr other ↦ at-left stack top k i ((u.grey i k).0 other.1)
        ],
        λ at. elim (at-cases stack top k i at) [
          | inl before ↦ let was = (u.grey i k).1 before in slice_set-other colours point (Grey depth) i (Grey k) (λ same. two-points colours point i White (Grey k) white was (white-grey k) (sym same)) was
          | inr last ↦ subst (λ (p : ℕ). HasColour new p (Grey k)) last.1 (subst (λ (n : ℕ). HasColour new point (Grey n)) (sym last.0) (slice_set-here colours point (Grey depth) within))
        ],
      );
      partial = u.partial;
      path = path-push g stack top u.path leads;
      passed = λ k hop at place kid before has.
          elim (slice_get-push_cases stack top hop k at) [
            | inl old ↦ u.passed k hop old place kid before has
            | inr last ↦ absurd (omega (arith, before, ap (λ (h : Hop). h.place) last.1))
          ];
    }

-- a point all of whose kids were passed is done
pub under_way-finished : (g : Graph) (colours : List Colour) (order : List ℕ) (rest : List Hop) (top : Hop) → slice_get (g.kids top.point) top.place ≡ None → IsUnderWay g colours order (rest ++ top ∷ [])
    → IsUnderWay g (slice_set colours top.point Black) (order ++ top.point ∷ []) rest
under_way-finished g colours order rest top none u =
    let point = top.point in
    let new = slice_set colours point Black in
    let grey = top-grey g colours order rest top u in
    let within : point < length colours = slice_get_within colours point (Grey (length rest)) grey in
    let is_new : StandsIn order point → ⊥ = λ at. two-points colours point point (Grey (length rest)) Black grey ((u.black point).1 at) (grey-black (length rest)) refl in
    record {
      long = length-set colours point Black ∙ u.long;
      black = λ i. (
        λ is. elim (slice_set-cases colours point Black i Black is) [
          | inl here ↦ (length order, slice_get-last order point ∙ ap Some (sym here.0))
          | inr other ↦ stands-left order point i ((u.black i).0 other.1)
        ],
        λ at. elim (slice_get-push_cases order point i at.0 at.1) [
          | inl old ↦ let was = (u.black i).1 (at.0, old) in slice_set-other colours point Black i Black (λ same. two-points colours point i (Grey (length rest)) Black grey was (grey-black (length rest)) (sym same)) was
          | inr last ↦ subst (λ (p : ℕ). HasColour new p Black) last.1 (slice_set-here colours point Black within)
        ],
      );
      grey = λ i k. (
        λ is. elim (slice_set-cases colours point Black i (Grey k) is) [
          | inl here ↦ absurd (grey-black k (sym here.1))
          | inr other ↦ elim (at-cases rest top k i ((u.grey i k).0 other.1)) [
            | inl before ↦ before
            | inr last ↦ absurd (other.0 (sym last.1))
          ]
        ],
        λ at. let was = (u.grey i k).1 (at-left rest top k i at) in
            let below = slice_get_within rest k at.0 at.1 in
            slice_set-other colours point Black i (Grey k) (λ same. two-points colours point i (Grey (length rest)) (Grey k) grey was (λ e. omega (arith, below, same_Grey (length rest) k e)) (sym same)) was,
      );
      partial = partial-push g order point is_new (λ place kid has. u.passed (length rest) top (slice_get-last rest top) place kid (omega (arith, none-past (g.kids point) top.place none, slice_get_within (g.kids point) place kid has)) has) u.partial;
      path = path-left g rest top u.path;
      passed = λ k hop at place kid before has. stands-left order point kid (u.passed k hop (slice_get-append_left rest (top ∷ []) k hop at) place kid before has);
    }

-- a kid that is done is passed
pub under_way-passed : (g : Graph) (colours : List Colour) (order : List ℕ) (rest : List Hop) (top : Hop) (kid : ℕ) → HasKid g top.point top.place kid → HasColour colours kid Black → IsUnderWay g colours order (rest ++ top ∷ [])
    → IsUnderWay g colours order (rest ++ next_hop top ∷ [])
under_way-passed g colours order rest top kid has black u =
    let new = next_hop top in
    record {
      long = u.long;
      black = u.black;
      grey = λ i k. (
        λ is. at-replaced rest top new k i refl ((u.grey i k).0 is),
        λ at. (u.grey i k).1 (at-replaced rest new top k i refl at),
      );
      partial = u.partial;
      path = path-push g rest new (path-left g rest top u.path) (path-top g rest top u.path);
      passed = λ k hop at place other before has_other.
          elim (slice_get-push_cases rest new hop k at) [
            | inl old ↦ u.passed k hop (slice_get-append_left rest (top ∷ []) k hop old) place other before has_other
            | inr last ↦
                let has_here : HasKid g top.point place other = subst (λ (h : Hop). HasKid g h.point place other) (sym last.1) has_other in
                elim (last_or_before place top.place (omega (arith, before, ap (λ (h : Hop). h.place) last.1))) [
                  | inl lower ↦ u.passed (length rest) top (slice_get-last rest top) place other lower has_here
                  | inr same ↦
                      let is : other ≡ kid = same_Some other kid (sym has_here ∙ ap (slice_get (g.kids top.point)) same ∙ has) in
                      subst (StandsIn order) (sym is) ((u.black kid).0 black)
                ]
          ];
    }

-- the stack holds points
stack-within : (g : Graph) (colours : List Colour) (order : List ℕ) (stack : List Hop) → IsUnderWay g colours order stack → All (λ hop. hop.point < g.count) stack
stack-within g colours order stack u k d within =
    let hop = get_or stack k d in
    let grey = (u.grey hop.point k).1 (hop, slice_get-get_or stack k d within, refl) in
    subst (λ (n : ℕ). hop.point < n) u.long (slice_get_within colours hop.point (Grey k) grey)

-- a kid that is on the stack gives a cycle
pub cycle-closed : (g : Graph) (colours : List Colour) (order : List ℕ) (rest : List Hop) (top : Hop) (kid depth : ℕ) → HasKid g top.point top.place kid → HasColour colours kid (Grey depth) → IsUnderWay g colours order (rest ++ top ∷ [])
    → (depth < length (rest ++ top ∷ [])) × IsCycle g (drop depth (rest ++ top ∷ []))
cycle-closed g colours order rest top kid depth has grey u =
    let stack = rest ++ top ∷ [] in
    let start = (u.grey kid depth).0 grey in
    let within : depth < length stack = slice_get_within stack depth start.0 start.1 in
    let long : length stack ≡ length rest + 1 = length_push rest top in
    let shorter : length (drop depth stack) ≡ length stack - depth = length-drop depth stack in (
      within,
      record {
        some = omega (arith, within, shorter);
        within = All-drop (λ (hop : Hop). hop.point < g.count) depth stack (stack-within g colours order stack u);
        path = λ index hop next at at_next.
            u.path (depth + index) hop next (sym (slice_get-drop depth stack index (depth + index) refl) ∙ at) (sym (slice_get-drop depth stack (index + 1) (depth + index + 1) (omega arith)) ∙ at_next);
        closed = λ first last at_first at_last.
            let is_start : start.0 ≡ first = same_Some start.0 first (sym start.1 ∙ sym (slice_get-drop depth stack 0 depth (omega arith)) ∙ at_first) in
            let is_top : top ≡ last = same_Some top last (sym (slice_get-last rest top) ∙ sym (slice_get-drop depth stack (length (drop depth stack) - 1) (length rest) (omega (arith, within, long, shorter))) ∙ at_last) in
            let to : kid ≡ first.point = sym start.2 ∙ ap (λ (h : Hop). h.point) is_start in
            subst (λ (h : Hop). GoesTo g h first.point) is_top (subst (GoesTo g top) to has);
      },
    )
