-- Walks over a graph from a stack of visits: one step, and what stands in the order after them.
use Rattle.std.proofs.Common.{◌≡◌, ℕ, zero, suc, ◌+◌, ◌<◌, ◌≤◌, ◌⊎◌, inl, inr, Bool, true, false, List, [], ◌∷◌, ◌++◌, length, Option, Some, None, slice_get, refl, sym, ap, subst, ◌∙◌, arith, length-append, replicate, slice_set, slice_index_or, option_map, All, true≢false}
use Rattle.std.proofs.lemmas.List.{append-nil, append_assoc, length-set, length-replicate}
use Rattle.std.proofs.lemmas.Option.{none-some, same_Some, slice_get_within}
use Rattle.std.proofs.lemmas.List.Elements.{All-nil, All-push, All-pop}
use Rattle.ct_lemmas.proofs.Options.{option_map-source}
use Rattle.ct_values.specs.declared.node.NodeId.{NodeId}
use Rattle.ct_values.specs.declared.node.Node.{Node}
use Rattle.ct_values.specs.declared.postorder.Visit.{Visit}
use Rattle.ct_values.specs.declared.postorder.Visit.TheVariants.{Meet, Turn}
use Rattle.ct_values.specs.Graph.{Nodes, node_children}
use Rattle.ct_values.specs.Postorder.{StandsIn, numbered, HasEach, visited, AreVisits, AreAdded, IsMet, EachMetStands, StayMet, room, IsUnderWay, WillBeMet, IsMeeting, IsStep}

-- ---- what stands in a list

module _ {X : Type 0} where
  -- what stands in a prefix of a list stands in the list
  pub stands-left : (x : X) (xs ys : List X) → StandsIn x xs → StandsIn x (xs ++ ys)
  stands-left x [] ys stands = absurd (none-some x stands.1)
  stands-left x (y ∷ xs) ys (zero, at) = (0, at)
  stands-left x (y ∷ xs) ys (suc n, at) = let later = stands-left x xs ys (n, at) in (suc later.0, later.1)

  -- what stands in the rest of a list stands in the list
  pub stands-right : (x : X) (xs ys : List X) → StandsIn x ys → StandsIn x (xs ++ ys)
  stands-right x [] ys stands = stands
  stands-right x (y ∷ xs) ys stands = let later = stands-right x xs ys stands in (suc later.0, later.1)

  -- what stands in two lists put together stands in one of them
  pub stands-split : (x : X) (xs ys : List X) → StandsIn x (xs ++ ys) → StandsIn x xs ⊎ StandsIn x ys
  stands-split x [] ys stands = inr stands
  stands-split x (y ∷ xs) ys (zero, at) = inl (0, at)
  stands-split x (y ∷ xs) ys (suc n, at) = elim (stands-split x xs ys (n, at)) [ inl s ↦ inl (suc s.0, s.1) | inr s ↦ inr s ]

  -- the last of a list stands in it
  pub stands-last : (x : X) (xs : List X) → StandsIn x (xs ++ x ∷ [])
  stands-last x xs = stands-right x xs (x ∷ []) (0, refl)

  -- what stands in a list of one is that one
  pub stands-one : (x y : X) → StandsIn x (y ∷ []) → y ≡ x
  stands-one x y (zero, at) = same_Some y x at
  stands-one x y (suc n, at) = absurd (none-some x at)

-- ---- room

-- a node that is met takes its place and its children off the room
room-meet : (g : Nodes) (met : List Bool) (n : ℕ) (node : Node) → slice_get g n ≡ Some node → slice_get met n ≡ Some false → room g (slice_set met n true) + (length (node_children node) + 2) ≡ room g met
room-meet [] met n node at unmet = absurd (none-some node at)
room-meet (k ∷ g) [] n node at unmet = absurd (none-some false unmet)
room-meet (k ∷ g) (true ∷ met) zero node at unmet = absurd (true≢false (same_Some true false unmet))
room-meet (k ∷ g) (false ∷ met) zero node at unmet =
    let same : length (node_children k) ≡ length (node_children node) = ap (λ x. length (node_children x)) (same_Some k node at) in
    omega (arith, same)
room-meet (k ∷ g) (true ∷ met) (suc n) node at unmet = room-meet g met n node at unmet
room-meet (k ∷ g) (false ∷ met) (suc n) node at unmet = let later = room-meet g met n node at unmet in omega (arith, later)

-- ---- met nodes

-- what is met after one index was set was met before, or is that index
set-at : (met : List Bool) (n i : ℕ) → IsMet (slice_set met n true) i → IsMet met i ⊎ (n ≡ i)
set-at [] n i at = absurd (none-some true at)
set-at (b ∷ met) zero zero at = inr refl
set-at (b ∷ met) zero (suc i) at = inl at
set-at (b ∷ met) (suc n) zero at = inl at
set-at (b ∷ met) (suc n) (suc i) at = elim (set-at met n i at) [ inl h ↦ inl h | inr e ↦ inr (ap suc e) ]

-- what was met stays so where one more is met
set-stays : (met : List Bool) (n i : ℕ) → IsMet met i → IsMet (slice_set met n true) i
set-stays [] n i at = at
set-stays (b ∷ met) zero zero at = refl
set-stays (b ∷ met) zero (suc i) at = at
set-stays (b ∷ met) (suc n) zero at = at
set-stays (b ∷ met) (suc n) (suc i) at = set-stays met n i at

-- the index that is set is met
set-here : (met : List Bool) (n : ℕ) → n < length met → IsMet (slice_set met n true) n
set-here [] n lt = absurd (omega arith)
set-here (b ∷ met) zero lt = refl
set-here (b ∷ met) (suc n) lt = set-here met n (omega arith)

-- what is read at an index within the list stands there
pub read-stands : (met : List Bool) (n : ℕ) (b : Bool) → n < length met → b ≡ slice_index_or met n b → slice_get met n ≡ Some b
read-stands [] n b lt e = absurd (omega arith)
read-stands (x ∷ met) zero b lt e = ap Some (sym e)
read-stands (x ∷ met) (suc n) b lt e = read-stands met n b (omega arith) e

-- the same of a value that is given
pub read-is : (met : List Bool) (n : ℕ) (b value : Bool) → n < length met → b ≡ slice_index_or met n b → b ≡ value → slice_get met n ≡ Some value
read-is met n b value lt e is = read-stands met n b lt e ∙ ap Some is

-- ---- visits

-- the node that a visit is to meet
abbrev node-to-meet : Visit → Option NodeId
node-to-meet (Meet n) = Some n
node-to-meet (Turn n) = None

-- the node of a turn
abbrev node-of-turn : Visit → Option NodeId
node-of-turn (Meet n) = None
node-of-turn (Turn n) = Some n

-- a visit to meet a node is no turn
meet-turn : (n m : NodeId) → Meet n ≡ Turn m → ⊥
meet-turn n m e = none-some n (sym (ap node-to-meet e))

-- the same visits to meet nodes meet the same node
same_Meet : (n m : NodeId) → Meet n ≡ Meet m → n ≡ m
same_Meet n m e = same_Some n m (ap node-to-meet e)

-- the same turns are those of the same node
same_Turn : (n m : NodeId) → Turn n ≡ Turn m → n ≡ m
same_Turn n m e = same_Some n m (ap node-of-turn e)

-- ---- meeting a node

-- visits after visits: all are of nodes below the bound
visits-append : (count : ℕ) (xs ys : List Visit) → AreVisits count xs → AreVisits count ys → AreVisits count (xs ++ ys)
visits-append count xs ys left right visit stands = elim (stands-split visit xs ys stands) [ inl s ↦ left visit s | inr s ↦ right visit s ]

-- one visit of a node below the bound
visits-one : (count : ℕ) (visit : Visit) → (visited visit).0 < count → AreVisits count (visit ∷ [])
visits-one count visit lt other stands = subst (λ v. (visited v).0 < count) (stands-one other visit stands) lt

-- a node that was met is met
pub meeting-met : (g : Nodes) (n : NodeId) (met : List Bool) (stack : List Visit) → IsMet met n.0 → IsMeeting g n met met stack stack
meeting-met g n met stack is_met = record {
  long = refl;
  stay = λ i at. at;
  done = is_met;
  each = λ i at. inl at;
  grown = ([], sym (append-nil stack), λ visit stands. absurd (none-some visit stands.1));
  less = omega arith;
}

-- a node that was not met is met by its turn and its children that go onto the stack
pub meeting-unmet : (g : Nodes) (n : NodeId) (met : List Bool) (old new : List Visit) (node : Node) → slice_get g n.0 ≡ Some node → slice_get met n.0 ≡ Some false → length met ≡ length g
    → AreAdded (length g) (length (node_children node)) (old ++ Turn n ∷ []) new → IsMeeting g n met (slice_set met n.0 true) old new
meeting-unmet g n met old new node at unmet long added =
    let more = added.0 in
    let turn = Turn n ∷ [] in
    let below : n.0 < length g = slice_get_within g n.0 node at in
    let is : new ≡ old ++ (turn ++ more) = added.1 ∙ append_assoc old turn more in
    let turns : StandsIn (Turn n) new = subst (StandsIn (Turn n)) (sym added.1) (stands-left (Turn n) (old ++ turn) more (stands-last (Turn n) old)) in
    record {
      long = length-set met n.0 true;
      stay = λ i is_met. set-stays met n.0 i is_met;
      done = set-here met n.0 (omega (arith, long, below));
      each = λ i is_met. elim (set-at met n.0 i is_met) [ inl h ↦ inl h | inr e ↦ inr (subst (λ k. StandsIn (Turn (numbered k)) new) e turns) ];
      grown = (turn ++ more, is, visits-append (length g) turn more (visits-one (length g) (Turn n) below) added.2);
      less = omega (arith, room-meet g met n.0 node at unmet, ap length is, length-append old (turn ++ more), added.3);
    }

-- the same, from what the stack is after the turn and what the children are
pub meeting-pushed : (g : Nodes) (n : NodeId) (met seen : List Bool) (old pushed new : List Visit) (children : List NodeId) → option_map node_children (slice_get g n.0) ≡ Some children → slice_get met n.0 ≡ Some false → length met ≡ length g
    → seen ≡ slice_set met n.0 true → pushed ≡ old ++ Turn n ∷ [] → AreAdded (length seen) (length children) pushed new → IsMeeting g n met (slice_set met n.0 true) old new
meeting-pushed g n met seen old pushed new children at unmet long seen_is pushed_is added =
    let found = option_map-source node_children (slice_get g n.0) children at in
    let bound : length seen ≡ length g = ap length seen_is ∙ length-set met n.0 true ∙ long in
    let most : length children ≡ length (node_children found.0) = ap length (sym found.2) in
    let here : AreAdded (length g) (length (node_children found.0)) (old ++ Turn n ∷ []) new =
    subst (λ (stack : List Visit). AreAdded (length g) (length (node_children found.0)) stack new) pushed_is
    (subst (λ (k : ℕ). AreAdded (length g) k pushed new) most (subst (λ (k : ℕ). AreAdded k (length children) pushed new) bound added)) in
    meeting-unmet g n met old new found.0 found.1 unmet long here

-- ---- nodes that go onto the stack

-- of the nodes all but these were looked at, and those that were not met are on the stack
abbrev pub IsPushedUpTo : ℕ → ℕ → List NodeId → List Visit → List Visit → Type 0
IsPushedUpTo bound most rest old new = All (λ n. n.0 < bound) rest × (more : List Visit) × (new ≡ old ++ more) × AreVisits bound more × (length more + length rest ≤ most)

-- one node less is left
rest-pop : (bound : ℕ) (rest left : List NodeId) (n : NodeId) → rest ≡ left ++ n ∷ [] → All (λ m. m.0 < bound) rest → All (λ m. m.0 < bound) left × (n.0 < bound)
rest-pop bound rest left n rest_is all = All-pop (λ (m : NodeId). m.0 < bound) rest left (Some n) rest_is all

-- a node that was met is left out
pub pushed-none : (bound most : ℕ) (rest left : List NodeId) (n : NodeId) (old new : List Visit) → rest ≡ left ++ n ∷ [] → IsPushedUpTo bound most rest old new → IsPushedUpTo bound most left old new
pushed-none bound most rest left n old new rest_is before =
    let more = before.1 in
    ((rest-pop bound rest left n rest_is before.0).0, more, before.2, before.3, omega (arith, before.4, ap length rest_is, length-append left (n ∷ [])))

-- a node that was not met goes onto the stack
pub pushed-visit : (bound most : ℕ) (rest left : List NodeId) (n : NodeId) (old new newer : List Visit) → rest ≡ left ++ n ∷ [] → newer ≡ new ++ Meet n ∷ [] → IsPushedUpTo bound most rest old new → IsPushedUpTo bound most left old newer
pushed-visit bound most rest left n old new newer rest_is newer_is before =
    let more = before.1 in
    let top = Meet n ∷ [] in
    let parts = rest-pop bound rest left n rest_is before.0 in (
      parts.0,
      more ++ top,
      newer_is ∙ ap (λ (stack : List Visit). stack ++ top) before.2 ∙ append_assoc old more top,
      visits-append bound more top before.3 (visits-one bound (Meet n) parts.1),
      omega (arith, before.4, ap length rest_is, length-append left (n ∷ []), length-append more top),
    )

-- ---- one step

-- to meet the node on top of the stack is a step
pub step-meet : (g : Nodes) (n : NodeId) (met_old met_new : List Bool) (order : List NodeId) (old new : List Visit) → IsMeeting g n met_old met_new old new → IsStep g (Meet n) met_old met_new order order old new
step-meet g n met_old met_new order old new meeting =
    let more = meeting.grown.0 in
    let top = Meet n ∷ [] in
    let stays : (visit : Visit) → StandsIn visit old → StandsIn visit new = λ visit stands. subst (StandsIn visit) (sym meeting.grown.1) (stands-left visit old more stands) in
    record {
      long = meeting.long;
      stay = meeting.stay;
      under_way = λ before. record {
        within = before.within;
        visits = λ visit stands. visits-append (length g) old more (λ other on. before.visits other (stands-left other old top on)) meeting.grown.2 visit (subst (StandsIn visit) meeting.grown.1 stands);
        each = λ i is_met. elim (meeting.each i is_met) [
          | inl h ↦ elim (before.each i h) [
            | inl in_order ↦ inl in_order
            | inr waits ↦ elim (stands-split (Turn (numbered i)) old top waits) [
              | inl on ↦ inr (stays (Turn (numbered i)) on)
              | inr is_top ↦ absurd (meet-turn n (numbered i) (stands-one (Turn (numbered i)) (Meet n) is_top))
            ]
          ]
          | inr turn ↦ inr turn
        ];
      };
      will = λ m before. elim before [
        | inl is_met ↦ inl (meeting.stay m.0 is_met)
        | inr waits ↦ elim (stands-split (Meet m) old top waits) [
          | inl on ↦ inr (stays (Meet m) on)
          | inr is_top ↦ inl (subst (λ (k : NodeId). IsMet met_new k.0) (same_Meet n m (stands-one (Meet m) (Meet n) is_top)) meeting.done)
        ]
      ];
      less = meeting.less;
    }

-- to give the node on top of the stack its turn is a step
pub step-turn : (g : Nodes) (n : NodeId) (met : List Bool) (order : List NodeId) (stack : List Visit) → n.0 < length g → IsStep g (Turn n) met met order (order ++ n ∷ []) stack stack
step-turn g n met order stack below =
    let top = Turn n ∷ [] in
    record {
      long = refl;
      stay = λ i at. at;
      under_way = λ before. record {
        within = All-push (λ (m : NodeId). m.0 < length g) order n before.within below;
        visits = λ visit stands. before.visits visit (stands-left visit stack top stands);
        each = λ i is_met. elim (before.each i is_met) [
          | inl in_order ↦ inl (stands-left (numbered i) order (n ∷ []) in_order)
          | inr waits ↦ elim (stands-split (Turn (numbered i)) stack top waits) [
            | inl on ↦ inr on
            | inr is_top ↦ inl (subst (λ (k : NodeId). StandsIn k (order ++ n ∷ [])) (same_Turn n (numbered i) (stands-one (Turn (numbered i)) (Turn n) is_top)) (stands-last n order))
          ]
        ];
      };
      will = λ m before. elim before [
        | inl is_met ↦ inl is_met
        | inr waits ↦ elim (stands-split (Meet m) stack top waits) [
          | inl on ↦ inr on
          | inr is_top ↦ absurd (meet-turn m n (sym (stands-one (Meet m) (Turn n) is_top)))
        ]
      ];
      less = omega arith;
    }

-- ---- a walk

-- what holds in a walk from a node, with what was met where the walk began
abbrev pub IsWalking : Nodes → NodeId → List Bool → List Bool → List NodeId → List Visit → Type 0
IsWalking g from start met order stack = (length met ≡ length g) × IsUnderWay (length g) met order stack × WillBeMet met stack from × StayMet start met

-- a walk begins with its node on the stack
pub walk-start : (g : Nodes) (from : NodeId) (met : List Bool) (order : List NodeId) (empty stack : List Visit) → from.0 < length g → length met ≡ length g → All (λ n. n.0 < length g) order → EachMetStands met order
    → empty ≡ [] → stack ≡ empty ++ Meet from ∷ [] → IsWalking g from met met order stack
walk-start g from met order empty stack below long within each none is =
    let one : stack ≡ Meet from ∷ [] = is ∙ ap (λ (visits : List Visit). visits ++ Meet from ∷ []) none in (
      long,
      record {
        within = within;
        visits = subst (AreVisits (length g)) (sym one) (visits-one (length g) (Meet from) below);
        each = λ i is_met. inl (each i is_met);
      },
      inr (subst (StandsIn (Meet from)) (sym one) (0, refl)),
      λ i is_met. is_met,
    )

-- the visit on top of the stack is of a node of the graph
pub walk-within : (g : Nodes) (from : NodeId) (start met : List Bool) (order : List NodeId) (before left : List Visit) (visit : Visit) → before ≡ left ++ visit ∷ [] → IsWalking g from start met order before → (visited visit).0 < length g
walk-within g from start met order before left visit is walking =
    walking.1.visits visit (subst (StandsIn visit) (sym is) (stands-last visit left))

-- a step goes on with the walk
pub walk-step : (g : Nodes) (from : NodeId) (start met met_new : List Bool) (order order_new : List NodeId) (before left new : List Visit) (visit : Visit) → before ≡ left ++ visit ∷ []
    → IsStep g visit met met_new order order_new left new → IsWalking g from start met order before → IsWalking g from start met_new order_new new
walk-step g from start met met_new order order_new before left new visit is step walking =
    let here = subst (IsWalking g from start met order) is walking in
    (step.long ∙ here.0, step.under_way here.1, step.will from here.2, λ i is_met. step.stay i (here.3 i is_met))

-- what is left to do gets less by a step
pub walk-less : (g : Nodes) (met met_new : List Bool) (order order_new : List NodeId) (before left new : List Visit) (visit : Visit) → before ≡ left ++ visit ∷ []
    → IsStep g visit met met_new order order_new left new → room g met_new + length new < room g met + length before
walk-less g met met_new order order_new before left new visit is step = omega (arith, step.less, ap length is, length-append left (visit ∷ []))

-- after a walk each met node stands in the order
pub walk-each : (g : Nodes) (from : NodeId) (start met : List Bool) (order : List NodeId) (stack : List Visit) → stack ≡ [] → IsWalking g from start met order stack → EachMetStands met order
walk-each g from start met order stack none walking i is_met = elim (walking.1.each i is_met) [
  | inl stands ↦ stands
  | inr waits ↦ absurd (none-some (Turn (numbered i)) (subst (StandsIn (Turn (numbered i))) none waits).1)
]

-- after a walk its node is met
pub walk-from : (g : Nodes) (from : NodeId) (start met : List Bool) (order : List NodeId) (stack : List Visit) → stack ≡ [] → IsWalking g from start met order stack → IsMet met from.0
walk-from g from start met order stack none walking = elim walking.2 [
  | inl is_met ↦ is_met
  | inr waits ↦ absurd (none-some (Meet from) (subst (StandsIn (Meet from)) none waits).1)
]

-- ---- walks from all nodes

-- what holds where walks from all nodes below a number were made
abbrev pub AreWalked : Nodes → ℕ → List Bool → List NodeId → Type 0
AreWalked g n met order = (length met ≡ length g) × All (λ m. m.0 < length g) order × EachMetStands met order × ((i : ℕ) → i < n → IsMet met i)

-- nothing is met in a list that says of no node that it is
none-met : (count i : ℕ) → IsMet (replicate count false) i → ⊥
none-met zero i is_met = none-some true is_met
none-met (suc count) zero is_met = true≢false (sym (same_Some false true is_met))
none-met (suc count) (suc i) is_met = none-met count i is_met

-- before the first walk nothing is met
pub walked-start : (g : Nodes) (count : ℕ) (met : List Bool) (order : List NodeId) → count ≡ length g → met ≡ replicate count false → order ≡ [] → AreWalked g 0 met order
walked-start g count met order long none empty = (
  ap length none ∙ length-replicate count false ∙ long,
  subst (All (λ (m : NodeId). m.0 < length g)) (sym empty) (All-nil (λ (m : NodeId). m.0 < length g)),
  λ i is_met. absurd (none-met count i (subst (λ (seen : List Bool). IsMet seen i) none is_met)),
  λ i lt. absurd (omega (arith, lt)),
)

-- what is below the next number is below this one, or is this one
below-next : (i n : ℕ) → i < n + 1 → (i < n) ⊎ (n ≡ i)
below-next zero zero lt = inr refl
below-next zero (suc n) lt = inl (omega arith)
below-next (suc i) zero lt = absurd (omega (arith, lt))
below-next (suc i) (suc n) lt = elim (below-next i n (omega (arith, lt))) [ inl less ↦ inl (omega (arith, less)) | inr e ↦ inr (ap suc e) ]

-- where the next node is met too, all below the number after it are
all-next : (met : List Bool) (n : ℕ) → ((i : ℕ) → i < n → IsMet met i) → IsMet met n → (i : ℕ) → i < n + 1 → IsMet met i
all-next met n all is_met i lt = elim (below-next i n lt) [ inl less ↦ all i less | inr e ↦ subst (IsMet met) e is_met ]

-- a node that was met needs no walk
pub walked-met : (g : Nodes) (n : ℕ) (met : List Bool) (order : List NodeId) → IsMet met n → AreWalked g n met order → AreWalked g (n + 1) met order
walked-met g n met order is_met walked = (walked.0, walked.1, walked.2, all-next met n walked.3 is_met)

-- a walk from the next node
pub walked-walk : (g : Nodes) (n : ℕ) (met met_new : List Bool) (order order_new : List NodeId) → length met_new ≡ length met → All (λ m. m.0 < length g) order_new → EachMetStands met_new order_new
    → StayMet met met_new → IsMet met_new n → AreWalked g n met order → AreWalked g (n + 1) met_new order_new
walked-walk g n met met_new order order_new long within each stay is_met walked =
    (long ∙ walked.0, within, each, all-next met_new n (λ i lt. stay i (walked.3 i lt)) is_met)

-- after the last walk each node stands in the order
pub walked-end : (g : Nodes) (n : ℕ) (met : List Bool) (order : List NodeId) → length g ≤ n → AreWalked g n met order → HasEach (length g) order
walked-end g n met order all walked i lt = walked.2 i (walked.3 i (omega (arith, all, lt)))

-- what holds after walks holds of lists that are equal to these
pub walked-same : (g : Nodes) (n : ℕ) (met met_new : List Bool) (order order_new : List NodeId) → met_new ≡ met → order_new ≡ order → AreWalked g n met order → AreWalked g n met_new order_new
walked-same g n met met_new order order_new met_is order_is walked =
    subst (λ (seen : List Bool). AreWalked g n seen order_new) (sym met_is) (subst (λ (nodes : List NodeId). AreWalked g n met nodes) (sym order_is) walked)
