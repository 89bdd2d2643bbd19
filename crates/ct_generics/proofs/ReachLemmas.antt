-- The graph of what an expression reaches grows by one vertex at a time, and more numbers than a bound are more expressions.
use Rattle.std.proofs.Common.{◌≡◌, ℕ, suc, ◌<◌, ◌⊎◌, List, [], ◌∷◌, ◌++◌, length, Some, slice_get, refl, sym, ap, subst, ◌∙◌, inl, inr, arith}
use Rattle.std.specs.List.{AllZip}
use Rattle.std.proofs.lemmas.Option.{same_Some, none-some, slice_get_within}
use Rattle.ct_lemmas.proofs.Lists.{slice_get-there, slice_get-push_cases}
use Rattle.ct_lemmas.proofs.Pairs.{AllZip-weaker, AllZip-at_left, AllZip-at_right, AllZip-one_length}
use Rattle.ct_generics.specs.declared.nodes.ExprId.{ExprId}
use Rattle.ct_generics.specs.declared.nodes.Node.{Node}
use Rattle.ct_generics.specs.declared.graph.Vertex.{Vertex}
use Rattle.ct_generics.specs.Expression.{Expression}
use Rattle.ct_generics.specs.Declarations.{Head}
use Rattle.ct_generics.specs.Nodes.{Stands, StandFor, Stay, AreSingle, AreUnlike}
use Rattle.ct_generics.specs.Reach.{itself, onward, HasField, fields_of}
use Rattle.ct_generics.specs.Reached.{StandsAt, IsVertexFor, IsReached, ReachedFrom, ReachMoreThan}
use Rattle.ct_generics.proofs.NodeLemmas.{Stands-stay, Stands-one, Stands-unique}
use Rattle.ct_generics.proofs.SubstitutionLemmas.{length-push}

StandsAt-stay : (old new : List Node) (ids more : List ExprId) (i : ℕ) (e : Expression) → Stay old new → Stay ids more → StandsAt old ids i e → StandsAt new more i e
StandsAt-stay old new ids more i e stay stay_ids at = (at.0, stay_ids i at.0 at.1, Stands-stay old new at.0.0 e stay at.2)

IsVertexFor-stay : (heads : List Head) (old new : List Node) (ids more : List ExprId) (v : Vertex) (e : Expression) → Stay old new → Stay ids more → IsVertexFor heads old ids v e → IsVertexFor heads new more v e
IsVertexFor-stay heads old new ids more v e stay stay_ids vertex =
    record {
      kind_is = vertex.kind_is;
      fields = AllZip-weaker (AllZip (StandsAt old ids)) (AllZip (StandsAt new more)) (λ (is : List ℕ) (es : List Expression). AllZip-weaker (StandsAt old ids) (StandsAt new more) (λ i f. StandsAt-stay old new ids more i f stay stay_ids) is es) v.ctors (fields_of heads e) vertex.fields;
    }

-- the numbers of the expressions themselves
pub IsReached-start : (heads : List Head) (nodes : List Node) (ids : List ExprId) (starts : List ℕ) (given : List ExprId) (roots : List Expression) → AllZip (λ i (id : ExprId). slice_get ids i ≡ Some id) starts given → ((i : ℕ) (id : ExprId) → slice_get ids i ≡ Some id → (k : ℕ) × (slice_get given k ≡ Some id)) → StandFor nodes given roots → IsReached heads nodes ids [] starts roots
IsReached-start heads nodes ids starts given roots at only stand =
    record {
      begun = joined starts given roots at stand;
      reached = λ i id at_i.
          let k = only i id at_i in
          let e = AllZip-at_left (λ (x : ExprId) (e : Expression). Stands nodes x.0 e) given roots k.0 id stand k.1 in
          (e.0, e.2, (k.0, e.0, e.1, itself));
      within = omega arith;
      vertices = λ k v f none. absurd (none-some v none);
    }
  where
    joined : (is : List ℕ) (xs : List ExprId) (es : List Expression) → AllZip (λ i (id : ExprId). slice_get ids i ≡ Some id) is xs → StandFor nodes xs es → AllZip (StandsAt nodes ids) is es
    joined [] [] [] at stand = tt
    joined [] [] (e ∷ es) at stand = absurd stand
    joined [] (x ∷ xs) es at stand = absurd at
    joined (i ∷ is) [] es at stand = absurd at
    joined (i ∷ is) (x ∷ xs) [] at stand = absurd stand
    joined (i ∷ is) (x ∷ xs) (e ∷ es) at stand = ((x, at.0, stand.0), joined is xs es at.1 stand.1)

-- one vertex more
pub IsReached-step : (heads : List Head) (old new : List Node) (ids more : List ExprId) (graph : List Vertex) (v : Vertex) (id : ExprId) (starts : List ℕ) (roots : List Expression) (f : Expression) → Stay old new → Stay ids more → slice_get ids (length graph) ≡ Some id → Stands old id.0 f → ReachedFrom heads roots f → IsVertexFor heads new more v f → ((i : ℕ) (other : ExprId) → slice_get more i ≡ Some other → (slice_get ids i ≡ Some other) ⊎ ((g : Expression) × Stands new other.0 g × HasField heads f g)) → IsReached heads old ids graph starts roots → IsReached heads new more (graph ++ v ∷ []) starts roots
IsReached-step heads old new ids more graph v id starts roots f stay stay_ids at stands reaches vertex only before =
    record {
      begun = AllZip-weaker (StandsAt old ids) (StandsAt new more) (λ i e. StandsAt-stay old new ids more i e stay stay_ids) starts roots before.begun;
      reached = reached;
      within = omega (arith, slice_get_within more (length graph) id (stay_ids (length graph) id at), length-push graph v);
      vertices = vertices;
    }
  where
    reached : (i : ℕ) (other : ExprId) → slice_get more i ≡ Some other → (g : Expression) × Stands new other.0 g × ReachedFrom heads roots g
    reached i other at_i = elim (only i other at_i) [
      | inl had ↦ let found = before.reached i other had in (found.0, Stands-stay old new other.0 found.0 stay found.1, found.2)
      | inr met ↦ (met.0, met.1, (reaches.0, reaches.1, reaches.2, onward f met.0 reaches.3 met.2))
    ]

    earlier : (i : ℕ) (w : Vertex) (g : Expression) → slice_get graph i ≡ Some w → StandsAt new more i g → IsVertexFor heads old ids w g
    earlier i w g at_w stands_g =
        let there = slice_get-there ids i (omega (arith, slice_get_within graph i w at_w, before.within)) in
        let one : there.0 ≡ stands_g.0 = same_Some there.0 stands_g.0 (sym (stay_ids i there.0 there.1) ∙ stands_g.1) in
        let found = before.reached i there.0 there.1 in
        let same : found.0 ≡ g = Stands-one new there.0.0 found.0 g (Stands-stay old new there.0.0 found.0 stay found.1) (subst (λ (x : ExprId). Stands new x.0 g) (sym one) stands_g.2) in
        before.vertices i w g at_w (there.0, there.1, subst (Stands old there.0.0) same found.1)

    vertices : (i : ℕ) (w : Vertex) (g : Expression) → slice_get (graph ++ v ∷ []) i ≡ Some w → StandsAt new more i g → IsVertexFor heads new more w g
    vertices i w g at_w stands_g = elim (slice_get-push_cases graph v w i at_w) [
      | inl had ↦ IsVertexFor-stay heads old new ids more w g stay stay_ids (earlier i w g had stands_g)
      | inr last ↦
          let at_id : slice_get more i ≡ Some id = subst (λ k. slice_get more k ≡ Some id) (sym last.0) (stay_ids (length graph) id at) in
          let one : id ≡ stands_g.0 = same_Some id stands_g.0 (sym at_id ∙ stands_g.1) in
          let same : f ≡ g = Stands-one new id.0 f g (Stands-stay old new id.0 f stay stands) (subst (λ (x : ExprId). Stands new x.0 g) (sym one) stands_g.2) in
          subst (λ (x : Vertex). IsVertexFor heads new more x g) last.1 (subst (IsVertexFor heads new more v) same vertex)
    ]

-- the expressions of numbers
expressions : (heads : List Head) (nodes : List Node) (roots : List Expression) (ids : List ExprId) → ((i : ℕ) (id : ExprId) → slice_get ids i ≡ Some id → (f : Expression) × Stands nodes id.0 f × ReachedFrom heads roots f) → (es : List Expression) × AllZip (λ (id : ExprId) f. Stands nodes id.0 f × ReachedFrom heads roots f) ids es
expressions heads nodes roots [] all = ([], tt)
expressions heads nodes roots (id ∷ ids) all =
    let first = all 0 id refl in
    let rest = expressions heads nodes roots ids (λ i x at. all (suc i) x at) in
    (first.0 ∷ rest.0, ((first.1, first.2), rest.1))

same_id : (m n : ExprId) → m.0 ≡ n.0 → m ≡ n
same_id m n e i = record { 0 = e i }

-- more numbers than a bound are more expressions
pub reaches_many : (heads : List Head) (nodes : List Node) (ids : List ExprId) (graph : List Vertex) (starts : List ℕ) (roots : List Expression) (bound : ℕ) → AreSingle nodes → AreUnlike ids → bound < length ids → IsReached heads nodes ids graph starts roots → ReachMoreThan heads roots bound
reaches_many heads nodes ids graph starts roots bound single unlike many whole =
    (all.0, different, omega (arith, many, AllZip-one_length R ids all.0 all.1), λ i f at. (AllZip-at_right R ids all.0 i f all.1 at).2.1)
  where
    R : ExprId → Expression → Type 0
    R id f = Stands nodes id.0 f × ReachedFrom heads roots f

    all : (es : List Expression) × AllZip R ids es
    all = expressions heads nodes roots ids whole.reached

    different : (i j : ℕ) (f : Expression) → slice_get all.0 i ≡ Some f → slice_get all.0 j ≡ Some f → i ≡ j
    different i j f at_i at_j =
        let left = AllZip-at_right R ids all.0 i f all.1 at_i in
        let right = AllZip-at_right R ids all.0 j f all.1 at_j in
        let one : left.0 ≡ right.0 = same_id left.0 right.0 (Stands-unique nodes single left.0.0 right.0.0 f left.2.0 right.2.0) in
        unlike i j right.0 (left.1 ∙ ap Some one) right.1

-- what is reached is reached where there are more expressions
pub IsReached-stay : (heads : List Head) (old new : List Node) (ids : List ExprId) (graph : List Vertex) (starts : List ℕ) (roots : List Expression) → Stay old new → IsReached heads old ids graph starts roots → IsReached heads new ids graph starts roots
IsReached-stay heads old new ids graph starts roots stay before =
    record {
      begun = AllZip-weaker (StandsAt old ids) (StandsAt new ids) (λ i e. StandsAt-stay old new ids ids i e stay (λ n x at. at)) starts roots before.begun;
      reached = λ i id at. let found = before.reached i id at in (found.0, Stands-stay old new id.0 found.0 stay found.1, found.2);
      within = before.within;
      vertices = λ i v f at_v stands.
          let there = slice_get-there ids i (omega (arith, slice_get_within graph i v at_v, before.within)) in
          let one : there.0 ≡ stands.0 = same_Some there.0 stands.0 (sym there.1 ∙ stands.1) in
          let found = before.reached i there.0 there.1 in
          let same : found.0 ≡ f = Stands-one new there.0.0 found.0 f (Stands-stay old new there.0.0 found.0 stay found.1) (subst (λ (x : ExprId). Stands new x.0 f) (sym one) stands.2) in
          IsVertexFor-stay heads old new ids ids v f stay (λ n x at. at) (before.vertices i v f at_v (there.0, there.1, subst (Stands old there.0.0) same found.1));
    }
