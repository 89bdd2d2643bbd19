-- Lists that are made element by element: places, moved nodes, and children of datatypes.
use Rattle.std.proofs.Common.{◌≡◌, ℕ, ◌+◌, ◌<◌, ◌⊎◌, List, [], ◌∷◌, ◌++◌, length, set, length-set, take, get_or, All, Contains, Some, slice_get, sym, ap, subst, ◌∙◌, append_assoc, arith, inl, inr}
use Rattle.std.specs.List.{AllZip}
use Rattle.std.proofs.lemmas.Bool.{cases_order}
use Rattle.std.proofs.lemmas.Option.{none-some, same_Some, slice_get_within, slice_get-get_or}
use Rattle.ct_lemmas.proofs.Lists.{slice_get-set_same, slice_get-set_other, slice_get-push_cases, slice_get-last, slice_get-append_left}
use Rattle.std.proofs.lemmas.List.Elements.{Contains-append_left, Contains-append_right, Contains-append_cases}
use Rattle.ct_lemmas.proofs.Contained.{Contains-first, Contains-cons, Contains-none}
use Rattle.ct_lemmas.proofs.Pairs.{AllZip-push}
use Rattle.ct_sorts.specs.Declarations.{Declarations}
use Rattle.ct_values.specs.declared.node.NodeId.{NodeId}
use Rattle.ct_values.specs.Graph.{Nodes}
use Rattle.ct_values.specs.WellFormed.{IsData}
use Rattle.ct_readback.proofs.RestLemmas.{take_at}
use Rattle.ct_readback.specs.Placed.{numbered_node, ArePlaces, AreDataChildren}

-- the points before the index have their places
pub record ArePlacedSoFar (base count : ℕ) (points : List ℕ) (index : ℕ) (places : List NodeId) : Type 0 where
  pub long : length places ≡ count
  pub each : (i point : ℕ) → i < index → slice_get points i ≡ Some point → slice_get places point ≡ Some (numbered_node (base + i))

pub placed_more : (base count : ℕ) (points : List ℕ) (index point : ℕ) (places : List NodeId) → ((i j p : ℕ) → slice_get points i ≡ Some p → slice_get points j ≡ Some p → i ≡ j) → slice_get points index ≡ Some point → point < count
    → ArePlacedSoFar base count points index places → ArePlacedSoFar base count points (index + 1) (set places point (numbered_node (base + index)))
placed_more base count points index point places once here within h = record {
  long = length-set places point (numbered_node (base + index)) ∙ h.long;
  each = λ i p below at.
      elim (cases_order i index) [
        | inl e ↦
            let same : point ≡ p = same_Some point p (sym here ∙ ap (slice_get points) (sym e) ∙ at) in
            ap (slice_get (set places point (numbered_node (base + index)))) (sym same)
            ∙ slice_get-set_same places point (numbered_node (base + index)) (let long = h.long in omega (arith, long, within))
            ∙ ap (λ n. Some (numbered_node (base + n))) (sym e)
        | inr k ↦ elim k [
          | inl less ↦
              slice_get-set_other places point p (numbered_node (base + index)) (λ same. let one : i ≡ index = once i index p at (here ∙ ap Some (sym same)) in omega (arith, one, less))
              ∙ h.each i p less at
          | inr greater ↦ absurd (omega (arith, below, greater))
        ]
      ];
}

pub placed_all : (base count : ℕ) (points : List ℕ) (index : ℕ) (places : List NodeId) → index ≡ length points → ArePlacedSoFar base count points index places → ArePlaces base count points places
placed_all base count points index places e h = record {
  long = h.long;
  each = λ i point at. h.each i point (let within = slice_get_within points i point at in omega (arith, within, e)) at;
}

-- one more of the first elements
module _ {X Y : Type 0} (R : Y → X → Type 0) where
  pub taken_more : (xs : List X) (i : ℕ) (x : X) (ys : List Y) (y : Y) → slice_get xs i ≡ Some x → AllZip R ys (take i xs) → R y x → AllZip R (ys ++ y ∷ []) (take (i + 1) xs)
  taken_more xs i x ys y at all one = subst (λ (zs : List X). AllZip R (ys ++ y ∷ []) zs) (sym (take_at xs i x at)) (AllZip-push R ys (take i xs) y x all one)

-- ---- children of datatypes

pub children_start : (d : Declarations) (h : Nodes) → AreDataChildren d h [] []
children_start d h = record {
  are_data = λ place kid at. absurd (none-some kid at);
  all = λ kid inside data_kid. absurd (Contains-none (numbered_node kid) inside);
}

-- a child more that is of a datatype
pub children_data : (d : Declarations) (h : Nodes) (children : List NodeId) (child : NodeId) (row : List ℕ) → AreDataChildren d h children row → IsData d h child → AreDataChildren d h (children ++ child ∷ []) (row ++ child.0 ∷ [])
children_data d h children child row are data_child = record {
  are_data = λ place kid at.
      elim (slice_get-push_cases row child.0 kid place at) [
        | inl old ↦ (Contains-append_left children (child ∷ []) (numbered_node kid) (are.are_data place kid old).0, (are.are_data place kid old).1)
        | inr new ↦
            let same : child ≡ numbered_node kid = ap (λ n. numbered_node n) new.1 in
            (Contains-append_right children (child ∷ []) (numbered_node kid) (subst (λ (n : NodeId). Contains (child ∷ []) n) same (Contains-first child [])), subst (λ (n : NodeId). IsData d h n) same data_child)
      ];
  all = λ kid inside data_kid.
      elim (Contains-append_cases children (child ∷ []) (numbered_node kid) inside) [
        | inl old ↦ let found = are.all kid old data_kid in (found.0, slice_get-append_left row (child.0 ∷ []) found.0 kid found.1)
        | inr new ↦ elim (Contains-cons child [] (numbered_node kid) new) [
          | inl same ↦ (length row, slice_get-last row child.0 ∙ ap (λ (n : NodeId). Some n.0) same)
          | inr nothing ↦ absurd (Contains-none (numbered_node kid) nothing)
        ]
      ];
}

-- and one that is of another sort
pub children_other : (d : Declarations) (h : Nodes) (children : List NodeId) (child : NodeId) (row : List ℕ) → AreDataChildren d h children row → (IsData d h child → ⊥) → AreDataChildren d h (children ++ child ∷ []) row
children_other d h children child row are other = record {
  are_data = λ place kid at. (Contains-append_left children (child ∷ []) (numbered_node kid) (are.are_data place kid at).0, (are.are_data place kid at).1);
  all = λ kid inside data_kid.
      elim (Contains-append_cases children (child ∷ []) (numbered_node kid) inside) [
        | inl old ↦ are.all kid old data_kid
        | inr new ↦ elim (Contains-cons child [] (numbered_node kid) new) [
          | inl same ↦ absurd (other (subst (λ (n : NodeId). IsData d h n) (sym same) data_kid))
          | inr nothing ↦ absurd (Contains-none (numbered_node kid) nothing)
        ]
      ];
}

pub placed_start : (base count : ℕ) (points : List ℕ) (places : List NodeId) → length places ≡ count → ArePlacedSoFar base count points 0 places
placed_start base count points places long = record { long = long; each = λ i point below at. absurd (omega (arith, below)) }

-- ---- one child more

-- the numbers of the first children of datatypes were added
abbrev pub HasAdded : Declarations → Nodes → List NodeId → List ℕ → List ℕ → Type 0
HasAdded d h children old kids = (row : List ℕ) × AreDataChildren d h children row × (kids ≡ old ++ row)

pub added_other : (d : Declarations) (h : Nodes) (children : List NodeId) (i : ℕ) (child : NodeId) (old kids : List ℕ) → slice_get children i ≡ Some child → (IsData d h child → ⊥)
    → HasAdded d h (take i children) old kids → HasAdded d h (take (i + 1) children) old kids
added_other d h children i child old kids at other (row, are, added) =
    subst (λ (list : List NodeId). HasAdded d h list old kids) (sym (take_at children i child at)) (row, children_other d h (take i children) child row are other, added)

pub added_data : (d : Declarations) (h : Nodes) (children : List NodeId) (i : ℕ) (child : NodeId) (old kids new : List ℕ) → slice_get children i ≡ Some child → IsData d h child → new ≡ kids ++ child.0 ∷ []
    → HasAdded d h (take i children) old kids → HasAdded d h (take (i + 1) children) old new
added_data d h children i child old kids new at data_child pushed (row, are, added) =
    subst (λ (list : List NodeId). HasAdded d h list old new) (sym (take_at children i child at)) (
      row ++ child.0 ∷ [],
      children_data d h (take i children) child row are data_child,
      pushed ∙ ap (λ (list : List ℕ). list ++ child.0 ∷ []) added ∙ append_assoc old row (child.0 ∷ []),
    )

-- numbers below a bound, and one more
pub below_more : (bound : ℕ) (kids : List ℕ) (kid : ℕ) → kid < bound → All (λ k. k < bound) kids → All (λ k. k < bound) (kids ++ kid ∷ [])
below_more bound kids kid less all = λ i other within. by i other (slice_get-push_cases kids kid (get_or (kids ++ kid ∷ []) i other) i (slice_get-get_or (kids ++ kid ∷ []) i other within))
  where
    by : (i other : ℕ) → (slice_get kids i ≡ Some (get_or (kids ++ kid ∷ []) i other)) ⊎ ((i ≡ length kids) × (kid ≡ get_or (kids ++ kid ∷ []) i other)) → get_or (kids ++ kid ∷ []) i other < bound
    by i other (inl old) =
        let within = slice_get_within kids i (get_or (kids ++ kid ∷ []) i other) old in
        let same = same_Some (get_or (kids ++ kid ∷ []) i other) (get_or kids i other) (sym old ∙ slice_get-get_or kids i other within) in
        let below = all i other within in
        omega (arith, same, below)
    by i other (inr new) = let same = new.1 in omega (arith, same, less)
