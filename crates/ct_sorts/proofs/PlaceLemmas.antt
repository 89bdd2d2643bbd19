-- A name of a constructor or a field stands at one place among the names that sorts and generics declare, and so for one symbol.
use Rattle.std.proofs.Common.{◌≡◌, ℕ, zero, suc, ◌+◌, ◌<◌, ◌⊎◌, List, [], ◌∷◌, ◌++◌, length, map, drop, take, slice_get, Option, Some, None, unwrap_or, refl, sym, ◌∙◌, ap, ap₂, subst, inl, inr, ⊎_elim, arith}
use Rattle.std.specs.List.{flat_map}
use Rattle.std.specs.Option.{option_and_then}
use Rattle.std.proofs.lemmas.Option.{none-some, same_Some, slice_get_within}
use Rattle.ct_lemmas.proofs.Lists.{slice_get-append_after, slice_get-append_left, slice_get-flat_map, slice_get-map_at, slice_get-map_source, slice_get-there}
use Rattle.ct_lemmas.proofs.Prefixes.{slice_get-take}
use Rattle.ct_generics.specs.Expression.{Expression, named}
use Rattle.ct_generics.specs.Declarations.{Head}
use Rattle.ct_generics.specs.Reach.{fields_of}
use Rattle.ct_sorts.specs.declared.ids.SortId.{SortId}
use Rattle.ct_sorts.specs.declared.ids.CtorId.{CtorId}
use Rattle.ct_sorts.specs.declared.ids.SelId.{SelId}
use Rattle.ct_sorts.specs.declared.spelling.Spelling.{Spelling}
use Rattle.ct_sorts.specs.Declarations.{Declarations, Sort, Constructor, Selector, bool, head_symbols, spelled, start, function_names, definition_names}
use Rattle.ct_sorts.specs.Lookup.{AreDistinct, IsPlainCtor, IsPlainSel}
use Rattle.ct_sorts.specs.Consistent.{IsConsistent}
use Rattle.ct_sorts.specs.Shapes.{FieldShape, CtorShape, spelling_of, shape_of}
use Rattle.ct_sorts.proofs.Counts.{AreDistinct-middle}
use Rattle.ct_sorts.proofs.HeadLemmas.{head_there}
use Rattle.ct_sorts.proofs.MadeAtLemmas.{ctor_of_sort, sort_is_made}
use Rattle.ct_sorts.proofs.ShapeLemmas.{ctor_shapes-name}
use Rattle.ct_sorts.proofs.StructureLemmas.{of_their_sorts, of_their_constructors, own_selectors}

-- ---- names that differ, in pieces

pub AreDistinct-left : (xs ys : List (List ℕ)) → AreDistinct (xs ++ ys) → AreDistinct xs
AreDistinct-left xs ys distinct i j name at also = distinct i j name (slice_get-append_left xs ys i name at) (slice_get-append_left xs ys j name also)

pub AreDistinct-right : (xs ys : List (List ℕ)) → AreDistinct (xs ++ ys) → AreDistinct ys
AreDistinct-right xs ys distinct i j name at also =
    let same = distinct (length xs + i) (length xs + j) name (slice_get-append_after xs ys i ∙ at) (slice_get-append_after xs ys j ∙ also) in
    omega (arith, same)

pub apart : (xs ys : List (List ℕ)) (i j : ℕ) (name : List ℕ) → AreDistinct (xs ++ ys) → slice_get xs i ≡ Some name → slice_get ys j ≡ Some name → ⊥
apart xs ys i j name distinct at also =
    let same = distinct i (length xs + j) name (slice_get-append_left xs ys i name at) (slice_get-append_after xs ys j ∙ also) in
    omega (arith, same, slice_get_within xs i name at)

module _ {X : Type 0} (f : X → List (List ℕ)) where
  piece_distinct : (xs : List X) (i : ℕ) (x : X) → AreDistinct (flat_map f xs) → slice_get xs i ≡ Some x → AreDistinct (f x)
  piece_distinct [] i x distinct at = absurd (none-some _ at)
  piece_distinct (y ∷ xs) zero x distinct at = subst (λ z. AreDistinct (f z)) (same_Some _ _ at) (AreDistinct-left (f y) (flat_map f xs) distinct)
  piece_distinct (y ∷ xs) (suc i) x distinct at = piece_distinct xs i x (AreDistinct-right (f y) (flat_map f xs) distinct) at

  one_piece : (xs : List X) (i j p q : ℕ) (x y : X) (name : List ℕ) → AreDistinct (flat_map f xs) → slice_get xs i ≡ Some x → slice_get xs j ≡ Some y → slice_get (f x) p ≡ Some name → slice_get (f y) q ≡ Some name → (i ≡ j) × (p ≡ q)
  one_piece [] i j p q x y name distinct at also at_p at_q = absurd (none-some _ at)
  one_piece (z ∷ xs) zero zero p q x y name distinct at also at_p at_q =
      (refl, AreDistinct-left (f z) (flat_map f xs) distinct p q name (subst (λ w. slice_get (f w) p ≡ Some name) (sym (same_Some _ _ at)) at_p) (subst (λ w. slice_get (f w) q ≡ Some name) (sym (same_Some _ _ also)) at_q))
  one_piece (z ∷ xs) zero (suc j) p q x y name distinct at also at_p at_q =
      let k = slice_get-flat_map f xs j q y name also at_q in
      absurd (apart (f z) (flat_map f xs) p k.0 name distinct (subst (λ w. slice_get (f w) p ≡ Some name) (sym (same_Some _ _ at)) at_p) k.1)
  one_piece (z ∷ xs) (suc i) zero p q x y name distinct at also at_p at_q =
      let k = slice_get-flat_map f xs i p x name at at_p in
      absurd (apart (f z) (flat_map f xs) q k.0 name distinct (subst (λ w. slice_get (f w) q ≡ Some name) (sym (same_Some _ _ also)) at_q) k.1)
  one_piece (z ∷ xs) (suc i) (suc j) p q x y name distinct at also at_p at_q =
      let rest = one_piece xs i j p q x y name (AreDistinct-right (f z) (flat_map f xs) distinct) at also at_p at_q in
      (ap suc rest.0, rest.1)

-- ---- places

-- the name is that of constructor i of the sort or generic h, where k is 0, or of its field k less one
pub record IsPlaced (d : Declarations) (h i k : ℕ) (name : List ℕ) : Type 0 where
  pub ctors : List Spelling
  pub ctor : Spelling
  pub at_head : slice_get d.spellings h ≡ Some ctors
  pub at_ctor : slice_get ctors i ≡ Some ctor
  pub at_name : slice_get (ctor.name ∷ ctor.fields) k ≡ Some name

-- it is one of the names
pub placed_listed : (d : Declarations) (h i k : ℕ) (name : List ℕ) → IsPlaced d h i k name → (n : ℕ) × (slice_get (head_symbols d.spellings) n ≡ Some name)
placed_listed d h i k name p =
    let inner = slice_get-flat_map (λ (s : Spelling). s.name ∷ s.fields) p.ctors i k p.ctor name p.at_ctor p.at_name in
    slice_get-flat_map spelled d.spellings h inner.0 p.ctors name p.at_head inner.1

-- and stands nowhere else
pub one_place : (d : Declarations) (h i k g j l : ℕ) (name : List ℕ) → AreDistinct (head_symbols d.spellings) → IsPlaced d h i k name → IsPlaced d g j l name → (h ≡ g) × (i ≡ j) × (k ≡ l)
one_place d h i k g j l name distinct p q =
    let inner = slice_get-flat_map (λ (s : Spelling). s.name ∷ s.fields) p.ctors i k p.ctor name p.at_ctor p.at_name in
    let other = slice_get-flat_map (λ (s : Spelling). s.name ∷ s.fields) q.ctors j l q.ctor name q.at_ctor q.at_name in
    let heads = one_piece spelled d.spellings h g inner.0 other.0 p.ctors q.ctors name distinct p.at_head q.at_head inner.1 other.1 in
    let same : p.ctors ≡ q.ctors = same_Some p.ctors q.ctors (sym p.at_head ∙ ap (slice_get d.spellings) heads.0 ∙ q.at_head) in
    let own = piece_distinct spelled d.spellings h p.ctors distinct p.at_head in
    let ctors = one_piece (λ (s : Spelling). s.name ∷ s.fields) p.ctors i j k l p.ctor q.ctor name own p.at_ctor (ap (λ (cs : List Spelling). slice_get cs j) same ∙ q.at_ctor) p.at_name q.at_name in
    (heads.0, ctors.0, ctors.1)
