-- One flag that is set, and which case surely fits.
use Rattle.std.proofs.Common.{◌≡◌, ℕ, zero, suc, ◌+◌, ◌≤◌, Bool, true, ◌||◌, ◌==◌, List, [], ◌∷◌, length, reverse, set, Option, Some, None, option_map, unwrap_or, slice_get, refl, sym, ap, ap₂, ◌∙◌, arith}
use Rattle.std.proofs.lemmas.Option.{same_Some}
use Rattle.std.proofs.lemmas.Bool.{ne_eqb, eq-eqb}
use Rattle.std.proofs.lemmas.List.Sorted.{list_any-IsPermutation, IsPermutation-reverse}
use Rattle.ct_lemmas.proofs.Booleans.{or_false, or_true}
use Rattle.ct_sorts.specs.declared.ids.CtorId.{CtorId}
use Rattle.ct_sorts.specs.declared.ids.SortId.{SortId}
use Rattle.ct_sorts.specs.Declarations.{Declarations, Sort, Constructor}
use Rattle.ct_terms.specs.Fields.{ctor_ids_of_sort}
use Rattle.ct_formulas.specs.Compiled.{siblings, is_among}
use Rattle.ct_occurrence.specs.Marks.{mark_each}

-- a variable that has no flag
pub marked_outside : (i : ℕ) (bs : List Bool) → length bs ≤ i → mark_each (λ k. i == k) bs ≡ bs
marked_outside i [] h = refl
marked_outside i (b ∷ bs) h =
    ap₂ (λ (x : Bool) (xs : List Bool). x ∷ xs) (ap (λ (x : Bool). b || x) (ne_eqb i (length bs) (λ e. omega (arith, h, e))) ∙ or_false b) (marked_outside i bs (omega (arith, h)))

-- a variable that has one: its place is counted from the end
pub marked_one : (i place : ℕ) (bs : List Bool) → suc (place + i) ≡ length bs → mark_each (λ k. i == k) bs ≡ set bs place true
marked_one i place [] h = absurd (omega (arith, h))
marked_one i zero (b ∷ bs) h =
    ap₂ (λ (x : Bool) (xs : List Bool). x ∷ xs) (ap (λ (x : Bool). b || x) (eq-eqb i (length bs) (omega (arith, h))) ∙ or_true b) (marked_outside i bs (omega (arith, h)))
marked_one i (suc place) (b ∷ bs) h =
    ap₂ (λ (x : Bool) (xs : List Bool). x ∷ xs) (ap (λ (x : Bool). b || x) (ne_eqb i (length bs) (λ e. omega (arith, h, e))) ∙ or_false b) (marked_one i place bs (omega (arith, h)))

-- ---- constructors of one sort

pub siblings_are : (d : Declarations) (c : CtorId) (s : SortId) (rest : List CtorId) → option_map (λ (x : Constructor). x.sort) (slice_get d.ctors c.0) ≡ Some s → option_map (λ (x : Sort). x.ctors) (slice_get d.sorts s.0) ≡ Some rest → siblings d c ≡ rest
siblings_are d c s rest e f = of (slice_get d.ctors c.0) e
  where
    of : (found : Option Constructor) → option_map (λ (x : Constructor). x.sort) found ≡ Some s → unwrap_or (option_map (λ (ctor : Constructor). ctor_ids_of_sort d ctor.sort) found) [] ≡ rest
    of None k = cc
    of (Some ctor) k = ap (ctor_ids_of_sort d) (same_Some ctor.sort s k) ∙ ap (λ (o : Option (List CtorId)). unwrap_or o []) f

pub among_reversed : (earlier : List CtorId) (k : CtorId) → is_among (reverse earlier) k ≡ is_among earlier k
among_reversed earlier k = sym (list_any-IsPermutation (λ m. m.0 == k.0) earlier (reverse earlier) (IsPermutation-reverse earlier))

-- ---- constructors that are gone over

pub covered_other : (a b : ℕ) (x : Bool) → (a ≡ b → ⊥) → x ≡ ((a == b) || x)
covered_other a b x other = sym (ap (λ (c : Bool). c || x) (ne_eqb a b other))
