-- How often a name stands in a list.
use Rattle.std.proofs.Common.{◌≡◌, ℕ, zero, suc, ◌+◌, ◌≤◌, List, [], ◌∷◌, ◌++◌, take, slice_get, Some, Bool, true, false, cond, refl, sym, ap, subst, arith}
use Rattle.std.proofs.lemmas.Option.{none-some, same_Some}
use Rattle.std.proofs.lemmas.Slice.Eq.{bytes_eq-Decides}
use Rattle.std.specs.Str.{bytes_eq}
use Rattle.ct_sorts.specs.Availability.{IsListed}
use Rattle.ct_sorts.specs.Lookup.{AreDistinct}

-- one where the texts are equal
abbrev pub one_if_same : List ℕ → List ℕ → ℕ
one_if_same name text = cond (bytes_eq name text) 1 0

-- how often the name stands in the list
abbrev pub occurrences : List ℕ → List (List ℕ) → ℕ
occurrences name [] = 0
occurrences name (text ∷ texts) = one_if_same name text + occurrences name texts

pub one_if_same-self : (name : List ℕ) → one_if_same name name ≡ 1
one_if_same-self name = rw ((bytes_eq-Decides name name).1 refl) refl

pub one_if_same-cases : (name text : List ℕ) → 1 ≤ one_if_same name text → name ≡ text
one_if_same-cases name text = by (bytes_eq name text) refl
  where
    by : (b : Bool) → bytes_eq name text ≡ b → 1 ≤ cond b 1 0 → name ≡ text
    by true e h = (bytes_eq-Decides name text).0 e
    by false e h = absurd (omega arith)

pub one_if_same-le : (name text : List ℕ) → one_if_same name text ≤ 1
one_if_same-le name text = by (bytes_eq name text)
  where
    by : (b : Bool) → cond b 1 0 ≤ 1
    by true = omega arith
    by false = omega arith

pub occurrences-append : (name : List ℕ) (xs ys : List (List ℕ)) → occurrences name (xs ++ ys) ≡ occurrences name xs + occurrences name ys
occurrences-append name [] ys = omega arith
occurrences-append name (x ∷ xs) ys = omega (arith, occurrences-append name xs ys)

-- a listed name stands there
pub occurrences-listed : (xs : List (List ℕ)) (name : List ℕ) (index : ℕ) → slice_get xs index ≡ Some name → 1 ≤ occurrences name xs
occurrences-listed [] name index e = absurd (none-some _ e)
occurrences-listed (x ∷ xs) name zero e =
    let same : one_if_same name x ≡ 1 = subst (λ text. one_if_same name text ≡ 1) (sym (same_Some _ _ e)) (one_if_same-self name) in
    omega arith
occurrences-listed (x ∷ xs) name (suc index) e = omega (arith, occurrences-listed xs name index e)

-- what stands there is listed
pub listed-occurrences : (xs : List (List ℕ)) (name : List ℕ) → 1 ≤ occurrences name xs → IsListed xs name
listed-occurrences [] name h = absurd (omega arith)
listed-occurrences (x ∷ xs) name h = by (bytes_eq name x) refl (listed-occurrences xs name) h
  where
    by : (b : Bool) → bytes_eq name x ≡ b → (1 ≤ occurrences name xs → IsListed xs name) → 1 ≤ cond b 1 0 + occurrences name xs → IsListed (x ∷ xs) name
    by true e rest h = (0, ap Some (sym ((bytes_eq-Decides name x).0 e)))
    by false e rest h = let found = rest (omega arith) in (suc found.0, found.1)

pub occurrences-unlisted : (xs : List (List ℕ)) (name : List ℕ) → (IsListed xs name → ⊥) → occurrences name xs ≡ 0
occurrences-unlisted xs name fresh = by (occurrences name xs) refl
  where
    by : (n : ℕ) → occurrences name xs ≡ n → n ≡ 0
    by zero e = refl
    by (suc n) e = absurd (fresh (listed-occurrences xs name (omega arith)))

-- no name stands there twice
abbrev pub AreOnce : List (List ℕ) → Type 0
AreOnce xs = (name : List ℕ) → occurrences name xs ≤ 1

pub AreDistinct-once : (xs : List (List ℕ)) → AreOnce xs → AreDistinct xs
AreDistinct-once [] once i j name at_i at_j = absurd (none-some _ at_i)
AreDistinct-once (x ∷ xs) once zero zero name at_i at_j = refl
AreDistinct-once (x ∷ xs) once zero (suc j) name at_i at_j =
    let same : one_if_same name x ≡ 1 = subst (λ text. one_if_same name text ≡ 1) (sym (same_Some _ _ at_i)) (one_if_same-self name) in
    absurd (omega (arith, once name, occurrences-listed xs name j at_j))
AreDistinct-once (x ∷ xs) once (suc i) zero name at_i at_j =
    let same : one_if_same name x ≡ 1 = subst (λ text. one_if_same name text ≡ 1) (sym (same_Some _ _ at_j)) (one_if_same-self name) in
    absurd (omega (arith, once name, occurrences-listed xs name i at_i))
AreDistinct-once (x ∷ xs) once (suc i) (suc j) name at_i at_j = ap suc (AreDistinct-once xs (λ text. omega (arith, once text)) i j name at_i at_j)

pub AreOnce-distinct : (xs : List (List ℕ)) → AreDistinct xs → AreOnce xs
AreOnce-distinct [] distinct name = omega arith
AreOnce-distinct (x ∷ xs) distinct name = by (bytes_eq name x) refl (AreOnce-distinct xs rest name)
  where
    rest : AreDistinct xs
    rest i j text at_i at_j = same_suc (distinct (suc i) (suc j) text at_i at_j)
      where
        same_suc : suc i ≡ suc j → i ≡ j
        same_suc e = omega arith

    unlisted : bytes_eq name x ≡ true → IsListed xs name → ⊥
    unlisted e found = zero_suc (distinct 0 (suc found.0) name (ap Some (sym ((bytes_eq-Decides name x).0 e))) found.1)
      where
        zero_suc : 0 ≡ suc found.0 → ⊥
        zero_suc h = omega arith

    by : (b : Bool) → bytes_eq name x ≡ b → occurrences name xs ≤ 1 → cond b 1 0 + occurrences name xs ≤ 1
    by true e few = omega (arith, occurrences-unlisted xs name (unlisted e))
    by false e few = omega arith

-- the first of a list are no more often there
pub occurrences-take : (name : List ℕ) (n : ℕ) (xs : List (List ℕ)) → occurrences name (take n xs) ≤ occurrences name xs
occurrences-take name zero xs = omega arith
occurrences-take name (suc n) [] = omega arith
occurrences-take name (suc n) (x ∷ xs) = omega (arith, occurrences-take name n xs)

-- the name of the next of distinct texts is not among those before it
pub fresh-next : (xs ys : List (List ℕ)) (name : List ℕ) → AreDistinct (xs ++ name ∷ ys) → IsListed xs name → ⊥
fresh-next xs ys name distinct (index, there) =
    omega (arith, AreOnce-distinct (xs ++ name ∷ ys) distinct name, occurrences-append name xs (name ∷ ys), occurrences-listed xs name index there, one_if_same-self name)

-- parts of a list without repetition are without repetition
pub AreDistinct-middle : (before xs after : List (List ℕ)) → AreDistinct (before ++ (xs ++ after)) → AreDistinct xs
AreDistinct-middle before xs after distinct =
    AreDistinct-once xs (λ name. omega (arith, AreOnce-distinct (before ++ (xs ++ after)) distinct name, occurrences-append name before (xs ++ after), occurrences-append name xs after))
