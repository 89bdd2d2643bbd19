-- What comes of each of a list: one more, and the first that is refused.
use Rattle.std.proofs.Common.{◌≡◌, ℕ, List, [], ◌∷◌, ◌++◌, map, Ok, Err, refl, sym, subst, ◌∙◌}
use Rattle.std.specs.Result.{IsErrOf}
use Rattle.ct_generics.specs.declared.error.GenericError.{GenericError}
use Rattle.ct_generics.specs.Outcome.{Outcome, and_then, all_of, each}

-- what came next came of a value
pub and_then-ok : {X Y : Type 0} (x : Outcome X) (next : X → Outcome Y) (y : Y) → and_then x next ≡ Ok y → (v : X) × (x ≡ Ok v) × (next v ≡ Ok y)
and_then-ok (Ok v) next y e = (v, refl, e)
and_then-ok (Err n) next y e = absurd cc

-- one outcome is one value
pub same_Ok : {X : Type 0} (x y : X) (o : Outcome X) → o ≡ Ok x → o ≡ Ok y → x ≡ y
same_Ok x y o first second = let e = sym first ∙ second in cc

-- and no value is an error
pub ok-err : {X : Type 0} (x : X) (n : ℕ) (o : Outcome X) → o ≡ Ok x → o ≡ Err n → ⊥
ok-err x n o first second = absurd (let e = sym first ∙ second in cc)

-- what came of each
pub each-parts : {X Y : Type 0} (f : X → Outcome Y) (x : X) (xs : List X) (ys : List Y) → each f (x ∷ xs) ≡ Ok ys → (v : Y) × (vs : List Y) × (f x ≡ Ok v) × (each f xs ≡ Ok vs) × (ys ≡ v ∷ vs)
each-parts f x xs ys e =
    let first = and_then-ok (f x) _ ys e in
    let rest = and_then-ok (each f xs) _ ys first.2 in
    (first.0, rest.0, first.1, rest.1, sym (same_Ok (first.0 ∷ rest.0) ys (Ok (first.0 ∷ rest.0)) refl rest.2))

each-cons : {X Y : Type 0} (f : X → Outcome Y) (x : X) (xs : List X) (v : Y) (vs : List Y) → f x ≡ Ok v → each f xs ≡ Ok vs → each f (x ∷ xs) ≡ Ok (v ∷ vs)
each-cons f x xs v vs at rest = rw (at, rest) refl

-- one more
pub each-push : {X Y : Type 0} (f : X → Outcome Y) (xs : List X) (x : X) (ys : List Y) (y : Y) → each f xs ≡ Ok ys → f x ≡ Ok y → each f (xs ++ x ∷ []) ≡ Ok (ys ++ y ∷ [])
each-push f [] x ys y e at = rw (at, sym (same_Ok [] ys (Ok []) refl e)) refl
each-push f (z ∷ xs) x ys y e at =
    let parts = each-parts f z xs ys e in
    subst (λ (ws : List _). each f (z ∷ (xs ++ x ∷ [])) ≡ Ok (ws ++ y ∷ [])) (sym parts.4) (each-cons f z (xs ++ x ∷ []) parts.0 (parts.1 ++ y ∷ []) parts.2 (each-push f xs x parts.1 y parts.3 at))

-- one that is refused ends it
pub each-stop : {X Y : Type 0} (f : X → Outcome Y) (xs : List X) (x : X) (rest : List X) (ys : List Y) (n : ℕ) → each f xs ≡ Ok ys → f x ≡ Err n → each f (xs ++ x ∷ rest) ≡ Err n
each-stop f [] x rest ys n e at = rw at refl
each-stop f (z ∷ xs) x rest ys n e at =
    let parts = each-parts f z xs ys e in
    rw (parts.2, each-stop f xs x rest parts.1 n parts.3 at) refl

-- the values of all are what came of each
pub all_of-each : {X Y : Type 0} (f : X → Outcome Y) (xs : List X) → all_of (map f xs) ≡ each f xs
all_of-each f [] = refl
all_of-each f (x ∷ xs) = rw (all_of-each f xs) refl

-- the same error, of another call
pub err_cast : {X Y : Type 0} (a b : GenericError) → IsErrOf {T = X} {E = GenericError} (Err a) b → IsErrOf {T = Y} {E = GenericError} (Err a) b
err_cast {X} {Y} a b e = let same : a ≡ b = cc in cc
