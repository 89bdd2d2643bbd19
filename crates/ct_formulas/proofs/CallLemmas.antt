-- Environments and definitions: what holds of what is bound holds of the environment, and a definition is its body read
-- over the definitions before it.
use Rattle.std.proofs.Common.{◌≡◌, ℕ, zero, suc, ◌<◌, ◌==◌, List, [], ◌∷◌, slice_get, if◌then◌else◌, refl, ◌∙◌, arith}
use Rattle.std.specs.List.{AllZip}
use Rattle.ct_lemmas.proofs.Booleans.{by_test}
use Rattle.ct_lemmas.proofs.Numbers.{same_number}
use Rattle.ct_sorts.specs.declared.ids.DefId.{DefId}
use Rattle.ct_formulas.specs.Formula.{Formula, bind}
use Rattle.ct_formulas.specs.Calls.{Reading, body_call, calls_below}

-- bound in order, lists that go together go together with the environment
pub AllZip-bind : {X Y : Type 0} (R : X → Y → Type 0) (xs : List X) (ys : List Y) (env : List X) (others : List Y) → AllZip R xs ys → AllZip R env others → AllZip R (bind xs env) (bind ys others)
AllZip-bind R [] [] env others h k = k
AllZip-bind R [] (y ∷ ys) env others h k = absurd h
AllZip-bind R (x ∷ xs) [] env others h k = absurd h
AllZip-bind R (x ∷ xs) (y ∷ ys) env others h k = AllZip-bind R xs ys (x ∷ env) (y ∷ others) h.1 (h.0, k)

-- what definitions give holds below a bound where it holds of every body read over the definitions before it
module _ {X : Type 0} (read : Reading X) (other : X) (bodies : List Formula) (P : ℕ → (DefId → List X → X) → Type 0) where
  abbrev NextStep : Type 0
  NextStep = (n : ℕ) → P n (calls_below read other bodies n) → P (suc n) (calls_below read other bodies (suc n))

  pub calls_below-all : P 0 (calls_below read other bodies 0) → NextStep → (n : ℕ) → P n (calls_below read other bodies n)
  calls_below-all first next zero = first
  calls_below-all first next (suc n) = next n (calls_below-all first next n)

-- what a definition gives: its body over the definitions before it, or what it gave before
pub calls_below-suc : {X : Type 0} (read : Reading X) (other : X) (bodies : List Formula) (n : ℕ) (k : DefId) (args : List X) → calls_below read other bodies (suc n) k args ≡ (if k.0 == n then body_call read other (calls_below read other bodies n) (slice_get bodies n) args else calls_below read other bodies n k args)
unfolding calls_below
calls_below-suc read other bodies n k args = refl

-- for a definition below two bounds both give the same
pub calls_below-more : {X : Type 0} (read : Reading X) (other : X) (bodies : List Formula) (n : ℕ) (k : DefId) (args : List X) → k.0 < n → calls_below read other bodies (suc n) k args ≡ calls_below read other bodies n k args
calls_below-more {X} read other bodies n k args below =
    calls_below-suc read other bodies n k args
    ∙ by_test (λ (x : X). x ≡ calls_below read other bodies n k args) (k.0 == n) _ _ (λ e. absurd (omega (arith, below, same_number k.0 n e))) (λ e. refl)
