-- A step that is refused, or for which memory runs out, stops all of them.
use Rattle.std.proofs.Common.{◌≡◌, ◌↔◌, ℕ, List, ◌∷◌, ◌++◌, Ok, Err, IsErrOf, refl, ap, ◌∙◌}
use Rattle.ct_command.specs.declared.error.CommandError.{CommandError}
use Rattle.ct_command.specs.declared.error.CommandError.TheVariants.{Refused, NoMemory}
use Rattle.ct_names.specs.declared.error.CheckError.{CheckError}
use Rattle.ct_names.specs.declared.error.CheckError.TheVariants as check
use Rattle.ct_names.specs.Needs.{ends_with}
use Rattle.ct_names.specs.Outcome.{Outcome, Elaborated, refused, missing, and_then}
use Rattle.ct_stack.specs.Outcomes.{Comes, each_of}
use Rattle.ct_stack.proofs.OutcomeLemmas.{Completes}

-- an error of the first step is one of all
ends_first : {Y Z W : Type 0} (number n : ℕ) (o : Elaborated Y) (f : Y → Elaborated Z) (g : Z → Elaborated W) → ends_with number o ≡ Err n → ends_with number (and_then (and_then o f) g) ≡ Err n
ends_first number n (Ok y) f g e = absurd cc
ends_first number n (Err (refused m)) f g e = let same : m ≡ n = cc in ap (λ (k : ℕ). Err k) same
ends_first number n (Err (missing m)) f g e = let same : number ≡ n = cc in ap (λ (k : ℕ). Err k) same

module _ {X Y P Q : Type 0} (number : ℕ) (step : X → Elaborated Y) (seen : P → Y) (lists : Q → List Y) where
  pub stops : (whole : Elaborated (List Y)) (out : List Y) (x : X) (left : List X) (e : CommandError) → Completes step whole out (x ∷ left) → Comes seen (ends_with number (step x)) (Err e) → Comes lists (ends_with number whole) (Err e)
  stops whole out x left (Refused n) completes h = ap (ends_with number) completes ∙ ends_first number n (step x) (λ y. and_then (each_of step left) (λ ys. Ok (y ∷ ys))) (λ ys. Ok (out ++ ys)) h
  stops whole out x left NoMemory completes h = tt

-- a refusal is the same of any result
pub same_refusal : {P Q : Type 0} (e : CommandError) (n : ℕ) → IsErrOf {T = P} (Err e) (Refused n) → IsErrOf {T = Q} (Err e) (Refused n)
same_refusal {P} {Q} e n is =
    let same : e ≡ Refused n = cc in
    ap (λ (z : CommandError). Err z) same

-- what refuses a step
pub refusal_of : {P Q Y : Type 0} (seen : P → Y) (outcome : Outcome Y) (e : CommandError) (n : ℕ) → IsErrOf {T = Q} (Err e) (Refused n) → Comes seen outcome (Err e) → outcome ≡ Err n
refusal_of seen outcome (Refused m) n is h =
    let same : m ≡ n = cc in
    h ∙ ap (λ (k : ℕ). Err k) same
refusal_of seen outcome NoMemory n is h = absurd cc

-- the error of an elaboration, as that of the command
pub of_command : {S T : Type 0} (r : CommandError) (error : CheckError) (n : ℕ) → (r ≡ Refused n) ↔ (error ≡ check.Refused n) → IsErrOf {T = S} (Err r) (Refused n) → IsErrOf {T = T} (Err error) (check.Refused n)
of_command {S} {T} r error n iff is =
    let same : r ≡ Refused n = cc in
    ap (λ (z : CheckError). Err z) (iff.0 same)

-- and so what is said of the elaboration is said of the command
pub comes_error_of : {X Y T : Type 0} (seen : X → Y) (outcome : Outcome Y) (r : CommandError) (error : CheckError) → ((n : ℕ) → (r ≡ Refused n) ↔ (error ≡ check.Refused n)) → ((n : ℕ) → IsErrOf {T = T} (Err error) (check.Refused n) → outcome ≡ Err n) → Comes seen outcome (Err r)
comes_error_of seen outcome (Refused n) error iff said = said n (ap (λ (z : CheckError). Err z) ((iff n).0 refl))
comes_error_of seen outcome NoMemory error iff said = tt
