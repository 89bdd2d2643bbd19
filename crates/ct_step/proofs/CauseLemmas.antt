-- The causes of a refusal one after the other, and the numbers of errors.
use Rattle.std.proofs.Common.{◌≡◌, ◌∙◌, ◌↔◌, ℕ, Bool, true, false, true≢false, Err, sym, ap, subst, inl, inr}
use Rattle.std.specs.Prelude.{IsErrOf, IsTrue}
use Rattle.ct_sorts.specs.Refusals.{IsFirstCause, IsNone}
use Rattle.ct_command.specs.declared.error.CommandError.{CommandError}
use Rattle.ct_command.specs.declared.error.CommandError.TheVariants.{Refused}

-- the last cause
pub last_cause : (number : ℕ) (cause : Type 0) (n : ℕ) → n ≡ number → cause → IsFirstCause number cause IsNone n
last_cause number cause n e h = inl (e, h)

pub no_last : (number : ℕ) (cause : Type 0) → (cause → ⊥) → (n : ℕ) → IsFirstCause number cause IsNone n → ⊥
no_last number cause none n (inl h) = none h.1
no_last number cause none n (inr h) = h.1

-- what holds of the number of an error holds of each number that it has
pub at_code : {T : Type 0} (X : ℕ → Type 0) (code : ℕ) → X code → (n : ℕ) → IsErrOf {T = T} {E = CommandError} (Err (Refused code)) (Refused n) → X n
at_code X code h n e =
    let same : code ≡ n = cc in
    subst X same h

-- an error that is passed on
pub refused_by : {T U : Type 0} (X : ℕ → Type 0) (e : CommandError) → ((n : ℕ) → IsErrOf {T = T} {E = CommandError} (Err e) (Refused n) → X n) → (n : ℕ) → IsErrOf {T = U} {E = CommandError} (Err e) (Refused n) → X n
refused_by X e why n is =
    let same : e ≡ Refused n = cc in
    why n (ap (λ (x : CommandError). Err x) same)

-- what is tested is not there where the test fails
pub not_when : (b : Bool) (P : Type 0) → b ≡ false → IsTrue b ↔ P → P → ⊥
not_when b P is iff p =
    let yes : b ≡ true = iff.1 p in
    true≢false (sym yes ∙ is)
