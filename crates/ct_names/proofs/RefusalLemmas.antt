-- What a refusal says, carried along the exits of a call.
use Rattle.std.proofs.Common.{◌≡◌, ℕ, Result, Err, IsErrOf, refl, subst}
use Rattle.ct_names.specs.declared.error.CheckError.{CheckError}
use Rattle.ct_names.specs.declared.error.CheckError.TheVariants.{Refused, NoMemory}
use Rattle.ct_names.specs.Answer.{IsAnswerFor}
use Rattle.ct_names.specs.Outcome.{Outcome}

-- the number that is refused is this one
pub refused_number : {T : Type 0} (k n : ℕ) → IsErrOf {T = T} {E = CheckError} (Err (Refused k)) (Refused n) → n ≡ k
refused_number k n e = cc

-- what holds of it holds of each number that is refused
pub refused_at : {T : Type 0} (P : ℕ → Type 0) (k : ℕ) → P k → (n : ℕ) → IsErrOf {T = T} {E = CheckError} (Err (Refused k)) (Refused n) → P n
refused_at P k h n e = let same : k ≡ n = cc in subst P same h

-- an error that is passed on
pub refused_on : {S T : Type 0} (P : ℕ → Type 0) (e : CheckError) (r : Result T CheckError) → r ≡ Err e → ((n : ℕ) → IsErrOf {T = S} {E = CheckError} (Err e) (Refused n) → P n) → (n : ℕ) → IsErrOf r (Refused n) → P n
refused_on P e r is refuses n at =
    let same : e ≡ Refused n = cc in
    refuses n (let passed : e ≡ Refused n = same in cc)

-- what is refused is an answer
pub refused_answers : {S X Y : Type 0} (view : X → Y) (outcome : Outcome Y) (e : CheckError) → ((n : ℕ) → IsErrOf {T = S} {E = CheckError} (Err e) (Refused n) → outcome ≡ Err n) → IsAnswerFor view outcome (Err e)
refused_answers view outcome (Refused n) refuses = refuses n refl
refused_answers view outcome NoMemory refuses = tt
