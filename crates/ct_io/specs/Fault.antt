-- Why a call on the outside may answer a fault.
use Rattle.std.specs.Prelude.{◌≡◌, ◌≢◌, ℕ, ◌<◌, ◌≤◌, ◌⊎◌, Result, OnOk, IfErr, IsErrOf}

-- the last value of a count of 64 bits, at which it stands still
abbrev pub last_count : ℕ
last_count = 18446744073709551615

-- the count went up, or stood at its last value and could not
abbrev pub Rose : ℕ → ℕ → Type 0
Rose before now = (before < now) ⊎ (last_count ≤ before)

-- a count of faults never falls; the fault is answered only where it rose, and every other answer
-- leaves it as it was
pub record HasCause {T E : Type 0} (fault : E) (before now : ℕ) (result : Result T E) : Type 0 where
  pub later : before ≤ now
  pub caused : IsErrOf result fault → Rose before now
  pub uncounted : OnOk result (now ≡ before)
  pub other : IfErr result (λ e. e ≢ fault → now ≡ before)
