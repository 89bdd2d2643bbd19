-- Calls that are numbered from 0, some of which are to fail.
use Rattle.std.specs.Prelude.{ℕ, ◌+◌, min, List, Option, Some, None, Contains, IsSomeAnd, nat_lt, if◌then◌else◌, option_and_then, unwrap_or}
use Rattle.ct_io.specs.Fault.{last_count}

-- the numbers of the calls that fail, the number of the next call where 64 bits hold it, and how many faults there were
pub record Calls : Type 0 where
  pub failing : List ℕ
  pub next : Option ℕ
  pub faults : ℕ

-- before the first call
abbrev pub no_calls : List ℕ → Calls
no_calls failing = record { failing = failing; next = Some 0; faults = 0 }

-- how many calls there were, and the last count where there were more
abbrev pub call_count : Calls → ℕ
call_count calls = unwrap_or calls.next last_count

-- the number after this one, where 64 bits hold it
abbrev pub number_after : ℕ → Option ℕ
number_after n = if nat_lt n last_count then Some (n + 1) else None

-- the next call is one of those that fail
abbrev pub IsToFail : Calls → Type 0
IsToFail calls = IsSomeAnd calls.next (λ n. Contains calls.failing n)

-- after one more call
abbrev pub with_call : Calls → Calls
with_call calls = record calls { next = option_and_then number_after calls.next }

-- after one more fault, which is not counted after the last count
abbrev pub with_fault : Calls → Calls
with_fault calls = record calls { faults = min (calls.faults + 1) last_count }
