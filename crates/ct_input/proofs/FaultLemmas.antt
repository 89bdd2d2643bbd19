-- Causes of faults, through calls one after another.
use Rattle.std.proofs.Common.{◌≡◌, ℕ, Result, Err, ap, subst}
use Rattle.ct_io.specs.Fault.{HasCause}

-- an error that is passed on has the cause that it had
pub HasCause-passed : {T U E : Type 0} (fault : E) (before now : ℕ) (e : E) → HasCause {T = T} fault before now (Err e) → HasCause {T = U} fault before now (Err e)
HasCause-passed {T} {U} {E} fault before now e h = record {
  later = h.later;
  caused = λ is. let same : e ≡ fault = cc in h.caused (ap (λ (x : E). Err x) same);
  uncounted = tt;
  other = h.other;
}

-- a cause is a cause since the start, where the count stood still until then
pub HasCause-since : {T E : Type 0} (fault : E) (start before now : ℕ) (r : Result T E) → before ≡ start → HasCause fault before now r → HasCause fault start now r
HasCause-since fault start before now r same h = subst (λ (n : ℕ). HasCause fault n now r) same h
