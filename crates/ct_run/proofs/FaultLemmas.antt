-- What holds where a call fails.
use Rattle.std.proofs.Common.{◌≡◌, ℕ, Result, Ok, Err, OnErr, IfErr, IfOk, ap}
use Rattle.ct_io.specs.Fault.{HasCause, Rose}

-- what holds at each error
pub if_err : {T E : Type 0} {P : Type 0} (Q : E → Type 0) (r : Result T E) → OnErr r P → ((e : E) → P → Q e) → IfErr r Q
if_err Q (Ok x) p f = tt
if_err Q (Err e) p f = f e p

pub if_err_each : {T E : Type 0} (P Q : E → Type 0) (r : Result T E) → IfErr r P → ((e : E) → P e → Q e) → IfErr r Q
if_err_each P Q (Ok x) p f = tt
if_err_each P Q (Err e) p f = f e p

-- what holds of each value
pub if_ok_each : {T E : Type 0} (P Q : T → Type 0) (r : Result T E) → IfOk r P → ((x : T) → P x → Q x) → IfOk r Q
if_ok_each P Q (Ok x) p f = f x p
if_ok_each P Q (Err e) p f = tt

-- a fault has its cause
pub caused_by : {T E : Type 0} (fault e : E) (before now : ℕ) → HasCause {T = T} fault before now (Err e) → e ≡ fault → Rose before now
caused_by {T} {E} fault e before now h is = h.caused (ap (λ (x : E). Err x) is)
