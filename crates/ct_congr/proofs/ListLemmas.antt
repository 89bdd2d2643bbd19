-- Options that have no value.
use Rattle.std.proofs.Common.{◌≡◌, Option, Some, None, refl}
use Rattle.std.specs.Option.{IfNone}

-- what is said of an option that has no value, where it has none
pub IfNone-from : {X : Type 0} (o : Option X) (P : Type 0) → (o ≡ None → P) → IfNone o P
IfNone-from None P h = h refl
IfNone-from (Some x) P h = tt
