-- Options and results: where there is a value, and what follows for it.
use Rattle.std.proofs.Common.{◌≡◌, Option, option_map, Some, None, refl, sym, ◌∙◌, Result, Ok, Err, OnOk, IfOk}
use Rattle.std.proofs.lemmas.Option.{none-some, same_Some}

-- the image of a value comes from a value
pub option_map-source : {X Y : Type 0} (f : X → Y) (o : Option X) (y : Y) → option_map f o ≡ Some y → (x : X) × (o ≡ Some x) × (f x ≡ y)
option_map-source f None y e = absurd (none-some y e)
option_map-source f (Some x) y e = (x, refl, same_Some (f x) y e)

-- an option has one value
pub same_found : {X : Type 0} (o : Option X) (x y : X) → o ≡ Some x → o ≡ Some y → x ≡ y
same_found o x y h k = same_Some x y (sym h ∙ k)

-- what follows where there is no error
pub OnOk-map : {X E : Type 0} (r : Result X E) (P Q : Type 0) → (P → Q) → OnOk r P → OnOk r Q
OnOk-map (Ok x) P Q f h = f h
OnOk-map (Err e) P Q f h = tt

-- the same with what follows last
pub OnOk-then : {T E : Type 0} {P Q : Type 0} (r : Result T E) → OnOk r P → (P → Q) → OnOk r Q
OnOk-then (Ok x) p f = f p
OnOk-then (Err e) p f = tt

-- what follows for a value where there is no error
pub IfOk-map : {X E : Type 0} (r : Result X E) (P Q : X → Type 0) → ((x : X) → P x → Q x) → IfOk r P → IfOk r Q
IfOk-map (Ok x) P Q more h = more x h
IfOk-map (Err e) P Q more h = tt
