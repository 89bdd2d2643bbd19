-- What holds of the outcome of a call.
use Rattle.std.proofs.Common.{◌≡◌, ℕ, List, [], ◌∷◌, ◌++◌, Result, Ok, Err, Option, Some, None, slice_get, OnOk, OnErr, IfOk, IfErr, IsErrOf, IfSome, IfNone, refl, sym, ◌∙◌, ap, subst}
use Rattle.std.proofs.lemmas.List.{append-nil}
use Rattle.std.specs.Option.{option_and_then}
use Rattle.std.proofs.lemmas.Option.{none-some, same_Some}
use Rattle.ct_sorts.specs.declared.error.SigError.{SigError}
use Rattle.ct_sorts.specs.declared.spelling.Home.{Home}
use Rattle.ct_sorts.specs.declared.spelling.Spelling.{Spelling}
use Rattle.ct_sorts.specs.Grown.{Begins}
use Rattle.ct_sorts.specs.Stored.{spelling_at}

-- what follows from what holds where it is a value
pub on_ok : {T E A B : Type 0} (result : Result T E) → (A → B) → OnOk result A → OnOk result B
on_ok (Ok value) f holds = f holds
on_ok (Err error) f holds = tt

-- what follows from what holds of the value where there is one
pub if_ok : {T E : Type 0} {P Q : T → Type 0} (result : Result T E) → ((value : T) → P value → Q value) → IfOk result P → IfOk result Q
if_ok (Ok value) f holds = f value holds
if_ok (Err error) f holds = tt

-- what follows from what holds where it is an error
pub on_err : {T E A B : Type 0} (result : Result T E) → (A → B) → OnErr result A → OnErr result B
on_err (Ok value) f holds = tt
on_err (Err error) f holds = f holds

-- the same of a value that may be there
pub if_some : {T : Type 0} {P Q : T → Type 0} (found : Option T) → ((value : T) → P value → Q value) → IfSome found P → IfSome found Q
if_some (Some value) f holds = f value holds
if_some None f holds = tt

pub if_none : {T A B : Type 0} (found : Option T) → (A → B) → IfNone found A → IfNone found B
if_none (Some value) f holds = tt
if_none None f holds = f holds

-- what holds of a value that is known
pub of_some : {T : Type 0} (P : T → Type 0) (found : Option T) (x : T) → found ≡ Some x → IfSome found P → P x
of_some P (Some value) x is holds = subst P (same_Some value x is) holds
of_some P None x is holds = absurd (none-some x is)

pub of_none : {T A : Type 0} (found : Option T) → found ≡ None → IfNone found A → A
of_none (Some value) is holds = absurd (none-some value (sym is))
of_none None is holds = holds

pub when_none : {T A : Type 0} (found : Option T) → A → IfNone found A
when_none (Some value) holds = tt
when_none None holds = holds

-- an error is one whatever the value would be
pub err_as : {T U : Type 0} (a b : SigError) → ◌≡◌ {A = Result T SigError} (Err a) (Err b) → ◌≡◌ {A = Result U SigError} (Err a) (Err b)
err_as {T} {U} a b same = ap Err (one a b same)
  where
    one : (a b : SigError) → ◌≡◌ {A = Result T SigError} (Err a) (Err b) → a ≡ b
    one a b same = cc

-- what has no error but want of memory is not refused
pub only_memory : {T : Type 0} (result : Result T SigError) (n : ℕ) → IfErr result (λ e. e ≡ SigError.NoMemory) → IsErrOf result (SigError.Refused n) → ⊥
only_memory {T} (Ok value) n err is = absurd cc
only_memory {T} (Err error) n err is = absurd cc

-- with one more, or as it was where that failed, all that was there is there
pub begins_pushed : {T E X : Type 0} (result : Result T E) (old new : List X) (x : X) → OnOk result (new ≡ old ++ x ∷ []) → OnErr result (new ≡ old) → Begins old new
begins_pushed (Ok value) old new x pushed kept = (x ∷ [], pushed)
begins_pushed (Err error) old new x pushed kept = ([], kept ∙ sym (append-nil old))

-- the row in which the names of a constructor stand
pub spelled_parts : (spellings : List (List Spelling)) (home : Home) (names : Spelling) → spelling_at spellings home ≡ Some names → (ctors : List Spelling) × (slice_get spellings home.head ≡ Some ctors) × (slice_get ctors home.ctor ≡ Some names)
spelled_parts spellings home names at = by (slice_get spellings home.head) refl at
  where
    by : (found : Option (List Spelling)) → slice_get spellings home.head ≡ found → option_and_then (λ (ctors : List Spelling). slice_get ctors home.ctor) found ≡ Some names → (ctors : List Spelling) × (slice_get spellings home.head ≡ Some ctors) × (slice_get ctors home.ctor ≡ Some names)
    by None is e = absurd (none-some _ e)
    by (Some ctors) is e = (ctors, is, e)
