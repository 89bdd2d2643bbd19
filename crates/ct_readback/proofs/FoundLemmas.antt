-- What is found, or that nothing is.
use Rattle.std.proofs.Common.{◌≡◌, Option, None, Some, MatchOption, sym, subst}
use Rattle.std.proofs.lemmas.Option.{none-some, same_Some}

pub found_some : {X : Type 0} (o : Option X) (x : X) (P : Type 0) (Q : X → Type 0) → o ≡ Some x → MatchOption o P Q → Q x
found_some None x P Q is h = absurd (none-some x is)
found_some (Some y) x P Q is h = subst Q (same_Some y x is) h

pub found_none : {X : Type 0} (o : Option X) (P : Type 0) (Q : X → Type 0) → o ≡ None → MatchOption o P Q → P
found_none None P Q is h = h
found_none (Some y) P Q is h = absurd (none-some y (sym is))
