use Rattle.std.proofs.Common.{◌≡◌, List, [], ◌∷◌, Some, slice_get, subst}
use Rattle.std.specs.List.{AllByRecursion}
use Rattle.std.proofs.lemmas.Option.{none-some, same_Some}
use Rattle.ct_finite.specs.Counts.{AreCounts}
use Rattle.ct_compile.specs.AtLevel.{declared_at}
use Rattle.ct_compile.proofs.level.known_finite.Goals as goal

-- the first of these
first_of : {X : Type 0} (P : X → Type 0) (xs : List X) (x : X) → AllByRecursion P xs → slice_get xs 0 ≡ Some x → P x
first_of P [] x h at = absurd (none-some x at)
first_of P (y ∷ ys) x h at = subst P (same_Some y x at) h.0

pub returns-in-len1-up : goal.returns-in-len1-up
returns-in-len1-up c =
    record { counts = first_of (λ finite. AreCounts (declared_at c.args.level.now) finite) c.args.level.now.finite.now _ c.requires.worked c.first_finite.ensures.value }
