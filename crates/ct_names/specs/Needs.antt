-- Elaboration with sorts as they are needed: where a step needs a sort that is not there, it is added with all that it needs, and the
-- step is taken again over the declarations that have it.
use Rattle.std.specs.Prelude.{◌≡◌, ℕ, [], ◌∷◌, Ok, Err}
use Rattle.ct_generics.specs.Expression.{Expression}
use Rattle.ct_sorts.specs.Declarations.{Declarations}
use Rattle.ct_sorts.specs.Grown.{Extends}
use Rattle.ct_sorts.specs.Instances.{IsWithSorts, HasNoRoom}
use Rattle.ct_sorts.specs.Refusals.{too_many}
use Rattle.ct_names.specs.declared.needs.Needs.{Needs}
use Rattle.ct_names.specs.declared.needs.Needs.TheVariants.{Add, Find}
use Rattle.ct_names.specs.Outcome.{Elaborated, Outcome, refused, missing}

-- the later declarations are the earlier ones with more sorts
pub record Grows (later earlier : Declarations) : Type 0 where
  pub extends : Extends later earlier
  pub declared : later.declared ≡ earlier.declared
  pub functions : later.functions ≡ earlier.functions
  pub definitions : later.definitions ≡ earlier.definitions

-- From these declarations the later ones come by the sorts that the step needs, one after the other.
pub data Reaches {X : Type 0} (f : Declarations → Elaborated X) : Declarations → Declarations → Type 0 where
  as_they_are : (d : Declarations) → Reaches f d d
  with_needed : (d more later : Declarations) (e : Expression) → f d ≡ Err (missing e) → IsWithSorts d (e ∷ []) more → Reaches f more later → Reaches f d later

-- what the step comes to over declarations to which no sort is added, where a sort that is not there has this number
abbrev pub ends_with : {X : Type 0} → ℕ → Elaborated X → Outcome X
ends_with number (Ok x) = Ok x
ends_with number (Err (refused n)) = Err n
ends_with number (Err (missing e)) = Err number

-- The step comes to this outcome over the later declarations, which have the sorts that it needs, in the order in which it needs
-- them; it is refused where there is no room for one of them and all that this needs.
pub record ComesTo {X : Type 0} (f : Declarations → Elaborated X) (d later : Declarations) (outcome : Outcome X) : Type 0 where
  pub reaches : Reaches f d later
  pub ends : ends_with too_many (f later) ≡ outcome
  pub full : (e : Expression) → f later ≡ Err (missing e) → HasNoRoom later (e ∷ [])

-- the sort cannot be had: there is no room for it, or it is to be found only
abbrev pub CannotHave : Needs → Declarations → Expression → Type 0
CannotHave Add d e = HasNoRoom d (e ∷ [])
CannotHave Find d e = Unit {0}
