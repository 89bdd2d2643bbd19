-- What is left of the limits after a block.
use Rattle.std.specs.Prelude.{◌≡◌, ℕ, ◌+◌, ◌<◌, ◌⊎◌, List}
use Rattle.std.specs.List.{flat_map}
use Rattle.ct_generics.specs.declared.room.Room.{Room}
use Rattle.ct_generics.specs.declared.decl.Field.{Field}
use Rattle.ct_generics.specs.declared.decl.CtorDecl.{CtorDecl}

-- the fields that constructors declare, one constructor after the other
abbrev pub decl_fields : List CtorDecl → List Field
decl_fields ctors = flat_map (λ c. c.fields) ctors

-- after so many sorts and generics, constructors and selectors this is left of the room
pub record IsLeft (room left : Room) (sorts ctors sels : ℕ) : Type 0 where
  pub sorts_left : left.sorts + sorts ≡ room.sorts
  pub ctors_left : left.ctors + ctors ≡ room.ctors
  pub sels_left : left.sels + sels ≡ room.sels

-- there is no room for so many
abbrev pub DoesNotFit : Room → ℕ → ℕ → ℕ → Type 0
DoesNotFit room sorts ctors sels = (room.sorts < sorts) ⊎ ((room.ctors < ctors) ⊎ (room.sels < sels))
