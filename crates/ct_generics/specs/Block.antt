-- What a block of sorts and generics declares, and with which error it is refused, where its names are free and each of its
-- sorts has a constructor (SMT-LIB 2.7, section 4.2.3, on declare-datatypes).
use Rattle.std.specs.Prelude.{◌≡◌, ℕ, ◌<◌, ◌≤◌, ◌⊎◌, List, [], ◌++◌, map, length, Some, Ok, Err, slice_get}
use Rattle.ct_generics.specs.declared.kind.Kind.{Kind}
use Rattle.ct_generics.specs.declared.kind.Kind.TheVariants.{Data}
use Rattle.ct_generics.specs.declared.decl.Field.{Field}
use Rattle.ct_generics.specs.declared.decl.CtorDecl.{CtorDecl}
use Rattle.ct_generics.specs.declared.decl.SortDecl.{SortDecl}
use Rattle.ct_generics.specs.Expression.{Expression, at_own_parameters}
use Rattle.ct_generics.specs.Declarations.{Declared, Head}
use Rattle.ct_generics.specs.Outcome.{Outcome, and_then, each}
use Rattle.ct_generics.specs.Resolved.{resolved}
use Rattle.ct_generics.specs.Reach.{Reaches, ReachesMoreThan, most_reached}
use Rattle.ct_generics.specs.Text.{text_length, most_text}
use Rattle.ct_generics.specs.Founded.{IsFounded}
use Rattle.ct_generics.specs.Mixed.{IsMixed}
use Rattle.ct_generics.specs.Uniform.{AreUniform}
use Rattle.ct_generics.specs.Refusals.{IsFirstCause, IsNone, not_founded, too_many, mixed, not_uniform}

-- a sort or generic of the block by its name and parameters alone
abbrev pub named_only : Kind → SortDecl → Head
named_only kind decl = record { name = decl.name; kind = kind; params = decl.params; ctors = [] }

-- what names stand for inside the block: its own sorts and generics come after the earlier ones
abbrev pub with_names : Declared → Kind → List SortDecl → Declared
with_names d kind block = record d { heads = d.heads ++ map (named_only kind) block }

-- what is declared with these sorts and generics after the earlier ones
abbrev pub with_heads : Declared → List Head → Declared
with_heads d own = record d { heads = d.heads ++ own }

-- the field sorts of a constructor
abbrev pub fields_in : Declared → CtorDecl → Outcome (List Expression)
fields_in names ctor = each (λ (f : Field). resolved names f.sort) ctor.fields

-- a sort or generic of the block with its field sorts
abbrev pub head_in : Declared → Kind → SortDecl → Outcome Head
head_in names kind decl = and_then (each (fields_in names) decl.ctors) (λ ctors. Ok (record { name = decl.name; kind = kind; params = decl.params; ctors = ctors }))

-- the sorts and generics of the block, or the first error by place
abbrev pub heads_in : Declared → Kind → List SortDecl → Outcome (List Head)
heads_in d kind block = each (head_in (with_names d kind block) kind) block

-- of some sort or generic from `first` on, at its own parameters, this holds
abbrev pub SomeOwn : ℕ → List Head → (Expression → Type 0) → Type 0
SomeOwn first heads P = (h : ℕ) × (head : Head) × (first ≤ h) × (slice_get heads h ≡ Some head) × P (at_own_parameters h head.params)

-- the expression reaches too many, or one whose text is too long
abbrev pub IsTooLarge : List Head → Expression → Type 0
IsTooLarge heads e = ReachesMoreThan heads e most_reached ⊎ ((f : Expression) × Reaches heads e f × (most_text < text_length heads f))

-- the number with which a uniform block is refused for what its sorts and generics, those from `first` on, reach
abbrev pub IsGraphRefusal : ℕ → Kind → List Head → ℕ → Type 0
IsGraphRefusal first kind heads =
    IsFirstCause too_many (SomeOwn first heads (IsTooLarge heads))
    (IsFirstCause mixed (SomeOwn first heads (IsMixed heads))
    (IsFirstCause not_founded ((kind ≡ Data) × SomeOwn first heads (λ e. IsFounded heads e → ⊥)) IsNone))

-- the number with which a block whose names are known is refused, where its sorts and generics are those from `first` on
abbrev pub IsShapeRefusal : ℕ → Kind → List Head → ℕ → Type 0
IsShapeRefusal first kind heads = IsFirstCause not_uniform (AreUniform first heads → ⊥) (IsGraphRefusal first kind heads)

-- the number with which the block is refused: unknown names and wrong numbers of arguments come first, by place
abbrev pub IsBlockRefusal : Declared → Kind → List SortDecl → ℕ → Type 0
IsBlockRefusal d kind block n =
    (heads_in d kind block ≡ Err n)
    ⊎ ((own : List Head) × (heads_in d kind block ≡ Ok own) × IsShapeRefusal (length d.heads) kind (d.heads ++ own) n)
