-- What a block of sorts and generics adds to the declarations (SMT-LIB 2.7, section 4.2.3, on declare-datatypes).
use Rattle.std.specs.Prelude.{◌≡◌, ℕ, ◌+◌, Bool, ◌==◌, true, ◌⊎◌, if◌then◌else◌, List, [], ◌∷◌, ◌++◌, length, map, Ok}
use Rattle.std.specs.List.{flat_map, list_any}
use Rattle.ct_sorts.specs.declared.ids.SortId.{SortId}
use Rattle.ct_sorts.specs.declared.ids.Kind.{Kind}
use Rattle.ct_sorts.specs.declared.ids.Declared.{Declared as Given}
use Rattle.ct_sorts.specs.declared.ids.Declared.TheVariants.{Sort as GivenSort, Generic as GivenGeneric}
use Rattle.ct_sorts.specs.declared.spelling.Spelling.{Spelling}
use Rattle.ct_generics.specs.declared.decl.Field.{Field}
use Rattle.ct_generics.specs.declared.decl.CtorDecl.{CtorDecl}
use Rattle.ct_generics.specs.declared.decl.SortDecl.{SortDecl}
use Rattle.ct_generics.specs.Expression.{Expression, named}
use Rattle.ct_generics.specs.Declarations.{Head}
use Rattle.ct_generics.specs.Add.{Adds, field_sorts}
use Rattle.ct_generics.specs.Block.{heads_in, with_heads, IsBlockRefusal as IsRefusalOfHeads}
use Rattle.ct_sorts.specs.Availability.{HasUnavailable, HasUnavailableSort}
use Rattle.ct_sorts.specs.Declarations.{Declarations, declared_names, symbol_names}
use Rattle.ct_sorts.specs.Kinds.{head_kind}
use Rattle.ct_sorts.specs.Limits.{IsOverLimits}
use Rattle.ct_sorts.specs.Made.{with_sorts}
use Rattle.ct_sorts.specs.Instances.{HasNoRoom}
use Rattle.ct_sorts.specs.Refusals.{IsFirstCause, IsNone, name_taken, no_constructor, too_many}

-- the constructors that a block declares, one sort or generic after the other
abbrev pub block_ctors : List SortDecl → List CtorDecl
block_ctors block = flat_map (λ s. s.ctors) block

-- the names of a block's sorts and generics
abbrev pub block_names : List SortDecl → List (List ℕ)
block_names block = map (λ (s : SortDecl). s.name) block

-- the names of a constructor and its fields
abbrev pub spelling : CtorDecl → Spelling
spelling ctor = record { name = ctor.name; fields = map (λ (f : Field). f.name) ctor.fields }

-- the names of constructors and their fields, as they stand in the text
abbrev pub ctor_symbols : List CtorDecl → List (List ℕ)
ctor_symbols ctors = flat_map (λ c. c.name ∷ map (λ (f : Field). f.name) c.fields) ctors

-- the names of the constructors of each sort and generic
abbrev pub block_spellings : List SortDecl → List (List Spelling)
block_spellings block = map (λ (s : SortDecl). map spelling s.ctors) block

-- how many parameters each sort or generic of a block has
abbrev pub params_of : List SortDecl → List ℕ
params_of block = map (λ (s : SortDecl). s.params) block

-- those without parameters among sorts and generics with the numbers from `h` on that have so many each
abbrev pub plain_from : ℕ → List ℕ → List Expression
plain_from h [] = []
plain_from h (params ∷ rest) = if params == 0 then named h ∷ plain_from (h + 1) rest else plain_from (h + 1) rest

-- the numbers that sorts and generics with so many parameters get: sorts those from `s` on, and generics those from `h` on
abbrev pub given_from : ℕ → ℕ → List ℕ → List Given
given_from s h [] = []
given_from s h (params ∷ rest) = if params == 0 then GivenSort (record { 0 = s }) ∷ given_from (s + 1) (h + 1) rest else GivenGeneric (record { 0 = h }) ∷ given_from s (h + 1) rest

-- the declarations with these sorts and generics and the names of their constructors
abbrev pub with_own : Declarations → List Head → List (List Spelling) → Declarations
with_own d own spellings = record d { declared = with_heads d.declared own; spellings = d.spellings ++ spellings }

-- the sorts without parameters of a block
abbrev pub own_sorts : Declarations → List Head → List Expression
own_sorts d own = plain_from (length d.declared.heads) (map (λ (h : Head). h.params) own)

-- the declarations with these sorts and generics and those without parameters in the list of sorts, where the sorts of their
-- fields have not come into the list yet
abbrev pub with_own_sorts : Declarations → List Head → List (List Spelling) → Declarations
with_own_sorts d own spellings = with_sorts (with_own d own spellings) (own_sorts d own)

-- the sorts of their fields
abbrev pub own_fields : Declarations → List Head → List Expression
own_fields d own = flat_map (field_sorts (d.declared.heads ++ own)) (own_sorts d own)

-- The later declarations are the earlier ones with the block: its sorts and generics, and in the list of sorts those without
-- parameters and then the sorts of their fields with all that come with these.
abbrev pub IsWithBlock : Declarations → Kind → List SortDecl → List Given → Declarations → Type 0
IsWithBlock d kind block given later =
    (own : List Head) × (heads_in d.declared (head_kind kind) block ≡ Ok own)
    × (added : List Expression) × Adds (d.declared.heads ++ own) (own_fields d own) (d.origins ++ own_sorts d own) ((d.origins ++ own_sorts d own) ++ added)
    × (later ≡ with_sorts (with_own d own (block_spellings block)) (own_sorts d own ++ added))
    × (given ≡ given_from (length d.sorts) (length d.declared.heads) (params_of block))

-- a name of the block is taken in its space, repeated in it, or cannot be declared
abbrev pub HasNameTaken : Declarations → List SortDecl → Type 0
HasNameTaken d block = HasUnavailableSort (declared_names d) (block_names block) ⊎ HasUnavailable (symbol_names d) (ctor_symbols (block_ctors block))

-- some sort or generic of the block has no constructor
abbrev pub has_no_constructor : List SortDecl → Bool
has_no_constructor block = list_any (λ (s : SortDecl). length s.ctors == 0) block

-- there is no room for the sorts and generics of the block, or for what comes with their fields
abbrev pub IsBlockTooMany : Declarations → Kind → List SortDecl → Type 0
IsBlockTooMany d kind block =
    (own : List Head) → heads_in d.declared (head_kind kind) block ≡ Ok own
    → IsOverLimits (with_own_sorts d own (block_spellings block)) ⊎ HasNoRoom (with_own_sorts d own (block_spellings block)) (own_fields d own)

-- the number with which a block is refused whose names may be declared and whose sorts and generics have constructors
abbrev pub IsLaterRefusal : Declarations → Kind → List SortDecl → ℕ → Type 0
IsLaterRefusal d kind block n =
    IsRefusalOfHeads d.declared (head_kind kind) block n
    ⊎ (((m : ℕ) → IsRefusalOfHeads d.declared (head_kind kind) block m → ⊥) × IsFirstCause too_many (IsBlockTooMany d kind block) IsNone n)

-- the number with which the block is refused: that of the first cause that applies
abbrev pub IsBlockRefusal : Declarations → Kind → List SortDecl → ℕ → Type 0
IsBlockRefusal d kind block =
    IsFirstCause name_taken (HasNameTaken d block)
    (IsFirstCause no_constructor (has_no_constructor block ≡ true)
    (IsLaterRefusal d kind block))
