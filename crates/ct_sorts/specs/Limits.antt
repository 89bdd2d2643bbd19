-- How much may be declared.
use Rattle.std.specs.Prelude.{ℕ, ◌+◌, ◌-◌, ◌<◌, ◌⊎◌, Bool, ◌==◌, if◌then◌else◌, List, [], ◌∷◌, length}
use Rattle.std.specs.List.{flat_map}
use Rattle.ct_generics.specs.Declarations.{Head}
use Rattle.ct_generics.specs.declared.room.Room.{Room}
use Rattle.ct_sorts.specs.declared.spelling.Spelling.{Spelling}
use Rattle.ct_sorts.specs.Declarations.{Declarations, most_sorts, most_ctors, most_sels}

-- how many of the sorts and generics are generics
abbrev pub generic_count : List Head → ℕ
generic_count [] = 0
generic_count (head ∷ heads) = if head.params == 0 then generic_count heads else 1 + generic_count heads

-- how many constructors, and how many fields, these generics have; sorts without parameters have theirs in the lists
abbrev pub generic_ctors : List Head → List (List Spelling) → ℕ
generic_ctors [] spellings = 0
generic_ctors (head ∷ heads) [] = 0
generic_ctors (head ∷ heads) (ctors ∷ spellings) = (if head.params == 0 then 0 else length ctors) + generic_ctors heads spellings

abbrev pub generic_sels : List Head → List (List Spelling) → ℕ
generic_sels [] spellings = 0
generic_sels (head ∷ heads) [] = 0
generic_sels (head ∷ heads) (ctors ∷ spellings) = (if head.params == 0 then 0 else length (flat_map (λ c. c.fields) ctors)) + generic_sels heads spellings

-- sorts, generics and synonyms count together, and generics count with their constructors and selectors
abbrev pub sort_count : Declarations → ℕ
sort_count d = length d.sorts + generic_count d.declared.heads + length d.declared.synonyms

abbrev pub ctor_count : Declarations → ℕ
ctor_count d = length d.ctors + generic_ctors d.declared.heads d.spellings

abbrev pub sel_count : Declarations → ℕ
sel_count d = length d.sels + generic_sels d.declared.heads d.spellings

-- more sorts, constructors or selectors than there may be
abbrev pub IsOverLimits : Declarations → Type 0
IsOverLimits d = (most_sorts < sort_count d) ⊎ ((most_ctors < ctor_count d) ⊎ (most_sels < sel_count d))

-- what may still be added
abbrev pub room_in : Declarations → Room
room_in d = record { sorts = most_sorts - sort_count d; ctors = most_ctors - ctor_count d; sels = most_sels - sel_count d }
