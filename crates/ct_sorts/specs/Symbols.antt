-- Which symbol each name of a constructor or a selector stands for, in the order in which sorts without parameters and generics
-- declare them.
use Rattle.std.specs.Prelude.{ℕ, ◌+◌, ◌==◌, if◌then◌else◌, List, [], ◌∷◌, ◌++◌, length, option_map, unwrap_or, slice_get}
use Rattle.std.specs.List.{flat_map}
use Rattle.ct_generics.specs.Expression.{named}
use Rattle.ct_generics.specs.Declarations.{Head}
use Rattle.ct_sorts.specs.declared.ids.SortId.{SortId}
use Rattle.ct_sorts.specs.declared.ids.CtorId.{CtorId}
use Rattle.ct_sorts.specs.declared.ids.SelId.{SelId}
use Rattle.ct_sorts.specs.declared.ids.GenId.{GenId}
use Rattle.ct_sorts.specs.declared.ids.Symbol.{Symbol}
use Rattle.ct_sorts.specs.declared.ids.Symbol.TheVariants.{Ctor, Sel, GenCtor, GenSel}
use Rattle.ct_sorts.specs.declared.spelling.Spelling.{Spelling}
use Rattle.ct_sorts.specs.Declarations.{Declarations, Sort, Constructor}
use Rattle.ct_sorts.specs.Same.{sort_among}

-- the constructors of a sort, and the selectors of a constructor
abbrev pub ctors_at : List Sort → SortId → List CtorId
ctors_at sorts s = unwrap_or (option_map (λ (sort : Sort). sort.ctors) (slice_get sorts s.0)) []

abbrev pub sels_at : List Constructor → CtorId → List SelId
sels_at ctors c = unwrap_or (option_map (λ (ctor : Constructor). ctor.sels) (slice_get ctors c.0)) []

-- the selectors of a constructor by their names
abbrev pub sel_symbols : List (List ℕ) → List SelId → List (List ℕ × Symbol)
sel_symbols [] sels = []
sel_symbols (name ∷ names) [] = []
sel_symbols (name ∷ names) (s ∷ sels) = (name, Sel s) ∷ sel_symbols names sels

-- the constructors of a sort without parameters, each with its selectors
abbrev pub plain_symbols : List Constructor → List Spelling → List CtorId → List (List ℕ × Symbol)
plain_symbols ctors [] ids = []
plain_symbols ctors (s ∷ spellings) [] = []
plain_symbols ctors (s ∷ spellings) (c ∷ ids) = (s.name, Ctor c) ∷ (sel_symbols s.fields (sels_at ctors c) ++ plain_symbols ctors spellings ids)

-- the selectors of constructor i of a generic, those from field k on
abbrev pub generic_sel_symbols : GenId → ℕ → ℕ → List (List ℕ) → List (List ℕ × Symbol)
generic_sel_symbols g i k [] = []
generic_sel_symbols g i k (name ∷ names) = (name, GenSel g i k) ∷ generic_sel_symbols g i (k + 1) names

-- the constructors of a generic, those from i on, each with its selectors
abbrev pub generic_symbols : GenId → ℕ → List Spelling → List (List ℕ × Symbol)
generic_symbols g i [] = []
generic_symbols g i (s ∷ spellings) = (s.name, GenCtor g i) ∷ (generic_sel_symbols g i 0 s.fields ++ generic_symbols g (i + 1) spellings)

-- those of the sort or generic with the number h
abbrev pub symbols_of_head : Declarations → ℕ → Head → List Spelling → List (List ℕ × Symbol)
symbols_of_head d h head spellings =
    if head.params == 0 then plain_symbols d.ctors spellings (ctors_at d.sorts (sort_among d.origins (named h))) else generic_symbols (record { 0 = h }) 0 spellings

abbrev pub symbols_from : Declarations → ℕ → List Head → List (List Spelling) → List (List ℕ × Symbol)
symbols_from d h [] spellings = []
symbols_from d h (head ∷ heads) [] = []
symbols_from d h (head ∷ heads) (ctors ∷ spellings) = symbols_of_head d h head ctors ++ symbols_from d (h + 1) heads spellings

-- all of them
abbrev pub all_symbols : Declarations → List (List ℕ × Symbol)
all_symbols d = symbols_from d 0 d.declared.heads d.spellings

-- the fields of a constructor by their names, with the numbers from `sel` on
abbrev pub numbered_sels : ℕ → List (List ℕ) → List (List ℕ × Symbol)
numbered_sels sel [] = []
numbered_sels sel (name ∷ names) = (name, Sel (record { 0 = sel })) ∷ numbered_sels (sel + 1) names

-- constructors with the numbers from `ctor` on, each with its selectors, which have the numbers from `sel` on
abbrev pub numbered_symbols : ℕ → ℕ → List Spelling → List (List ℕ × Symbol)
numbered_symbols ctor sel [] = []
numbered_symbols ctor sel (s ∷ spellings) = (s.name, Ctor (record { 0 = ctor })) ∷ (numbered_sels sel s.fields ++ numbered_symbols (ctor + 1) (sel + length s.fields) spellings)

-- how many fields constructors have
abbrev pub field_total : List Spelling → ℕ
field_total spellings = length (flat_map (λ s. s.fields) spellings)

-- the symbols of sorts and generics with the numbers from `h` on, of which each has so many parameters; the constructors and
-- selectors of the sorts without parameters have the numbers from `ctor` and `sel` on
abbrev pub block_symbols : ℕ → ℕ → ℕ → List ℕ → List (List Spelling) → List (List ℕ × Symbol)
block_symbols h ctor sel [] spellings = []
block_symbols h ctor sel (params ∷ rest) [] = []
block_symbols h ctor sel (params ∷ rest) (ctors ∷ spellings) =
    if params == 0 then numbered_symbols ctor sel ctors ++ block_symbols (h + 1) (ctor + length ctors) (sel + field_total ctors) rest spellings
    else generic_symbols (record { 0 = h }) 0 ctors ++ block_symbols (h + 1) ctor sel rest spellings
