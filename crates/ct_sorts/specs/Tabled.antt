-- What the tables of sorts and generics keep.
use Rattle.std.specs.Prelude.{◌≡◌, ℕ, List, [], map, Some, slice_get}
use Rattle.std.specs.List.{AllZip}
use Rattle.ct_generics.specs.SortTable.{AreSorts, AreCounted}
use Rattle.ct_generics.specs.Denoted.{declared_of, sorts_of}
use Rattle.ct_generics.specs.Expression.{Expression, head_of, args_of}
use Rattle.ct_generics.specs.Stored.{AreDeclared}
use Rattle.ct_sorts.specs.declared.ids.SortId.{SortId}
use Rattle.ct_sorts.specs.declared.entries.SortEntry.{SortEntry}
use Rattle.ct_sorts.specs.declared.entries.CtorEntry.{CtorEntry}
use Rattle.ct_sorts.specs.declared.entries.SelEntry.{SelEntry}
use Rattle.ct_sorts.specs.declared.tables.Tables.{Tables}
use Rattle.ct_sorts.specs.Declarations.{Declarations, Function, head_symbols}
use Rattle.ct_sorts.specs.Determined.{AreMarked, IsCtorAt}
use Rattle.ct_sorts.specs.Lookup.{names_of}
use Rattle.ct_sorts.specs.Symbols.{all_symbols}
use Rattle.ct_sorts.specs.SortText.{sort_text}
use Rattle.ct_sorts.specs.Stored.{sort_of_entry, ctor_of, sel_of}

-- the declarations that the tables keep, with these functions and definitions
abbrev pub of_tables : Tables → List Function → List Function → Declarations
of_tables t functions definitions =
    record {
      sorts = map sort_of_entry t.sorts;
      ctors = map (ctor_of t.spellings) t.ctors;
      sels = map (sel_of t.spellings) t.sels;
      functions = functions;
      definitions = definitions;
      declared = declared_of t.generics;
      spellings = t.spellings;
      origins = sorts_of t.table;
    }

-- the number is that of this sort
abbrev pub IsNumberOf : List Expression → SortId → Expression → Type 0
IsNumberOf origins s e = slice_get origins s.0 ≡ Some e

-- the entry says of what sort or generic the sort is, and with which arguments
pub record IsEntryOf (origins : List Expression) (entry : SortEntry) (e : Expression) : Type 0 where
  pub head_is : head_of e ≡ Some entry.head
  pub args_are : AllZip (IsNumberOf origins) entry.args (args_of e)

-- each constructor is that of its sort which its home says
abbrev pub HaveHomes : Declarations → List CtorEntry → Type 0
HaveHomes d ctors = (c : ℕ) (entry : CtorEntry) → slice_get ctors c ≡ Some entry → IsCtorAt d (record { 0 = c }) entry.home.head entry.home.ctor

-- each selector has the home of its constructor
abbrev pub AreAtHome : List CtorEntry → List SelEntry → Type 0
AreAtHome ctors sels = (s : ℕ) (entry : SelEntry) → slice_get sels s ≡ Some entry → (ctor : CtorEntry) × (slice_get ctors entry.ctor.0 ≡ Some ctor) × (entry.home ≡ ctor.home)

-- what the tables keep fits together
pub record IsTabled (t : Tables) : Type 0 where
  pub declared : AreDeclared t.generics (declared_of t.generics)
  pub stand : AreSorts t.table (sorts_of t.table)
  pub counted : AreCounted t.generics t.table
  -- the sorts are found by their texts,
  pub texts : names_of t.sorts ≡ map (sort_text (declared_of t.generics).heads) (sorts_of t.table)
  pub entries : AllZip (IsEntryOf (sorts_of t.table)) (map (λ (e : List ℕ × SortEntry). e.1) t.sorts) (sorts_of t.table)
  -- and constructors and selectors by the names of the sorts and generics that have them
  pub symbols : names_of t.symbols ≡ head_symbols t.spellings
  pub resolved : t.symbols ≡ all_symbols (of_tables t [] [])
  pub determined : AreMarked (declared_of t.generics).heads t.determined
  pub homes : HaveHomes (of_tables t [] []) t.ctors
  pub sel_homes : AreAtHome t.ctors t.sels
