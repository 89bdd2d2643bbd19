-- Tables to which the entries of sorts were added.
use Rattle.std.specs.Prelude.{◌≡◌, ℕ, ◌+◌, ◌≤◌, List, [], ◌++◌, length, map, take, Some, slice_get}
use Rattle.std.specs.List.{AllZip}
use Rattle.ct_generics.specs.declared.nodes.ExprId.{ExprId}
use Rattle.ct_generics.specs.Denoted.{declared_of, sorts_of}
use Rattle.ct_generics.specs.Additions.{ComeAfterArguments, HaveFields}
use Rattle.ct_generics.specs.Declarations.{IsExpression}
use Rattle.ct_generics.specs.Expression.{Expression}
use Rattle.ct_generics.specs.Nodes.{Stay}
use Rattle.ct_generics.specs.Reach.{fields_of}
use Rattle.ct_generics.specs.SortTable.{AreSorts}
use Rattle.ct_generics.specs.Stored.{AreDeclared}
use Rattle.ct_generics.specs.Synonyms.{first_of}
use Rattle.ct_sorts.specs.declared.entries.SortEntry.{SortEntry}
use Rattle.ct_sorts.specs.declared.tables.Tables.{Tables}
use Rattle.ct_sorts.specs.Declarations.{most_sorts, most_ctors, most_sels}
use Rattle.ct_sorts.specs.Grown.{Begins}
use Rattle.ct_sorts.specs.Heads.{AreHeads, NamesEach}
use Rattle.ct_sorts.specs.Lengths.{Lengths}
use Rattle.ct_sorts.specs.Lookup.{AreDistinct, names_of}
use Rattle.ct_sorts.specs.Made.{new_sorts, new_ctors, new_sels}
use Rattle.ct_sorts.specs.Same.{number_among, sort_among}
use Rattle.ct_sorts.specs.Shapes.{SortShape, shape_of, spelling_of, all_ctors, all_fields}
use Rattle.ct_sorts.specs.SortText.{sort_text}
use Rattle.ct_sorts.specs.Stored.{sort_of_entry, ctor_of, sel_of}
use Rattle.ct_sorts.specs.Tabled.{of_tables, IsEntryOf, HaveHomes, AreAtHome}

-- what is stored of sorts, generics and synonyms, and of the sorts in the list, stands for what is declared and for these
pub record IsStanding (t : Tables) : Type 0 where
  pub declared : AreDeclared t.generics (declared_of t.generics)
  pub stand : AreSorts t.table (sorts_of t.table)

-- the same is declared, and the same sorts are in the list
pub record IsSameHeads (old new : Tables) : Type 0 where
  pub generics_same : new.generics ≡ old.generics
  pub spellings_same : new.spellings ≡ old.spellings
  pub determined_same : new.determined ≡ old.determined
  pub symbols_same : new.symbols ≡ old.symbols
  pub table_same : new.table.sorts ≡ old.table.sorts
  pub stay : Stay old.table.expressions new.table.expressions
  pub origins_same : sorts_of new.table ≡ sorts_of old.table

-- what these sorts are made of
abbrev pub shapes_in : Tables → List Expression → List SortShape
shapes_in t es = map (shape_of (declared_of t.generics).heads t.spellings) es

-- the entries of these sorts, which are in the list, came after those that were there
pub record IsGrownBy (old new : Tables) (es : List Expression) : Type 0 where
  pub same : IsSameHeads old new
  pub sorts : map sort_of_entry new.sorts ≡ map sort_of_entry old.sorts ++ new_sorts (length old.ctors) (shapes_in old es)
  pub ctors : map (ctor_of old.spellings) new.ctors ≡ map (ctor_of old.spellings) old.ctors ++ new_ctors (length old.sorts) (length old.sels) (shapes_in old es)
  pub sels : map (sel_of old.spellings) new.sels ≡ map (sel_of old.spellings) old.sels ++ new_sels (sort_among (sorts_of old.table)) (length old.ctors) (all_ctors (shapes_in old es))
  pub texts : names_of new.sorts ≡ names_of old.sorts ++ map (sort_text (declared_of old.generics).heads) es
  pub entries : (more : List SortEntry) × (map (λ (e : List ℕ × SortEntry). e.1) new.sorts ≡ map (λ (e : List ℕ × SortEntry). e.1) old.sorts ++ more) × AllZip (IsEntryOf (sorts_of old.table)) more es
  pub homes : HaveHomes (of_tables old [] []) old.ctors → HaveHomes (of_tables new [] []) new.ctors
  pub sel_homes : AreAtHome old.ctors old.sels → AreAtHome new.ctors new.sels

-- of what was stored the first is left, as much as the mark says
pub record IsCutTo (m : Lengths) (old new : Tables) : Type 0 where
  pub declared : declared_of new.generics ≡ first_of m.heads m.synonyms (declared_of old.generics)
  pub spellings : new.spellings ≡ take m.spellings old.spellings
  pub determined : new.determined ≡ take m.heads old.determined
  pub symbols : new.symbols ≡ take m.symbols old.symbols
  pub table : new.table.sorts ≡ take m.origins old.table.sorts
  pub expressions : new.table.expressions ≡ old.table.expressions
  pub sorts : new.sorts ≡ take m.sorts old.sorts
  pub ctors : new.ctors ≡ take m.ctors old.ctors
  pub sels : new.sels ≡ take m.sels old.sels

-- what was stored is there still, with more after it or the same
pub record HaveGrown (old new : Tables) : Type 0 where
  pub heads : Begins (declared_of old.generics).heads (declared_of new.generics).heads
  pub synonyms : Begins (declared_of old.generics).synonyms (declared_of new.generics).synonyms
  pub spellings : Begins old.spellings new.spellings
  pub determined : Begins old.determined new.determined
  pub symbols : Begins old.symbols new.symbols
  pub origins : Begins (sorts_of old.table) (sorts_of new.table)
  pub sorts : Begins old.sorts new.sorts
  pub ctors : Begins old.ctors new.ctors
  pub sels : Begins old.sels new.sels

-- the sorts in the list may get entries: they are instances of what is declared, after their arguments and with the sorts of
-- their fields, and no text stands twice
pub record AreReady (t : Tables) : Type 0 where
  pub standing : IsStanding t
  pub heads : AreHeads (of_tables t [] [])
  pub sorts : (s : ℕ) (e : Expression) → slice_get (sorts_of t.table) s ≡ Some e → IsExpression (declared_of t.generics).heads 0 e
  pub arguments : ComeAfterArguments (sorts_of t.table)
  pub fields : HaveFields (declared_of t.generics).heads (sorts_of t.table)
  pub texts : AreDistinct (map (sort_text (declared_of t.generics).heads) (sorts_of t.table))
  pub begun : names_of t.sorts ≡ take (length t.sorts) (map (sort_text (declared_of t.generics).heads) (sorts_of t.table))
  -- each constructor and each field of those that have no entry yet has a name
  pub named : (i : ℕ) (e : Expression) → slice_get (sorts_of t.table) (length t.sorts + i) ≡ Some e → AllZip NamesEach (spelling_of t.spellings e) (fields_of (declared_of t.generics).heads e)

-- so many constructors and selectors more are within the limits
pub record AreWithin (t : Tables) (es : List Expression) : Type 0 where
  pub sorts : length (sorts_of t.table) ≤ most_sorts
  pub ctors : length t.ctors + length (all_ctors (shapes_in t es)) ≤ most_ctors
  pub sels : length t.sels + length (all_fields (all_ctors (shapes_in t es))) ≤ most_sels

-- the numbers in the row, each at the number of its sort among those of the list, stand for these sorts
abbrev pub AreNumbered : List ExprId → List ExprId → List Expression → List Expression → Type 0
AreNumbered sorts row origins es = (length row ≡ length es) × ((j s : ℕ) (id : ExprId) (e : Expression) → slice_get row j ≡ Some id → slice_get es j ≡ Some e → slice_get sorts s ≡ Some id → number_among origins e ≡ Some s)
