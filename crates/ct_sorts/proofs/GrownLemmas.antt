-- Tables to which the entries of sorts were added keep the declarations with these sorts.
use Rattle.std.proofs.Common.{◌≡◌, List, ◌++◌, length, map, sym, ◌∙◌, ap, ap₂}
use Rattle.std.proofs.lemmas.List.{length-map}
use Rattle.ct_generics.specs.Denoted.{declared_of, sorts_of}
use Rattle.ct_generics.specs.Expression.{Expression}
use Rattle.ct_sorts.specs.declared.tables.Tables.{Tables}
use Rattle.ct_sorts.specs.Declarations.{Declarations, Function}
use Rattle.ct_sorts.specs.Growing.{IsGrownBy, shapes_in}
use Rattle.ct_sorts.specs.Made.{new_sorts, new_ctors, new_sels, with_sorts}
use Rattle.ct_sorts.specs.Same.{sort_among}
use Rattle.ct_sorts.specs.Shapes.{all_ctors}
use Rattle.ct_sorts.specs.Stored.{sort_of_entry, ctor_of, sel_of}
use Rattle.ct_sorts.specs.Tabled.{of_tables}

module _ (old new : Tables) (before es : List Expression) (origins : sorts_of old.table ≡ before ++ es) (grown : IsGrownBy old new es) (table : sorts_of new.table ≡ sorts_of old.table) where
  -- what the tables kept, of the sorts those that had entries
  abbrev pub kept : List Function → List Function → Declarations
  kept fs ds = record (of_tables old fs ds) { origins = before }

  sorts_are : (fs ds : List Function) → (of_tables new fs ds).sorts ≡ (with_sorts (kept fs ds) es).sorts
  sorts_are fs ds = grown.sorts ∙ ap (λ n. map sort_of_entry old.sorts ++ new_sorts n (shapes_in old es)) (sym (length-map old.ctors (ctor_of old.spellings)))

  ctors_are : (fs ds : List Function) → (of_tables new fs ds).ctors ≡ (with_sorts (kept fs ds) es).ctors
  ctors_are fs ds =
      ap (λ s. map (ctor_of s) new.ctors) grown.same.spellings_same
      ∙ grown.ctors
      ∙ ap₂ (λ s k. map (ctor_of old.spellings) old.ctors ++ new_ctors s k (shapes_in old es)) (sym (length-map old.sorts sort_of_entry)) (sym (length-map old.sels (sel_of old.spellings)))

  sels_are : (fs ds : List Function) → (of_tables new fs ds).sels ≡ (with_sorts (kept fs ds) es).sels
  sels_are fs ds =
      ap (λ s. map (sel_of s) new.sels) grown.same.spellings_same
      ∙ grown.sels
      ∙ ap₂ (λ (o : List Expression) n. map (sel_of old.spellings) old.sels ++ new_sels (sort_among o) n (all_ctors (shapes_in old es))) origins (sym (length-map old.ctors (ctor_of old.spellings)))

  pub grown_is : (fs ds : List Function) → of_tables new fs ds ≡ with_sorts (kept fs ds) es
  grown_is fs ds i =
      record {
        sorts = sorts_are fs ds i;
        ctors = ctors_are fs ds i;
        sels = sels_are fs ds i;
        functions = fs;
        definitions = ds;
        declared = ap declared_of grown.same.generics_same i;
        spellings = grown.same.spellings_same i;
        origins = (table ∙ origins) i;
      }
