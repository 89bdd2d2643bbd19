-- Tables with the entries of the sorts that were added fit together.
use Rattle.std.proofs.Common.{◌≡◌, ℕ, ◌+◌, Bool, List, [], ◌∷◌, ◌++◌, length, map, slice_get, Some, refl, sym, ◌∙◌, ap, ap₂, subst, subst₂}
use Rattle.std.specs.List.{AllZip}
use Rattle.std.proofs.lemmas.List.{append-nil, map-append}
use Rattle.ct_lemmas.proofs.Lists.{slice_get-append_left}
use Rattle.ct_generics.specs.Declarations.{Declared, Head}
use Rattle.ct_generics.specs.Denoted.{declared_of, sorts_of}
use Rattle.ct_generics.specs.Expression.{Expression, args_of}
use Rattle.ct_generics.specs.SortTable.{AreCounted}
use Rattle.ct_sorts.specs.declared.entries.CtorEntry.{CtorEntry}
use Rattle.ct_sorts.specs.declared.entries.SelEntry.{SelEntry}
use Rattle.ct_sorts.specs.declared.entries.SortEntry.{SortEntry}
use Rattle.ct_sorts.specs.declared.ids.CtorId.{CtorId}
use Rattle.ct_sorts.specs.declared.ids.Symbol.{Symbol}
use Rattle.ct_sorts.specs.declared.spelling.Spelling.{Spelling}
use Rattle.ct_sorts.specs.declared.tables.Tables.{Tables}
use Rattle.ct_sorts.specs.Declarations.{Declarations, Function, head_symbols}
use Rattle.ct_sorts.specs.Determined.{AreMarked, IsCtorAt}
use Rattle.ct_sorts.specs.Growing.{IsGrownBy, IsStanding}
use Rattle.ct_sorts.specs.Lookup.{names_of}
use Rattle.ct_sorts.specs.SortText.{sort_text}
use Rattle.ct_sorts.specs.Symbols.{all_symbols}
use Rattle.ct_sorts.specs.Tabled.{of_tables, IsEntryOf, IsNumberOf, HaveHomes, AreAtHome, IsTabled}
use Rattle.ct_sorts.proofs.CutLemmas.{AllZip-at}
use Rattle.ct_sorts.proofs.GrowLemmas.{AllZip-append}

-- entries stay where more sorts are in the list
pub entries_longer : (before es : List Expression) (entries : List SortEntry) (sorts : List Expression) → AllZip (IsEntryOf before) entries sorts → AllZip (IsEntryOf (before ++ es)) entries sorts
entries_longer before es entries sorts all =
    AllZip-at (IsEntryOf before) (IsEntryOf (before ++ es)) entries sorts all (λ i entry e at_i at_e is. record {
      head_is = is.head_is;
      args_are = AllZip-at (IsNumberOf before) (IsNumberOf (before ++ es)) entry.args (args_of e) is.args_are (λ k s a at_k at_a number. slice_get-append_left before es s.0 a number);
    })

-- so do homes
pub homes_longer : (d e : Declarations) (es : List Expression) (ctors : List CtorEntry) → e.sorts ≡ d.sorts → e.origins ≡ d.origins ++ es → HaveHomes d ctors → HaveHomes e ctors
homes_longer d e es ctors sorts origins have k entry at =
    let own = have k entry at in
    record {
      s = own.s;
      sort = own.sort;
      origin = own.origin;
      sort_at = ap (λ xs. slice_get xs own.s) sorts ∙ own.sort_at;
      origin_at = ap (λ (xs : List Expression). slice_get xs own.s) origins ∙ slice_get-append_left d.origins es own.s own.origin own.origin_at;
      head_is = own.head_is;
      at = own.at;
    }

-- what the tables keep before the entries come
pub record AreBegun (t : Tables) (before es : List Expression) : Type 0 where
  pub origins : sorts_of t.table ≡ before ++ es
  pub texts : names_of t.sorts ≡ map (sort_text (declared_of t.generics).heads) before
  pub entries : AllZip (IsEntryOf (before ++ es)) (map (λ (e : List ℕ × SortEntry). e.1) t.sorts) before
  pub symbols : names_of t.symbols ≡ head_symbols t.spellings
  pub determined : AreMarked (declared_of t.generics).heads t.determined
  pub homes : HaveHomes (of_tables t [] []) t.ctors
  pub sel_homes : AreAtHome t.ctors t.sels

-- and what they keep then
pub tabled_after : (mid new : Tables) (before es : List Expression) → AreBegun mid before es → IsGrownBy mid new es → IsStanding new → AreCounted new.generics new.table → mid.symbols ≡ all_symbols (of_tables new [] []) → IsTabled new
tabled_after mid new before es b grown standing counted resolved =
    let declared : declared_of new.generics ≡ declared_of mid.generics = ap declared_of grown.same.generics_same in
    let origins : sorts_of new.table ≡ before ++ es = grown.same.origins_same ∙ b.origins in
    let text = sort_text (declared_of mid.generics).heads in
    record {
      declared = standing.declared;
      stand = standing.stand;
      counted = counted;
      texts =
          grown.texts ∙ ap (λ xs. xs ++ map text es) b.texts ∙ sym (map-append text before es)
          ∙ ap₂ (λ (d : Declared) (xs : List Expression). map (sort_text d.heads) xs) (sym declared) (sym origins);
      entries = subst₂ (λ (xs : List SortEntry) (o : List Expression). AllZip (IsEntryOf o) xs o) (sym grown.entries.1) (sym origins)
          (AllZip-append (IsEntryOf (before ++ es)) (map (λ (e : List ℕ × SortEntry). e.1) mid.sorts) grown.entries.0 before es b.entries (subst (λ (o : List Expression). AllZip (IsEntryOf o) grown.entries.0 es) b.origins grown.entries.2));
      symbols = ap names_of grown.same.symbols_same ∙ b.symbols ∙ ap head_symbols (sym grown.same.spellings_same);
      resolved = grown.same.symbols_same ∙ resolved;
      determined = subst₂ (λ (d : Declared) (m : List (List Bool)). AreMarked d.heads m) (sym declared) (sym grown.same.determined_same) b.determined;
      homes = grown.homes b.homes;
      sel_homes = grown.sel_homes b.sel_homes;
    }
