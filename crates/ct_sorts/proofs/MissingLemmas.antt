-- An instance that comes into the list with all that it needs: the tables get ready for its entries, and are consistent then.
use Rattle.std.proofs.Common.{◌≡◌, ℕ, ◌+◌, ◌≤◌, List, [], ◌∷◌, ◌++◌, length, map, take, slice_get, Some, refl, sym, ◌∙◌, ap, ap₂, subst, arith, length-append}
use Rattle.std.specs.List.{AllZip}
use Rattle.std.proofs.lemmas.List.{append-nil, length-map, map-append, take_at}
use Rattle.ct_lemmas.proofs.Lists.{slice_get-append_after, slice_get-map_source}
use Rattle.ct_generics.specs.declared.sort_table.SortTable.{SortTable}
use Rattle.ct_generics.specs.Declarations.{Head, IsExpression}
use Rattle.ct_generics.specs.Denoted.{declared_of, sorts_of}
use Rattle.ct_generics.specs.Expression.{Expression}
use Rattle.ct_generics.specs.Reach.{AreDifferent, fields_of}
use Rattle.ct_generics.specs.Add.{Adds, Fits}
use Rattle.ct_generics.specs.Additions.{ComeAfterArguments, HaveFields}
use Rattle.ct_generics.specs.SortTable.{AreCounted, AreSorts}
use Rattle.ct_generics.specs.WellFormed.{AreExpressions}
use Rattle.ct_sorts.specs.declared.entries.SortEntry.{SortEntry}
use Rattle.ct_sorts.specs.declared.ids.Symbol.{Symbol}
use Rattle.ct_sorts.specs.declared.tables.Tables.{Tables}
use Rattle.ct_sorts.specs.Consistent.{IsConsistent}
use Rattle.ct_sorts.specs.Declarations.{Function, most_sorts, most_ctors, most_sels}
use Rattle.ct_sorts.specs.Facts.{Facts}
use Rattle.ct_sorts.specs.Grown.{Extends}
use Rattle.ct_sorts.specs.Growing.{AreReady, AreWithin, IsGrownBy, IsStanding, shapes_in}
use Rattle.ct_sorts.specs.Heads.{NamesEach}
use Rattle.ct_sorts.specs.Limits.{room_in}
use Rattle.ct_sorts.specs.Lookup.{AreDistinct, names_of}
use Rattle.ct_sorts.specs.Made.{new_ctors, new_sels, with_sorts}
use Rattle.ct_sorts.specs.Same.{sort_among}
use Rattle.ct_sorts.specs.Shapes.{all_ctors, all_fields, spelling_of}
use Rattle.ct_sorts.specs.SortText.{sort_text}
use Rattle.ct_sorts.specs.Stored.{ctor_of, sel_of}
use Rattle.ct_sorts.specs.Symbols.{all_symbols}
use Rattle.ct_sorts.specs.Tabled.{of_tables, IsTabled}
use Rattle.ct_sorts.proofs.AddedLemmas.{added_instance}
use Rattle.ct_sorts.proofs.AfterLemmas.{AreBegun, entries_longer, homes_longer, tabled_after}
use Rattle.ct_sorts.proofs.AllSymbolsLemmas.{symbols_longer}
use Rattle.ct_sorts.proofs.BaseLemmas.{base_of}
use Rattle.ct_sorts.proofs.ConsistentLemmas.{AreHeads-same}
use Rattle.ct_sorts.proofs.GrownLemmas.{grown_is}
use Rattle.ct_sorts.proofs.MadeLemmas.{length-new_ctors, length-new_sels}
use Rattle.ct_sorts.proofs.SortsLemmas.{AreAdded, IsConsistent-with_sorts, few, names_at}
use Rattle.ct_sorts.proofs.TextLemmas.{same_sort}

-- the tables with another list of sorts
abbrev pub with_table : Tables → SortTable → Tables
with_table t table = record t { table = table }

-- texts of sorts that differ do so too
pub texts_distinct : (facts : Facts) (heads : List Head) (sorts : List Expression) → ((e f : Expression) → IsExpression heads 0 e → IsExpression heads 0 f → sort_text heads e ≡ sort_text heads f → e ≡ f) → AreDifferent sorts → AreExpressions heads 0 sorts → AreDistinct (map (sort_text heads) sorts)
texts_distinct facts heads sorts one different closed i j name at also =
    let e = slice_get-map_source (sort_text heads) sorts i name at in
    let f = slice_get-map_source (sort_text heads) sorts j name also in
    let same = one e.0 f.0 (closed i e.0 e.1) (closed j f.0 f.1) (e.2 ∙ sym f.2) in
    different i j f.0 (e.1 ∙ ap Some same) f.1

module _ (facts : Facts) (t : Tables) (table : SortTable) (fs ds : List Function) (c : IsConsistent (of_tables t fs ds)) (tab : IsTabled t) (es added : List Expression) (stand : AreSorts table (sorts_of table)) (origins : sorts_of table ≡ sorts_of t.table ++ added) (closed : AreExpressions (declared_of t.generics).heads 0 es) (adds : Adds (declared_of t.generics).heads es (sorts_of t.table) (sorts_of t.table ++ added)) (fits : Fits (declared_of t.generics).heads (room_in (of_tables t fs ds)) added) where
  is_added : AreAdded (of_tables t fs ds) added
  is_added =
      added_instance (of_tables t fs ds) es added c (facts.keeps (declared_of t.generics).heads)
      (λ formed adds_now closed_es closed_before. facts.added (declared_of t.generics).heads es (sorts_of t.table) (sorts_of t.table ++ added) formed adds_now closed_es closed_before) closed adds fits

  all_closed : AreExpressions (declared_of t.generics).heads 0 (sorts_of t.table ++ added)
  all_closed = facts.added (declared_of t.generics).heads es (sorts_of t.table) (sorts_of t.table ++ added) c.heads.formed.heads adds closed c.origins.sorts

  long : length t.sorts ≡ length (sorts_of t.table)
  long = sym (length-map t.sorts (λ (x : List ℕ × SortEntry). x.0)) ∙ ap length tab.texts ∙ length-map (sorts_of t.table) (sort_text (declared_of t.generics).heads)

  begun : names_of t.sorts ≡ take (length t.sorts) (map (sort_text (declared_of t.generics).heads) (sorts_of table))
  begun =
      let text = sort_text (declared_of t.generics).heads in
      tab.texts ∙ sym (ap (take (length t.sorts)) (ap (map text) origins ∙ map-append text (sorts_of t.table) added) ∙ take_at (map text (sorts_of t.table)) (map text added) (length t.sorts) (length-map (sorts_of t.table) text ∙ sym long))

  named : (i : ℕ) (e : Expression) → slice_get (sorts_of table) (length t.sorts + i) ≡ Some e → AllZip NamesEach (spelling_of t.spellings e) (fields_of (declared_of t.generics).heads e)
  named i e at =
      names_at (of_tables t fs ds) added (base_of (of_tables t fs ds) c) is_added i e
      (sym (slice_get-append_after (sorts_of t.table) added i) ∙ ap (λ (k : ℕ). slice_get (sorts_of t.table ++ added) (k + i)) (sym long) ∙ ap (λ (xs : List Expression). slice_get xs (length t.sorts + i)) (sym origins) ∙ at)

  pub ready : AreReady (with_table t table)
  ready = record {
    standing = record { declared = tab.declared; stand = stand };
    heads = AreHeads-same (of_tables t fs ds) (of_tables (with_table t table) [] []) refl refl c.heads;
    sorts = subst (AreExpressions (declared_of t.generics).heads 0) (sym origins) all_closed;
    arguments = subst ComeAfterArguments (sym origins) is_added.arguments;
    fields = subst (HaveFields (declared_of t.generics).heads) (sym origins) is_added.fields;
    texts = subst (λ (xs : List Expression). AreDistinct (map (sort_text (declared_of t.generics).heads) xs)) (sym origins)
        (texts_distinct facts (declared_of t.generics).heads (sorts_of t.table ++ added) (same_sort facts.same_text facts.one_name (of_tables t fs ds) (base_of (of_tables t fs ds) c)) is_added.different all_closed);
    begun = begun;
    named = named;
  }

  pub within : AreWithin (with_table t table) added
  within =
      let all = few (of_tables t fs ds) added (base_of (of_tables t fs ds) c) is_added in
      let d = of_tables t fs ds in
      record {
        sorts = omega (arith, ap length origins, length-append (sorts_of t.table) added, c.origins.one_each, is_added.sorts_fit, c.few.sorts);
        ctors = omega (
          arith,
          all.ctors,
          length-append d.ctors (new_ctors (length d.sorts) (length d.sels) (shapes_in t added)),
          length-new_ctors (length d.sorts) (length d.sels) (shapes_in t added),
          length-map t.ctors (ctor_of t.spellings),
        );
        sels = omega (
          arith,
          all.sels,
          length-append d.sels (new_sels (sort_among (d.origins ++ added)) (length d.ctors) (all_ctors (shapes_in t added))),
          length-new_sels (sort_among (d.origins ++ added)) (length d.ctors) (all_ctors (shapes_in t added)),
          length-map t.sels (sel_of t.spellings),
        );
      }

  module _ (new : Tables) (grown : IsGrownBy (with_table t table) new added) where
    -- the declarations are those with these sorts
    pub missing_is : (gs hs : List Function) → of_tables new gs hs ≡ with_sorts (of_tables t gs hs) added
    missing_is gs hs = grown_is (with_table t table) new (sorts_of t.table) added origins grown grown.same.origins_same gs hs

    pub missing_consistent : IsConsistent (of_tables new fs ds)
    missing_consistent =
        subst IsConsistent (sym (missing_is fs ds))
        (IsConsistent-with_sorts (of_tables t fs ds) added (base_of (of_tables t fs ds) c) is_added (λ own e is_closed. facts.founded (declared_of t.generics).heads c.heads.formed.heads own e is_closed))

    abbrev extends_added : Extends (with_sorts (of_tables t fs ds) added) (of_tables t fs ds)
    extends_added = record {
      sorts = (_, refl);
      ctors = (_, refl);
      sels = (_, refl);
      functions = ([], sym (append-nil fs));
      definitions = ([], sym (append-nil ds));
      heads = ([], sym (append-nil (declared_of t.generics).heads));
      synonyms = ([], sym (append-nil (declared_of t.generics).synonyms));
      spellings = ([], sym (append-nil t.spellings));
      origins = (added, refl);
    }

    resolved : t.symbols ≡ all_symbols (of_tables new [] [])
    resolved =
        let longer = symbols_longer (with_sorts (of_tables t fs ds) added) (of_tables t fs ds) extends_added c in
        tab.resolved ∙ sym (append-nil (all_symbols (of_tables t fs ds))) ∙ sym longer ∙ sym (ap all_symbols (missing_is fs ds))

    pub missing_tabled : IsStanding new → AreCounted new.generics new.table → IsTabled new
    missing_tabled standing counted =
        tabled_after (with_table t table) new (sorts_of t.table) added
        (record {
          origins = origins;
          texts = tab.texts;
          entries = entries_longer (sorts_of t.table) added (map (λ (x : List ℕ × SortEntry). x.1) t.sorts) (sorts_of t.table) tab.entries;
          symbols = tab.symbols;
          determined = tab.determined;
          homes = homes_longer (of_tables t [] []) (of_tables (with_table t table) [] []) added t.ctors refl origins tab.homes;
          sel_homes = tab.sel_homes;
        }) grown standing counted resolved
