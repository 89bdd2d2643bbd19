-- Tables with more sorts and generics, and more sorts in the list, get ready for the entries of these sorts, and are consistent
-- then.
use Rattle.std.proofs.Common.{◌≡◌, ℕ, zero, suc, ◌+◌, ◌<◌, ◌≤◌, ◌⊎◌, ⊎_elim, Bool, List, [], ◌∷◌, ◌++◌, length, map, take, slice_get, Option, Some, option_map, unwrap_or, refl, sym, ◌∙◌, ap, ap₂, subst, subst₂, arith, length-append}
use Rattle.std.specs.List.{AllZip}
use Rattle.std.proofs.lemmas.List.Concat.{flat_map-append}
use Rattle.std.specs.Option.{option_and_then}
use Rattle.std.proofs.lemmas.List.{append_assoc, append-nil, length-map, map-append, take_at}
use Rattle.std.proofs.lemmas.Option.{none-some, same_Some, slice_get_within}
use Rattle.ct_lemmas.proofs.Lists.{slice_get-append_after, slice_get-append_cases, slice_get-append_left, slice_get-there}
use Rattle.ct_generics.specs.declared.decl.SortDecl.{SortDecl}
use Rattle.ct_generics.specs.declared.kind.Kind.{Kind as HeadKind}
use Rattle.ct_generics.specs.declared.room.Room.{Room}
use Rattle.ct_generics.specs.declared.sort_table.SortTable.{SortTable}
use Rattle.ct_generics.specs.Add.{Adds, Fits}
use Rattle.ct_generics.specs.Additions.{ComeAfterArguments, HaveFields}
use Rattle.ct_generics.specs.Block.{with_heads}
use Rattle.ct_generics.specs.Declarations.{Declared, Head, IsExpression, head_at}
use Rattle.ct_generics.specs.Denoted.{declared_of, sorts_of}
use Rattle.ct_generics.specs.Expression.{Expression, applied, at_own_parameters, head_of, named, parameters, substitute, with_args}
use Rattle.ct_generics.specs.Reach.{AreDifferent, fields_of}
use Rattle.ct_generics.specs.SortTable.{AreCounted, AreSorts}
use Rattle.ct_generics.specs.WellFormed.{AreBlockParametersBelow, AreExpressions, IsWellFormed}
use Rattle.ct_sorts.specs.declared.entries.CtorEntry.{CtorEntry}
use Rattle.ct_sorts.specs.declared.entries.SelEntry.{SelEntry}
use Rattle.ct_sorts.specs.declared.entries.SortEntry.{SortEntry}
use Rattle.ct_sorts.specs.declared.ids.Kind.{Kind}
use Rattle.ct_sorts.specs.declared.ids.Kind.TheVariants.{Data, Codata}
use Rattle.ct_sorts.specs.declared.ids.Symbol.{Symbol}
use Rattle.ct_sorts.specs.declared.spelling.Home.{Home}
use Rattle.ct_sorts.specs.declared.spelling.Spelling.{Spelling}
use Rattle.ct_sorts.specs.declared.tables.Tables.{Tables}
use Rattle.ct_sorts.specs.Block.{block_ctors, block_spellings, own_fields, own_sorts, params_of, spelling, with_own}
use Rattle.ct_sorts.specs.Consistent.{IsConsistent}
use Rattle.ct_sorts.specs.Declarations.{Declarations, Function, head_symbols, spelled}
use Rattle.ct_sorts.specs.Determined.{AreMarked}
use Rattle.ct_sorts.specs.Facts.{Facts}
use Rattle.ct_sorts.specs.Grown.{Extends}
use Rattle.ct_sorts.specs.Growing.{AreReady, AreWithin, IsGrownBy, IsStanding, shapes_in}
use Rattle.ct_sorts.specs.Heads.{NamesEach}
use Rattle.ct_sorts.specs.Kinds.{head_kind}
use Rattle.ct_sorts.specs.Limits.{room_in}
use Rattle.ct_sorts.specs.Lookup.{AreDistinct, names_of}
use Rattle.ct_sorts.specs.Made.{new_sorts, new_ctors, new_sels, shapes_of, with_sorts}
use Rattle.ct_sorts.specs.Room.{IsLeft, decl_fields}
use Rattle.ct_sorts.specs.Same.{sort_among}
use Rattle.ct_sorts.specs.Shapes.{SortShape, all_ctors, all_fields, ctor_shapes, shape_of, spelling_of}
use Rattle.ct_sorts.specs.SortText.{sort_text}
use Rattle.ct_sorts.specs.Stored.{ctor_of, sel_of, sort_of_entry, spelling_at}
use Rattle.ct_sorts.specs.Symbols.{all_symbols, block_symbols, symbols_from}
use Rattle.ct_sorts.specs.Tabled.{of_tables, IsEntryOf, HaveHomes, AreAtHome, IsTabled}
use Rattle.ct_sorts.proofs.AfterLemmas.{entries_longer, homes_longer, tabled_after}
use Rattle.ct_sorts.proofs.AllSymbolsLemmas.{symbols_longer}
use Rattle.ct_sorts.proofs.BaseLemmas.{IsBase}
use Rattle.ct_sorts.proofs.BlockLemmas.{IsAccepted, base_with_own, zipped}
use Rattle.ct_sorts.proofs.BlockSymbolsLemmas.{from_block, Stand, IsNamedBy, names-block}
use Rattle.ct_sorts.proofs.ConsistentLemmas.{AreHeads-same}
use Rattle.ct_sorts.proofs.CutLemmas.{map_same}
use Rattle.ct_sorts.proofs.GrownLemmas.{grown_is}
use Rattle.ct_sorts.proofs.HeadLemmas.{head_of_closed}
use Rattle.ct_sorts.proofs.MadeLemmas.{length-new_sorts, length-new_ctors, length-new_sels}
use Rattle.ct_sorts.proofs.MissingLemmas.{texts_distinct}
use Rattle.ct_sorts.proofs.MoreHeadsLemmas.{text_same}
use Rattle.ct_sorts.proofs.OwnLemmas.{IsHeadOf, own_long, params_of_own}
use Rattle.ct_sorts.proofs.OwnSortsLemmas.{added_block, fields_rows, in_all}
use Rattle.ct_sorts.proofs.ShapeLemmas.{names_each-map}
use Rattle.ct_sorts.proofs.SortsLemmas.{AreAdded, IsConsistent-with_sorts, few, names_at}
use Rattle.ct_sorts.proofs.TextLemmas.{same_sort}

-- ---- names stay where more is declared

module _ (t : Tables) (fs ds : List Function) (c : IsConsistent (of_tables t fs ds)) (tab : IsTabled t) (extra : List (List Spelling)) where
  home_below : (k : ℕ) (entry : CtorEntry) → slice_get t.ctors k ≡ Some entry → entry.home.head < length t.spellings
  home_below k entry at =
      let own = tab.homes k entry at in
      let head = head_of_closed (declared_of t.generics).heads own.origin 0 (c.origins.sorts own.s own.origin own.origin_at) in
      let number : head.0 ≡ entry.home.head = same_Some _ _ (sym head.2 ∙ own.head_is) in
      subst₂ (λ (x y : ℕ). x < y) number (sym c.heads.one_each) (slice_get_within (declared_of t.generics).heads head.0 head.1 head.3)

  spelling_more : (home : Home) → home.head < length t.spellings → spelling_at (t.spellings ++ extra) home ≡ spelling_at t.spellings home
  spelling_more home below =
      let row = slice_get-there t.spellings home.head below in
      ap (option_and_then (λ (ctors : List Spelling). slice_get ctors home.ctor)) (slice_get-append_left t.spellings extra home.head row.0 row.1 ∙ sym row.1)

  pub ctors_more : map (ctor_of (t.spellings ++ extra)) t.ctors ≡ map (ctor_of t.spellings) t.ctors
  ctors_more = map_same (ctor_of (t.spellings ++ extra)) (ctor_of t.spellings) t.ctors (λ k entry at.
      let names = spelling_more entry.home (home_below k entry at) in
      λ i. record { name = unwrap_or (option_map (λ (s : Spelling). s.name) (names i)) []; sort = entry.sort; sels = entry.sels })

  pub sels_more : map (sel_of (t.spellings ++ extra)) t.sels ≡ map (sel_of t.spellings) t.sels
  sels_more = map_same (sel_of (t.spellings ++ extra)) (sel_of t.spellings) t.sels (λ k entry at.
      let ctor = tab.sel_homes k entry at in
      let names = spelling_more entry.home (subst (λ (x : Home). x.head < length t.spellings) (sym ctor.2) (home_below entry.ctor.0 ctor.0 ctor.1)) in
      λ i. record { name = unwrap_or (option_and_then (λ (s : Spelling). slice_get s.fields entry.place) (names i)) []; ctor = entry.ctor; place = entry.place; sort = entry.sort })

-- ---- the tables

-- the tables with these sorts and generics, with the names of their constructors and fields and what these stand for, and with
-- these sorts in the list, before these have entries
pub record AreWithHeads (t mid : Tables) (own : List Head) (names : List (List Spelling)) (entries : List (List ℕ × Symbol)) (xs : List Expression) : Type 0 where
  pub standing : IsStanding mid
  pub declared : declared_of mid.generics ≡ with_heads (declared_of t.generics) own
  pub spellings : mid.spellings ≡ t.spellings ++ names
  pub determined : AreMarked (declared_of mid.generics).heads mid.determined
  pub symbols : mid.symbols ≡ t.symbols ++ entries
  pub origins_are : sorts_of mid.table ≡ sorts_of t.table ++ xs
  pub sorts_same : mid.sorts ≡ t.sorts
  pub ctors_same : mid.ctors ≡ t.ctors
  pub sels_same : mid.sels ≡ t.sels

module _ (facts : Facts) (t mid : Tables) (fs ds : List Function) (own : List Head) (names : List (List Spelling)) (entries : List (List ℕ × Symbol)) (xs : List Expression) (c : IsConsistent (of_tables t fs ds)) (tab : IsTabled t)
    (base : IsBase (with_own (of_tables t fs ds) own names)) (is_added : AreAdded (with_own (of_tables t fs ds) own names) xs) (m : AreWithHeads t mid own names entries xs) where
  more : (params : ℕ) (e : Expression) → IsExpression (declared_of t.generics).heads params e → IsExpression ((declared_of t.generics).heads ++ own) params e
  more params e closed = facts.more (declared_of t.generics).heads own params e closed

  heads_are : (declared_of mid.generics).heads ≡ (declared_of t.generics).heads ++ own
  heads_are = ap (λ (x : Declared). x.heads) m.declared

  closed_all : AreExpressions ((declared_of t.generics).heads ++ own) 0 (sorts_of t.table ++ xs)
  closed_all i e at =
      ⊎_elim (λ old. more 0 e (c.origins.sorts i e old)) (λ new. is_added.sorts new.0 e new.2) (slice_get-append_cases (sorts_of t.table) xs i e at)

  long : length mid.sorts ≡ length (sorts_of t.table)
  long = ap length m.sorts_same ∙ sym (length-map t.sorts (λ (x : List ℕ × SortEntry). x.0)) ∙ ap length tab.texts ∙ length-map (sorts_of t.table) (sort_text (declared_of t.generics).heads)

  -- the texts are those that they were
  texts_stay : map (sort_text (declared_of t.generics).heads) (sorts_of t.table) ≡ map (sort_text ((declared_of t.generics).heads ++ own)) (sorts_of t.table)
  texts_stay = map_same (sort_text (declared_of t.generics).heads) (sort_text ((declared_of t.generics).heads ++ own)) (sorts_of t.table) (λ s e at. sym (text_same (declared_of t.generics).heads own e 0 0 (c.origins.sorts s e at)))

  texts_before : names_of mid.sorts ≡ map (sort_text (declared_of mid.generics).heads) (sorts_of t.table)
  texts_before = ap names_of m.sorts_same ∙ tab.texts ∙ texts_stay ∙ ap (λ (hs : List Head). map (sort_text hs) (sorts_of t.table)) (sym heads_are)

  begun : names_of mid.sorts ≡ take (length mid.sorts) (map (sort_text (declared_of mid.generics).heads) (sorts_of mid.table))
  begun =
      let text = sort_text (declared_of mid.generics).heads in
      texts_before ∙ sym (ap (take (length mid.sorts)) (ap (map text) m.origins_are ∙ map-append text (sorts_of t.table) xs) ∙ take_at (map text (sorts_of t.table)) (map text xs) (length mid.sorts) (length-map (sorts_of t.table) text ∙ sym long))

  named_all : (i : ℕ) (e : Expression) → slice_get (sorts_of mid.table) (length mid.sorts + i) ≡ Some e → AllZip NamesEach (spelling_of mid.spellings e) (fields_of (declared_of mid.generics).heads e)
  named_all i e at =
      subst₂ (λ (s : List (List Spelling)) (hs : List Head). AllZip NamesEach (spelling_of s e) (fields_of hs e)) (sym m.spellings) (sym heads_are)
      (names_at (with_own (of_tables t fs ds) own names) xs base is_added i e
      (sym (slice_get-append_after (sorts_of t.table) xs i) ∙ ap (λ (k : ℕ). slice_get (sorts_of t.table ++ xs) (k + i)) (sym long) ∙ ap (λ (ys : List Expression). slice_get ys (length mid.sorts + i)) (sym m.origins_are) ∙ at))

  pub heads_ready : AreReady mid
  heads_ready = record {
    standing = m.standing;
    heads = AreHeads-same (with_own (of_tables t fs ds) own names) (of_tables mid [] []) m.declared m.spellings base.heads;
    sorts = subst₂ (λ (hs : List Head) (ys : List Expression). AreExpressions hs 0 ys) (sym heads_are) (sym m.origins_are) closed_all;
    arguments = subst ComeAfterArguments (sym m.origins_are) is_added.arguments;
    fields = subst₂ HaveFields (sym heads_are) (sym m.origins_are) is_added.fields;
    texts = subst₂ (λ (hs : List Head) (ys : List Expression). AreDistinct (map (sort_text hs) ys)) (sym heads_are) (sym m.origins_are)
        (texts_distinct facts ((declared_of t.generics).heads ++ own) (sorts_of t.table ++ xs) (same_sort facts.same_text facts.one_name (with_own (of_tables t fs ds) own names) base) is_added.different closed_all);
    begun = begun;
    named = named_all;
  }

  shapes_mid : shapes_in mid xs ≡ shapes_of (with_own (of_tables t fs ds) own names) xs
  shapes_mid = ap₂ (λ (hs : List Head) (s : List (List Spelling)). map (shape_of hs s) xs) heads_are m.spellings

  pub heads_within : AreWithin mid xs
  heads_within =
      let d = with_own (of_tables t fs ds) own names in
      let count = few d xs base is_added in
      record {
        sorts = omega (
          arith,
          count.sorts,
          ap length m.origins_are,
          length-append (sorts_of t.table) xs,
          c.origins.one_each,
          length-append d.sorts (new_sorts (length d.ctors) (shapes_of d xs)),
          length-new_sorts (length d.ctors) (shapes_of d xs),
          length-map xs (shape_of d.declared.heads d.spellings),
        );
        ctors = omega (
          arith,
          count.ctors,
          ap length m.ctors_same,
          ap (λ (ss : List SortShape). length (all_ctors ss)) shapes_mid,
          length-append d.ctors (new_ctors (length d.sorts) (length d.sels) (shapes_of d xs)),
          length-new_ctors (length d.sorts) (length d.sels) (shapes_of d xs),
          length-map t.ctors (ctor_of t.spellings),
        );
        sels = omega (
          arith,
          count.sels,
          ap length m.sels_same,
          ap (λ (ss : List SortShape). length (all_fields (all_ctors ss))) shapes_mid,
          length-append d.sels (new_sels (sort_among (d.origins ++ xs)) (length d.ctors) (all_ctors (shapes_of d xs))),
          length-new_sels (sort_among (d.origins ++ xs)) (length d.ctors) (all_ctors (shapes_of d xs)),
          length-map t.sels (sel_of t.spellings),
        );
      }

  -- what the tables keep, of the sorts those that have entries, is the declarations with these sorts and generics
  kept_is : (gs hs : List Function) → record (of_tables mid gs hs) { origins = sorts_of t.table } ≡ with_own (of_tables t gs hs) own names
  kept_is gs hs i = record {
    sorts = ap (map sort_of_entry) m.sorts_same i;
    ctors = (ap₂ (λ s x. map (ctor_of s) x) m.spellings m.ctors_same ∙ ctors_more t fs ds c tab names) i;
    sels = (ap₂ (λ s x. map (sel_of s) x) m.spellings m.sels_same ∙ sels_more t fs ds c tab names) i;
    functions = gs;
    definitions = hs;
    declared = m.declared i;
    spellings = m.spellings i;
    origins = sorts_of t.table;
  }

  module _ (new : Tables) (grown : IsGrownBy mid new xs) where
    pub heads_is : (gs hs : List Function) → of_tables new gs hs ≡ with_sorts (with_own (of_tables t gs hs) own names) xs
    heads_is gs hs =
        grown_is mid new (sorts_of t.table) xs m.origins_are grown grown.same.origins_same gs hs
        ∙ ap (λ (x : Declarations). with_sorts x xs) (kept_is gs hs)

    pub heads_consistent : IsConsistent (of_tables new fs ds)
    heads_consistent =
        subst IsConsistent (sym (heads_is fs ds))
        (IsConsistent-with_sorts (with_own (of_tables t fs ds) own names) xs base is_added (λ founded e closed. facts.founded ((declared_of t.generics).heads ++ own) base.heads.formed.heads founded e closed))

    -- what the new names stand for
    module _ (resolves : all_symbols (with_sorts (with_own (of_tables t fs ds) own names) xs) ≡ all_symbols (of_tables t fs ds) ++ entries) (named : names_of entries ≡ head_symbols names) where
      resolved_all : mid.symbols ≡ all_symbols (of_tables new [] [])
      resolved_all = m.symbols ∙ ap (λ (ys : List (List ℕ × Symbol)). ys ++ entries) tab.resolved ∙ sym resolves ∙ sym (ap all_symbols (heads_is fs ds))

      names_mid : names_of mid.symbols ≡ head_symbols mid.spellings
      names_mid =
          ap names_of m.symbols
          ∙ map-append (λ (x : List ℕ × Symbol). x.0) t.symbols entries
          ∙ ap₂ (λ a b. a ++ b) tab.symbols named
          ∙ sym (flat_map-append spelled t.spellings names)
          ∙ ap head_symbols (sym m.spellings)

      pub heads_tabled : IsStanding new → AreCounted new.generics new.table → IsTabled new
      heads_tabled standing counted =
          tabled_after mid new (sorts_of t.table) xs
          (record {
            origins = m.origins_are;
            texts = texts_before;
            entries = subst (λ (ys : List (List ℕ × SortEntry)). AllZip (IsEntryOf (sorts_of t.table ++ xs)) (map (λ (y : List ℕ × SortEntry). y.1) ys) (sorts_of t.table)) (sym m.sorts_same)
                (entries_longer (sorts_of t.table) xs (map (λ (y : List ℕ × SortEntry). y.1) t.sorts) (sorts_of t.table) tab.entries);
            symbols = names_mid;
            determined = m.determined;
            homes = subst (HaveHomes (of_tables mid [] [])) (sym m.ctors_same) (homes_longer (of_tables t [] []) (of_tables mid [] []) xs t.ctors (ap (map sort_of_entry) m.sorts_same) m.origins_are tab.homes);
            sel_homes = subst₂ AreAtHome (sym m.ctors_same) (sym m.sels_same) tab.sel_homes;
          }) grown standing counted resolved_all
