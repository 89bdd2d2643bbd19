-- A block that is accepted: the tables with its sorts and generics get ready for the entries of its sorts and of those that come
-- with them, and are consistent then.
use Rattle.std.proofs.Common.{◌≡◌, ℕ, zero, suc, ◌+◌, ◌<◌, ◌≤◌, ◌⊎◌, ⊎_elim, Bool, List, [], ◌∷◌, ◌++◌, length, map, take, slice_get, Option, Some, option_map, unwrap_or, refl, sym, ◌∙◌, ap, ap₂, subst, subst₂, arith, length-append}
use Rattle.std.specs.List.{AllZip}
use Rattle.std.proofs.lemmas.List.Concat.{flat_map-append}
use Rattle.std.specs.Option.{option_and_then}
use Rattle.std.proofs.lemmas.List.{append_assoc, append-nil, length-map, map-append, take_at}
use Rattle.std.proofs.lemmas.Option.{none-some, same_Some, slice_get_within}
use Rattle.ct_lemmas.proofs.Lists.{slice_get-append_after, slice_get-append_cases, slice_get-append_left, slice_get-there}
use Rattle.ct_generics.specs.declared.decl.SortDecl.{SortDecl}
use Rattle.ct_generics.specs.declared.kind.Kind.{Kind as HeadKind}
use Rattle.ct_generics.specs.declared.room.Room.{Room}
use Rattle.ct_generics.specs.declared.sort_table.SortTable.{SortTable}
use Rattle.ct_generics.specs.Add.{Adds, Fits}
use Rattle.ct_generics.specs.Additions.{ComeAfterArguments, HaveFields}
use Rattle.ct_generics.specs.Block.{with_heads}
use Rattle.ct_generics.specs.Declarations.{Declared, Head, IsExpression, head_at}
use Rattle.ct_generics.specs.Denoted.{declared_of, sorts_of}
use Rattle.ct_generics.specs.Expression.{Expression, applied, at_own_parameters, head_of, named, parameters, substitute, with_args}
use Rattle.ct_generics.specs.Reach.{AreDifferent, fields_of}
use Rattle.ct_generics.specs.SortTable.{AreCounted, AreSorts}
use Rattle.ct_generics.specs.WellFormed.{AreBlockParametersBelow, AreExpressions, IsWellFormed}
use Rattle.ct_sorts.specs.declared.entries.CtorEntry.{CtorEntry}
use Rattle.ct_sorts.specs.declared.entries.SelEntry.{SelEntry}
use Rattle.ct_sorts.specs.declared.entries.SortEntry.{SortEntry}
use Rattle.ct_sorts.specs.declared.ids.Kind.{Kind}
use Rattle.ct_sorts.specs.declared.ids.Kind.TheVariants.{Data, Codata}
use Rattle.ct_sorts.specs.declared.ids.Symbol.{Symbol}
use Rattle.ct_sorts.specs.declared.spelling.Home.{Home}
use Rattle.ct_sorts.specs.declared.spelling.Spelling.{Spelling}
use Rattle.ct_sorts.specs.declared.tables.Tables.{Tables}
use Rattle.ct_sorts.specs.Block.{block_ctors, block_spellings, own_fields, own_sorts, params_of, spelling, with_own}
use Rattle.ct_sorts.specs.Consistent.{IsConsistent}
use Rattle.ct_sorts.specs.Declarations.{Declarations, Function, head_symbols, spelled}
use Rattle.ct_sorts.specs.Determined.{AreMarked}
use Rattle.ct_sorts.specs.Facts.{Facts}
use Rattle.ct_sorts.specs.Grown.{Extends}
use Rattle.ct_sorts.specs.Growing.{AreReady, AreWithin, IsGrownBy, IsStanding, shapes_in}
use Rattle.ct_sorts.specs.Heads.{NamesEach}
use Rattle.ct_sorts.specs.Kinds.{head_kind}
use Rattle.ct_sorts.specs.Limits.{room_in}
use Rattle.ct_sorts.specs.Lookup.{AreDistinct, names_of}
use Rattle.ct_sorts.specs.Made.{new_sorts, new_ctors, new_sels, shapes_of, with_sorts}
use Rattle.ct_sorts.specs.Room.{IsLeft, decl_fields}
use Rattle.ct_sorts.specs.Same.{sort_among}
use Rattle.ct_sorts.specs.Shapes.{SortShape, all_ctors, all_fields, ctor_shapes, shape_of, spelling_of}
use Rattle.ct_sorts.specs.SortText.{sort_text}
use Rattle.ct_sorts.specs.Stored.{ctor_of, sel_of, sort_of_entry, spelling_at}
use Rattle.ct_sorts.specs.Symbols.{all_symbols, block_symbols, symbols_from}
use Rattle.ct_sorts.specs.Tabled.{of_tables, IsEntryOf, HaveHomes, AreAtHome, IsTabled}
use Rattle.ct_sorts.proofs.AfterLemmas.{entries_longer, homes_longer, tabled_after}
use Rattle.ct_sorts.proofs.AllSymbolsLemmas.{symbols_longer}
use Rattle.ct_sorts.proofs.BaseLemmas.{IsBase}
use Rattle.ct_sorts.proofs.BlockLemmas.{IsAccepted, base_with_own, zipped}
use Rattle.ct_sorts.proofs.BlockSymbolsLemmas.{from_block, Stand, IsNamedBy, names-block}
use Rattle.ct_sorts.proofs.ConsistentLemmas.{AreHeads-same}
use Rattle.ct_sorts.proofs.CutLemmas.{map_same}
use Rattle.ct_sorts.proofs.GrownLemmas.{grown_is}
use Rattle.ct_sorts.proofs.HeadLemmas.{head_of_closed}
use Rattle.ct_sorts.proofs.MadeLemmas.{length-new_sorts, length-new_ctors, length-new_sels}
use Rattle.ct_sorts.proofs.MissingLemmas.{texts_distinct}
use Rattle.ct_sorts.proofs.MoreHeadsLemmas.{text_same}
use Rattle.ct_sorts.proofs.OwnLemmas.{IsHeadOf, own_long, params_of_own}
use Rattle.ct_sorts.proofs.OwnSortsLemmas.{added_block, fields_rows, in_all}
use Rattle.ct_sorts.proofs.ShapeLemmas.{names_each-map}
use Rattle.ct_sorts.proofs.SortsLemmas.{AreAdded, IsConsistent-with_sorts, few, names_at}
use Rattle.ct_sorts.proofs.TextLemmas.{same_sort}
use Rattle.ct_sorts.proofs.HeadTablesLemmas.{AreWithHeads, heads_consistent, heads_is, heads_ready, heads_tabled, heads_within}

-- ---- the names of the block

-- the declaration of one of its sorts and generics
decl_at : (k : HeadKind) (block : List SortDecl) (own : List Head) (j : ℕ) (head : Head) (ss : List Spelling) → AllZip (IsHeadOf k) block own → slice_get own j ≡ Some head → slice_get (block_spellings block) j ≡ Some ss → (decl : SortDecl) × IsHeadOf k decl head × (map spelling decl.ctors ≡ ss)
decl_at k [] [] j head ss all at names = absurd (none-some _ at)
decl_at k [] (h ∷ own) j head ss all at names = absurd all
decl_at k (s ∷ block) [] j head ss all at names = absurd all
decl_at k (s ∷ block) (h ∷ own) zero head ss all at names = (s, subst (IsHeadOf k s) (same_Some _ _ at) all.0, same_Some _ _ names)
decl_at k (s ∷ block) (h ∷ own) (suc j) head ss all at names = decl_at k block own j head ss all.1 at names

module _ (d : Declarations) (kind : Kind) (block : List SortDecl) (own : List Head) (c : IsConsistent d) (a : IsAccepted d kind block own) (added : List Expression) where
  -- the declarations with the block
  abbrev pub with_all : Declarations
  with_all = with_sorts (with_own d own (block_spellings block)) (own_sorts d own ++ added)

  abbrev extends_all : Extends with_all d
  extends_all = record {
    sorts = (_, refl);
    ctors = (_, refl);
    sels = (_, refl);
    functions = ([], sym (append-nil d.functions));
    definitions = ([], sym (append-nil d.definitions));
    heads = (own, refl);
    synonyms = ([], sym (append-nil d.declared.synonyms));
    spellings = (block_spellings block, refl);
    origins = (own_sorts d own ++ added, refl);
  }

  named_by : (different : AreDifferent with_all.origins) (j : ℕ) (head : Head) (ss : List Spelling) → slice_get own j ≡ Some head → slice_get (block_spellings block) j ≡ Some ss → head.params ≡ 0 → IsNamedBy with_all different added (length d.declared.heads + j) ss
  named_by different j head ss at names none =
      let decl = decl_at (head_kind kind) block own j head ss (zipped d kind block own c a) at names in
      let row : slice_get (d.spellings ++ block_spellings block) (length d.declared.heads + j) ≡ Some ss = ap (λ (n : ℕ). slice_get (d.spellings ++ block_spellings block) (n + j)) (sym c.heads.one_each) ∙ slice_get-append_after d.spellings (block_spellings block) j ∙ names in
      let rows = fields_rows kind a.kinds (d.declared.heads ++ own) (length d.declared.heads + j) head (in_all d kind block own c a j head at) decl.1.kind_is in (
        ap (λ (o : Option (List Spelling)). ctor_shapes (unwrap_or o []) (fields_of (d.declared.heads ++ own) (named (length d.declared.heads + j)))) row,
        subst₂ (AllZip NamesEach) decl.2 (sym rows) (names_each-map (substitute []) (map spelling decl.0.ctors) head.ctors decl.1.named_each),
      )

  stand : (different : AreDifferent with_all.origins) → Stand with_all different added (length d.sorts) (length d.ctors) (length d.sels) (own_sorts d own ++ added)
  stand different = record {
    origins = λ i within. ap (λ (n : ℕ). slice_get with_all.origins (n + i)) (sym c.origins.one_each) ∙ slice_get-append_after d.origins (own_sorts d own ++ added) i;
    sorts = λ i within. slice_get-append_after d.sorts (new_sorts (length d.ctors) (shapes_of with_all (own_sorts d own ++ added))) i;
    ctors = λ i within. slice_get-append_after d.ctors (new_ctors (length d.sorts) (length d.sels) (shapes_of with_all (own_sorts d own ++ added))) i;
  }

  pub symbols_all : AreDifferent with_all.origins → all_symbols with_all ≡ all_symbols d ++ block_symbols (length d.declared.heads) (length d.ctors) (length d.sels) (params_of block) (block_spellings block)
  symbols_all different =
      let zip = zipped d kind block own c a in
      let long : length own ≡ length (block_spellings block) = own_long (head_kind kind) block own zip ∙ sym (length-map block (λ (s : SortDecl). map spelling s.ctors)) in
      symbols_longer with_all d extends_all c
      ∙ ap (λ (xs : List (List ℕ × Symbol)). all_symbols d ++ xs)
      (from_block with_all different added (length d.declared.heads) (length d.sorts) (length d.ctors) (length d.sels) own (block_spellings block) long (named_by different) (stand different)
      ∙ ap (λ (ps : List ℕ). block_symbols (length d.declared.heads) (length d.ctors) (length d.sels) ps (block_spellings block)) (params_of_own (head_kind kind) block own zip))

-- ---- the tables

-- arguments change no head
head_of_args : (args : List Expression) (e : Expression) → head_of (with_args e args) ≡ head_of e
head_of_args [] e = refl
head_of_args (a ∷ args) e = head_of_args args (applied e a)

-- the symbols of the block
abbrev pub own_symbols : Tables → List SortDecl → List (List ℕ × Symbol)
own_symbols t block = block_symbols (length (declared_of t.generics).heads) (length t.ctors) (length t.sels) (params_of block) (block_spellings block)

module _ (facts : Facts) (t mid : Tables) (fs ds : List Function) (kind : Kind) (block : List SortDecl) (own : List Head) (c : IsConsistent (of_tables t fs ds)) (tab : IsTabled t) (a : IsAccepted (of_tables t fs ds) kind block own) (below : AreBlockParametersBelow block) (added : List Expression)
    (adds : Adds ((declared_of t.generics).heads ++ own) (own_fields (of_tables t fs ds) own) (sorts_of t.table ++ own_sorts (of_tables t fs ds) own) ((sorts_of t.table ++ own_sorts (of_tables t fs ds) own) ++ added))
    (left : Room) (is_left : IsLeft (room_in (of_tables t fs ds)) left (length block) (length (block_ctors block)) (length (decl_fields (block_ctors block)))) (fits : Fits ((declared_of t.generics).heads ++ own) left added)
    (m : AreWithHeads t mid own (block_spellings block) (own_symbols t block) (own_sorts (of_tables t fs ds) own ++ added)) where
  formed : IsWellFormed (with_heads (declared_of t.generics) own)
  formed = facts.block (declared_of t.generics) (head_kind kind) block own c.heads.formed below a.heads

  more : (params : ℕ) (e : Expression) → IsExpression (declared_of t.generics).heads params e → IsExpression ((declared_of t.generics).heads ++ own) params e
  more params e closed = facts.more (declared_of t.generics).heads own params e closed

  head_of_own : (h params : ℕ) → head_at ((declared_of t.generics).heads ++ own) (at_own_parameters h params) ≡ slice_get ((declared_of t.generics).heads ++ own) h
  head_of_own h params = ap (option_and_then (slice_get ((declared_of t.generics).heads ++ own))) (head_of_args (parameters params) (named h))

  base : IsBase (with_own (of_tables t fs ds) own (block_spellings block))
  base =
      base_with_own (of_tables t fs ds) kind block own c a
      (λ params e formed_now closed founded. facts.founded_more (declared_of t.generics).heads own params e formed_now closed founded)
      (facts.own (declared_of t.generics).heads) head_of_own formed more

  is_added : AreAdded (with_own (of_tables t fs ds) own (block_spellings block)) (own_sorts (of_tables t fs ds) own ++ added)
  is_added =
      added_block (of_tables t fs ds) kind block own c a more formed.heads (facts.keeps ((declared_of t.generics).heads ++ own))
      (λ es before after adds_now closed_es closed_before. facts.added ((declared_of t.generics).heads ++ own) es before after formed.heads adds_now closed_es closed_before) added adds base left is_left fits

  pub block_ready : AreReady mid
  block_ready = heads_ready facts t mid fs ds own (block_spellings block) (own_symbols t block) (own_sorts (of_tables t fs ds) own ++ added) c tab base is_added m

  pub block_within : AreWithin mid (own_sorts (of_tables t fs ds) own ++ added)
  block_within = heads_within facts t mid fs ds own (block_spellings block) (own_symbols t block) (own_sorts (of_tables t fs ds) own ++ added) c tab base is_added m

  module _ (new : Tables) (grown : IsGrownBy mid new (own_sorts (of_tables t fs ds) own ++ added)) where
    pub block_is : (gs hs : List Function) → of_tables new gs hs ≡ with_sorts (with_own (of_tables t gs hs) own (block_spellings block)) (own_sorts (of_tables t fs ds) own ++ added)
    block_is gs hs = heads_is facts t mid fs ds own (block_spellings block) (own_symbols t block) (own_sorts (of_tables t fs ds) own ++ added) c tab base is_added m new grown gs hs

    pub block_consistent : IsConsistent (of_tables new fs ds)
    block_consistent = heads_consistent facts t mid fs ds own (block_spellings block) (own_symbols t block) (own_sorts (of_tables t fs ds) own ++ added) c tab base is_added m new grown

    resolves : all_symbols (with_sorts (with_own (of_tables t fs ds) own (block_spellings block)) (own_sorts (of_tables t fs ds) own ++ added)) ≡ all_symbols (of_tables t fs ds) ++ own_symbols t block
    resolves =
        symbols_all (of_tables t fs ds) kind block own c a added is_added.different
        ∙ ap₂ (λ (n k : ℕ). all_symbols (of_tables t fs ds) ++ block_symbols (length (declared_of t.generics).heads) n k (params_of block) (block_spellings block)) (length-map t.ctors (ctor_of t.spellings)) (length-map t.sels (sel_of t.spellings))

    long_params : length (params_of block) ≡ length (block_spellings block)
    long_params = length-map block (λ (x : SortDecl). x.params) ∙ sym (length-map block (λ (x : SortDecl). map spelling x.ctors))

    pub block_tabled : IsStanding new → AreCounted new.generics new.table → IsTabled new
    block_tabled standing counted =
        heads_tabled facts t mid fs ds own (block_spellings block) (own_symbols t block) (own_sorts (of_tables t fs ds) own ++ added) c tab base is_added m new grown resolves
        (names-block (length (declared_of t.generics).heads) (length t.ctors) (length t.sels) (params_of block) (block_spellings block) long_params) standing counted
