-- The entries of one sort of the list: which its arguments and the sorts of its fields are, and that they fit.
use Rattle.std.proofs.Common.{◌≡◌, ℕ, zero, suc, ◌+◌, ◌<◌, ◌≤◌, ◌^◌, All, List, [], ◌∷◌, ◌++◌, length, map, take, sum, get_or, slice_get, Option, Some, None, option_map, unwrap_or, refl, sym, ◌∙◌, ap, ap₂, subst, arith, length-append}
use Rattle.std.specs.List.{AllZip, flat_map, range_with_len}
use Rattle.std.specs.Option.{option_and_then}
use Rattle.std.proofs.lemmas.List.{append-nil, length-map}
use Rattle.std.proofs.lemmas.Option.{none-some, same_Some, slice_get_within, slice_get-get_or}
use Rattle.ct_lemmas.proofs.Lists.{slice_get-flat_map, slice_get-map_at}
use Rattle.ct_generics.specs.declared.nodes.ExprId.{ExprId}
use Rattle.ct_generics.specs.declared.nodes.HeadId.{HeadId}
use Rattle.ct_generics.specs.declared.nodes.Node.{Node}
use Rattle.ct_generics.specs.Declarations.{Head}
use Rattle.ct_generics.specs.Denoted.{declared_of, sorts_of, expression_at}
use Rattle.ct_generics.specs.Expression.{Expression, parameter, named, applied, head_of, args_of}
use Rattle.ct_generics.specs.Nodes.{AreSingle, IsSpine, StandFor, Stands, Stay}
use Rattle.ct_generics.specs.Reach.{AreDifferent, fields_of}
use Rattle.ct_sorts.specs.declared.entries.CtorEntry.{CtorEntry}
use Rattle.ct_sorts.specs.declared.entries.SelEntry.{SelEntry}
use Rattle.ct_sorts.specs.declared.entries.SortEntry.{SortEntry}
use Rattle.ct_sorts.specs.declared.ids.CtorId.{CtorId}
use Rattle.ct_sorts.specs.declared.spelling.Spelling.{Spelling}
use Rattle.ct_sorts.specs.declared.tables.Tables.{Tables}
use Rattle.ct_sorts.specs.Availability.{IsListed}
use Rattle.ct_sorts.specs.Declarations.{ctor_ids, most_ctors, most_sels}
use Rattle.ct_sorts.specs.Facts.{Facts}
use Rattle.ct_sorts.specs.Grown.{Begins}
use Rattle.ct_sorts.specs.Growing.{AreNumbered, AreReady, AreWithin, HaveGrown, IsGrownBy, IsSameHeads, IsStanding}
use Rattle.ct_sorts.specs.Heads.{NamesEach}
use Rattle.ct_sorts.specs.Kinds.{kind_of}
use Rattle.ct_sorts.specs.Lookup.{names_of}
use Rattle.ct_sorts.specs.Made.{ctors_of_sort, new_sels}
use Rattle.ct_sorts.specs.Same.{sort_among}
use Rattle.ct_sorts.specs.Shapes.{CtorShape, all_fields, ctor_shapes, spelling_of}
use Rattle.ct_sorts.specs.SortText.{sort_name, sort_text}
use Rattle.ct_sorts.specs.Stored.{ctor_of, sel_of, sort_of_entry}
use Rattle.ct_sorts.specs.Tabled.{AreAtHome, IsEntryOf}
use Rattle.ct_sorts.proofs.HeadLemmas.{head_of_closed}
use Rattle.ct_sorts.proofs.ListedLemmas.{args_listed, rows_listed, rows_numbered}
use Rattle.ct_sorts.proofs.OneSortLemmas.{IsPushedSort, grown_by_one}
use Rattle.ct_sorts.proofs.OwnSortsLemmas.{sum-more}
use Rattle.ct_sorts.proofs.PieceLemmas.{Begins-self}
use Rattle.ct_sorts.proofs.ShapeLemmas.{length-ctor_shapes, length-fields}
use Rattle.ct_sorts.proofs.TableSortsLemmas.{stand_at}

-- the tables with more nodes
abbrev pub with_nodes : Tables → List Node → Tables
with_nodes t nodes = record t { table = record (t.table) { expressions = nodes } }

-- the tables with more nodes and more entries
abbrev pub with_entries : Tables → List Node → List CtorEntry → List SelEntry → List (List ℕ × SortEntry) → Tables
with_entries t nodes cs ss xs = record (with_nodes t nodes) { ctors = cs; sels = ss; sorts = xs }

-- a sort's number is one of a node
pub number_within : (t : Tables) → AreReady t → (i : ℕ) (id : ExprId) → slice_get t.table.sorts i ≡ Some id → id.0 < length t.table.expressions
number_within t r i id there =
    let own = stand_at t.table.expressions t.table.sorts (sorts_of t.table) i id r.standing.stand there in
    within own.0 own.2
  where
    within : (e : Expression) → Stands t.table.expressions id.0 e → id.0 < length t.table.expressions
    within (parameter k) stands = slice_get_within t.table.expressions id.0 _ stands
    within (named h) stands = slice_get_within t.table.expressions id.0 _ stands
    within (applied f a) stands = slice_get_within t.table.expressions id.0 _ stands.2

-- a sort stands where its number does
pub sort_at : (t : Tables) (i : ℕ) (id : ExprId) → slice_get t.table.sorts i ≡ Some id → (e : Expression) × (slice_get (sorts_of t.table) i ≡ Some e)
sort_at t i id there = (expression_at t.table.expressions id, slice_get-map_at (expression_at t.table.expressions) t.table.sorts i id there)

-- an entry of a sort with this head and these arguments may come
pub record IsEntryReady (t : Tables) (head : HeadId) (args : List ExprId) : Type 0 where
  pub standing : IsStanding t
  pub few : length t.table.sorts < 2 ^ 32
  pub head_there : head.0 < length (declared_of t.generics).heads
  pub different_all : AreDifferent (sorts_of t.table)
  pub args_there : All (λ (id : ExprId). (i : ℕ) × (i < length t.sorts) × (slice_get t.table.sorts i ≡ Some id)) args
  pub texts : names_of t.sorts ≡ take (length t.sorts) (map (sort_text (declared_of t.generics).heads) (sorts_of t.table))
  pub fresh : (e : Expression) × StandFor t.table.expressions args (args_of e) × (head_of e ≡ Some head.0) × (IsListed (names_of t.sorts) (sort_text (declared_of t.generics).heads e) → ⊥)

-- the entry of a sort with this head, these arguments and these constructors came
abbrev pub IsPushedEntry : Tables → List (List ℕ × SortEntry) → HeadId → List ExprId → List CtorId → Type 0
IsPushedEntry old xs head args ctors =
    (e : Expression) (known : Head) → StandFor old.table.expressions args (args_of e) → head_of e ≡ Some head.0 → slice_get (declared_of old.generics).heads head.0 ≡ Some known
    → (entry : SortEntry) × (xs ≡ old.sorts ++ (sort_text (declared_of old.generics).heads e, entry) ∷ [])
    × (sort_of_entry (sort_text (declared_of old.generics).heads e, entry) ≡ record { name = sort_name (declared_of old.generics).heads e; kind = kind_of known.kind; ctors = ctors })
    × IsEntryOf (sorts_of old.table) entry e

-- rows that stand for others are as long, all together too
rows_long : (nodes : List Node) (rows : List (List ExprId)) (fields : List (List Expression)) → AllZip (StandFor nodes) rows fields → (length rows ≡ length fields) × (sum (map length rows) ≡ length (flat_map (λ (row : List Expression). row) fields))
rows_long nodes [] [] all = (refl, refl)
rows_long nodes [] (es ∷ fields) all = absurd all
rows_long nodes (row ∷ rows) [] all = absurd all
rows_long nodes (row ∷ rows) (es ∷ fields) all =
    let rest = rows_long nodes rows fields all.1 in (
      ap suc rest.0,
      sum-more length row rows ∙ ap₂ (λ (m n : ℕ). m + n) (row_long row es all.0) rest.1 ∙ sym (length-append es (flat_map (λ (r : List Expression). r) fields)),
    )
  where
    row_long : (ids : List ExprId) (es : List Expression) → StandFor nodes ids es → length ids ≡ length es
    row_long [] [] zipped = refl
    row_long [] (e ∷ es) zipped = absurd zipped
    row_long (id ∷ ids) [] zipped = absurd zipped
    row_long (id ∷ ids) (e ∷ es) zipped = ap suc (row_long ids es zipped.1)

module _ (facts : Facts) (t : Tables) (r : AreReady t) (nodes : List Node) (stay : Stay t.table.expressions nodes) where
  -- the same sorts are in the list
  pub sorts_stand : StandFor nodes t.table.sorts (sorts_of t.table)
  sorts_stand = facts.stay t.table (with_nodes t nodes).table (sorts_of t.table) r.standing.stand refl stay

  pub sorts_same : sorts_of (with_nodes t nodes).table ≡ sorts_of t.table
  sorts_same = facts.sorts (with_nodes t nodes).table (sorts_of t.table) sorts_stand

  pub same_heads : IsSameHeads t (with_nodes t nodes)
  same_heads = record { generics_same = refl; spellings_same = refl; determined_same = refl; symbols_same = refl; table_same = refl; stay = stay; origins_same = sorts_same }

  -- all that was there is there, and stands
  pub grown_nodes : (cs : List CtorEntry) (ss : List SelEntry) (xs : List (List ℕ × SortEntry)) → Begins t.ctors cs → Begins t.sels ss → Begins t.sorts xs → HaveGrown t (with_entries t nodes cs ss xs)
  grown_nodes cs ss xs ctors sels sorts = record {
    heads = Begins-self (declared_of t.generics).heads;
    synonyms = Begins-self (declared_of t.generics).synonyms;
    spellings = Begins-self t.spellings;
    determined = Begins-self t.determined;
    symbols = Begins-self t.symbols;
    origins = subst (Begins (sorts_of t.table)) (sym sorts_same) (Begins-self (sorts_of t.table));
    sorts = sorts;
    ctors = ctors;
    sels = sels;
  }

  pub standing_nodes : (cs : List CtorEntry) (ss : List SelEntry) (xs : List (List ℕ × SortEntry)) → IsStanding (with_entries t nodes cs ss xs)
  standing_nodes cs ss xs = record {
    declared = r.standing.declared;
    stand = subst (StandFor nodes t.table.sorts) (sym sorts_same) sorts_stand;
  }

module _ (facts : Facts) (t : Tables) (r : AreReady t) (nodes : List Node) (stay : Stay t.table.expressions nodes) (single : AreSingle nodes) (i : ℕ) (next : i ≡ length t.sorts) (e : Expression) (at : slice_get (sorts_of t.table) i ≡ Some e) where
  -- no sort comes twice
  pub different : AreDifferent (sorts_of t.table)
  different j k f at_j at_k =
      let text = sort_text (declared_of t.generics).heads in
      r.texts j k (text f) (slice_get-map_at text (sorts_of t.table) j f at_j) (slice_get-map_at text (sorts_of t.table) k f at_k)

  -- it is of a sort or generic that is there
  pub head_there : (h : ℕ) × (head : Head) × (head_of e ≡ Some h) × (slice_get (declared_of t.generics).heads h ≡ Some head)
  head_there = head_of_closed (declared_of t.generics).heads e 0 (r.sorts i e at)

  -- its number stands for it
  pub stands_there : (id : ExprId) → slice_get t.table.sorts i ≡ Some id → Stands t.table.expressions id.0 e
  stands_there id there =
      let own = stand_at t.table.expressions t.table.sorts (sorts_of t.table) i id r.standing.stand there in
      subst (Stands t.table.expressions id.0) (same_Some own.0 e (sym own.1 ∙ at)) own.2

  -- what its sort or generic is found to be
  pub head_found : (found : Option HeadId) → option_map (λ (h : HeadId). h.0) found ≡ head_of e → (h : HeadId) × (found ≡ Some h) × (head_of e ≡ Some h.0)
  head_found None is = absurd (none-some _ (is ∙ head_there.2))
  head_found (Some h) is = (h, refl, sym is)

  -- numbers stand for their expressions with the nodes that came too
  pub args_stay : (ids : List ExprId) (es : List Expression) → StandFor t.table.expressions ids es → StandFor nodes ids es
  args_stay ids es all = facts.stay (record t.table { sorts = ids }) (record t.table { sorts = ids; expressions = nodes }) es all refl stay

  -- its arguments stand before it
  pub args_before : (ids : List ExprId) → StandFor nodes ids (args_of e) → All (λ (id : ExprId). (j : ℕ) × (j < length t.sorts) × (slice_get t.table.sorts j ≡ Some id)) ids
  args_before ids zipped =
      args_listed nodes single t.table.sorts ids (sorts_of t.table) (args_of e) (length t.sorts) (sorts_stand facts t r nodes stay) zipped
      (λ k f there. let s = r.arguments i k e f at there in (s.0, omega (arith, s.1, next), s.2))

  -- its text is that of none before it
  pub text_fresh : IsListed (names_of t.sorts) (sort_text (declared_of t.generics).heads e) → ⊥
  text_fresh listed =
      let text = sort_text (declared_of t.generics).heads in
      let place = subst (λ (xs : List (List ℕ)). slice_get xs listed.0 ≡ Some (text e)) r.begun listed.1 in
      let old = taken (length t.sorts) listed.0 (map text (sorts_of t.table)) (text e) place in
      omega (arith, old.0, next, r.texts listed.0 i (text e) old.1 (slice_get-map_at text (sorts_of t.table) i e at))
    where
      taken : (n k : ℕ) (xs : List (List ℕ)) (x : List ℕ) → slice_get (take n xs) k ≡ Some x → (k < n) × (slice_get xs k ≡ Some x)
      taken zero k xs x found = absurd (none-some _ found)
      taken (suc n) k [] x found = absurd (none-some _ found)
      taken (suc n) zero (y ∷ xs) x found = (omega arith, found)
      taken (suc n) (suc k) (y ∷ xs) x found = let rest = taken n k xs x found in (omega (arith, rest.0), rest.1)

  module _ (rows : List (List ExprId)) (zipped : AllZip (StandFor nodes) rows (fields_of (declared_of t.generics).heads e)) where
    -- the sorts of its fields are in the list
    pub rows_there : All (All (λ (id : ExprId). (j : ℕ) × (slice_get t.table.sorts j ≡ Some id))) rows
    rows_there =
        let fields = fields_of (declared_of t.generics).heads e in
        rows_listed nodes single t.table.sorts (sorts_of t.table) rows fields (sorts_stand facts t r nodes stay) zipped
        (λ j k row f at_j at_k. let place = slice_get-flat_map (λ (fs : List Expression). fs) fields j k row f at_j at_k in r.fields e (i, at) place.0 f place.1)

    pub rows_are : AllZip (λ (row : List ExprId) (es : List Expression). AreNumbered t.table.sorts row (sorts_of t.table) es) rows (fields_of (declared_of t.generics).heads e)
    rows_are = rows_numbered nodes t.table.sorts (sorts_of t.table) rows (fields_of (declared_of t.generics).heads e) different (sorts_stand facts t r nodes stay) zipped

    -- each of them has its name
    pub names_are : AllZip NamesEach (spelling_of t.spellings e) (fields_of (declared_of t.generics).heads e)
    names_are = r.named 0 e (ap (slice_get (sorts_of t.table)) (omega (arith, next)) ∙ at)

    -- its constructors and selectors are within the limits
    pub ctors_fit : AreWithin t (e ∷ []) → length t.ctors + length rows ≤ most_ctors
    ctors_fit few =
        let fields = fields_of (declared_of t.generics).heads e in
        omega (
          arith,
          few.ctors,
          ap length (append-nil (ctor_shapes (spelling_of t.spellings e) fields)),
          length-ctor_shapes (spelling_of t.spellings e) fields names_are,
          (rows_long nodes rows fields zipped).0,
        )

    pub sels_fit : AreWithin t (e ∷ []) → length t.sels + sum (map length rows) ≤ most_sels
    sels_fit few =
        let fields = fields_of (declared_of t.generics).heads e in
        omega (
          arith,
          few.sels,
          ap (λ (cs : List CtorShape). length (all_fields cs)) (append-nil (ctor_shapes (spelling_of t.spellings e) fields)),
          length-fields (spelling_of t.spellings e) fields names_are,
          (rows_long nodes rows fields zipped).1,
        )

  -- what was pushed of its constructors
  abbrev pub ArePushedCtors : List CtorEntry → List SelEntry → List (List ExprId) → ℕ → Type 0
  ArePushedCtors cs ss rows h =
      (spellings : List Spelling) (fields : List (List Expression)) → slice_get t.spellings h ≡ Some spellings
      → AllZip (λ (row : List ExprId) (es : List Expression). AreNumbered t.table.sorts row (sorts_of (with_nodes t nodes).table) es) rows fields → AllZip NamesEach spellings fields
      → (map (ctor_of t.spellings) cs ≡ map (ctor_of t.spellings) t.ctors ++ ctors_of_sort i (length t.sels) (ctor_shapes spellings fields))
      × (map (sel_of t.spellings) ss ≡ map (sel_of t.spellings) t.sels ++ new_sels (sort_among (sorts_of (with_nodes t nodes).table)) (length t.ctors) (ctor_shapes spellings fields))

  -- with its entry these are the entries of the sort
  pub pushed_sort : (cs : List CtorEntry) (ss : List SelEntry) (xs : List (List ℕ × SortEntry)) (entry : SortEntry) (rows : List (List ExprId)) (h : ℕ) (known : Head) → AllZip (StandFor nodes) rows (fields_of (declared_of t.generics).heads e) → head_of e ≡ Some h → slice_get (declared_of t.generics).heads h ≡ Some known
      → ArePushedCtors cs ss rows h → map (λ (c : CtorEntry). c.home) cs ≡ map (λ (c : CtorEntry). c.home) t.ctors ++ map (λ (k : ℕ). record { head = h; ctor = k }) (range_with_len 0 (length rows))
      → (AreAtHome t.ctors t.sels → AreAtHome cs ss) → Begins t.ctors cs
      → xs ≡ t.sorts ++ (sort_text (declared_of t.generics).heads e, entry) ∷ []
      → sort_of_entry (sort_text (declared_of t.generics).heads e, entry) ≡ record { name = sort_name (declared_of t.generics).heads e; kind = kind_of known.kind; ctors = ctor_ids (length t.ctors) (length rows) }
      → IsEntryOf (sorts_of (with_nodes t nodes).table) entry e → IsPushedSort t (with_entries t nodes cs ss xs) e known h entry
  pushed_sort cs ss xs entry rows h known zipped is known_at pushed homes sel_homes begun sorts entry_is is_entry =
      let heads = (declared_of t.generics).heads in
      let fields = fields_of heads e in
      let own = get_or t.spellings h [] in
      let own_at : slice_get t.spellings h ≡ Some own = slice_get-get_or t.spellings h [] (omega (arith, slice_get_within heads h known known_at, r.heads.one_each)) in
      let spelled : spelling_of t.spellings e ≡ own = ap (λ (o : Option ℕ). unwrap_or (option_and_then (slice_get t.spellings) o) []) is ∙ ap (λ (o : Option (List Spelling)). unwrap_or o []) own_at in
      let numbered = subst (λ (origins : List Expression). AllZip (λ (row : List ExprId) (es : List Expression). AreNumbered t.table.sorts row origins es) rows fields) (sym (sorts_same facts t r nodes stay)) (rows_are rows zipped) in
      let named = names_are rows zipped in
      let made = pushed own fields own_at numbered (subst (λ (ss : List Spelling). AllZip NamesEach ss fields) spelled named) in
      let many : length rows ≡ length (ctor_shapes (spelling_of t.spellings e) fields) = (rows_long nodes rows fields zipped).0 ∙ sym (length-ctor_shapes (spelling_of t.spellings e) fields named) in
      record {
        same = record { generics_same = refl; spellings_same = refl; determined_same = refl; symbols_same = refl; table_same = refl; stay = stay; origins_same = (sorts_same facts t r nodes stay) };
        origin = ap (slice_get (sorts_of t.table)) (sym next) ∙ at;
        head_is = is;
        known_at = known_at;
        sorts = sorts;
        entry_is = entry_is ∙ ap (λ (n : ℕ). record { name = sort_name heads e; kind = kind_of known.kind; ctors = ctor_ids (length t.ctors) n }) many;
        is_entry = subst (λ (origins : List Expression). IsEntryOf origins entry e) (sorts_same facts t r nodes stay) is_entry;
        ctors = made.0 ∙ ap₂ (λ (n : ℕ) (ctors : List Spelling). map (ctor_of t.spellings) t.ctors ++ ctors_of_sort n (length t.sels) (ctor_shapes ctors fields)) next (sym spelled);
        sels = made.1 ∙ ap₂ (λ (origins : List Expression) (ctors : List Spelling). map (sel_of t.spellings) t.sels ++ new_sels (sort_among origins) (length t.ctors) (ctor_shapes ctors fields)) (sorts_same facts t r nodes stay) (sym spelled);
        begun = begun;
        homes = homes ∙ ap (λ (n : ℕ). map (λ (c : CtorEntry). c.home) t.ctors ++ map (λ (k : ℕ). record { head = h; ctor = k }) (range_with_len 0 n)) many;
        sel_homes = sel_homes;
      }

  pub sorts_few : AreWithin t (e ∷ []) → length t.table.sorts < 2 ^ 32
  sorts_few few = omega (arith, few.sorts, length-map t.table.sorts (expression_at t.table.expressions))

  module _ (found : Option HeadId) (ids : List ExprId) (spine : IsSpine t.table.expressions (option_map (λ (h : HeadId). h.0) found) ids e) (h : HeadId) (is_found : (k : HeadId) → found ≡ Some k → h ≡ k) where
    head_is : head_of e ≡ Some h.0
    head_is =
        let own = head_found found spine.top in
        own.2 ∙ ap (λ (k : HeadId). Some k.0) (sym (is_found own.0 own.1))

    known : (head : Head) × (slice_get (declared_of t.generics).heads h.0 ≡ Some head)
    known = let own = head_there in (own.1, ap (slice_get (declared_of t.generics).heads) (same_Some h.0 own.0 (sym head_is ∙ own.2)) ∙ own.3)

    args_stand : StandFor nodes ids (args_of e)
    args_stand = args_stay ids (args_of e) spine.under

    pub entry_ready : AreWithin t (e ∷ []) → (now : Tables) → now ≡ with_entries t nodes now.ctors now.sels t.sorts → IsEntryReady now h ids
    entry_ready few now is =
        subst (λ (x : Tables). IsEntryReady x h ids) (sym is) (record {
          standing = standing_nodes facts t r nodes stay now.ctors now.sels t.sorts;
          few = sorts_few few;
          head_there = slice_get_within (declared_of t.generics).heads h.0 known.0 known.1;
          different_all = subst AreDifferent (sym (sorts_same facts t r nodes stay)) different;
          args_there = args_before ids args_stand;
          texts = r.begun ∙ ap (λ (xs : List Expression). take (length t.sorts) (map (sort_text (declared_of t.generics).heads) xs)) (sym (sorts_same facts t r nodes stay));
          fresh = (e, args_stand, head_is, text_fresh);
        })

    pub grown_by_entry : (now new : Tables) (rows : List (List ExprId)) (ctors : List CtorId) → now ≡ with_entries t nodes now.ctors now.sels t.sorts → new ≡ record now { sorts = new.sorts }
        → AllZip (StandFor nodes) rows (fields_of (declared_of t.generics).heads e) → ArePushedCtors now.ctors now.sels rows h.0
        → map (λ (c : CtorEntry). c.home) now.ctors ≡ map (λ (c : CtorEntry). c.home) t.ctors ++ map (λ (k : ℕ). record { head = h.0; ctor = k }) (range_with_len 0 (length rows))
        → (AreAtHome t.ctors t.sels → AreAtHome now.ctors now.sels) → Begins t.ctors now.ctors
        → IsPushedEntry now new.sorts h ids ctors → ctors ≡ ctor_ids (length t.ctors) (length rows) → IsGrownBy t new (e ∷ [])
    grown_by_entry now new rows ctors is is_new zipped pushed homes sel_homes begun entered ctors_are =
        let heads = (declared_of t.generics).heads in
        let made = subst (λ (x : Tables). IsPushedEntry x new.sorts h ids ctors) is entered e known.0 args_stand head_is known.1 in
        let entry_is = made.2 ∙ ap (λ (cs : List CtorId). record { name = sort_name heads e; kind = kind_of known.0.kind; ctors = cs }) ctors_are in
        subst (λ (x : Tables). IsGrownBy t x (e ∷ [])) (sym (is_new ∙ ap (λ (x : Tables). record x { sorts = new.sorts }) is))
        (grown_by_one t (with_entries t nodes now.ctors now.sels new.sorts) e known.0 h.0 made.0
        (pushed_sort now.ctors now.sels new.sorts made.0 rows h.0 known.0 zipped head_is known.1 pushed homes sel_homes begun made.1 entry_is made.3))
