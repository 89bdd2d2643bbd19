-- What the names of the constructors and fields of a block stand for: the numbers that these get in the list.
use Rattle.std.proofs.Common.{◌≡◌, ℕ, zero, suc, ◌+◌, ◌<◌, ◌==◌, Bool, true, false, if◌then◌else◌, List, [], ◌∷◌, ◌++◌, length, map, slice_get, Option, Some, option_map, unwrap_or, refl, sym, ◌∙◌, ap, ap₂, subst, subst₂, arith, length-append}
use Rattle.std.specs.List.{flat_map}
use Rattle.std.proofs.lemmas.Bool.Decides.{Decides-eqb}
use Rattle.std.proofs.lemmas.List.{map-append}
use Rattle.ct_lemmas.proofs.Lists.{slice_get-append_after, slice_get-append_left, slice_get-there}
use Rattle.ct_generics.specs.Expression.{Expression, named}
use Rattle.ct_generics.specs.Declarations.{Head}
use Rattle.ct_generics.specs.Reach.{AreDifferent, fields_of}
use Rattle.ct_generics.specs.Add.{IsAmong}
use Rattle.ct_sorts.specs.declared.ids.SortId.{SortId}
use Rattle.ct_sorts.specs.declared.ids.CtorId.{CtorId}
use Rattle.ct_sorts.specs.declared.ids.SelId.{SelId}
use Rattle.ct_sorts.specs.declared.ids.GenId.{GenId}
use Rattle.ct_sorts.specs.declared.ids.Symbol.{Symbol}
use Rattle.ct_sorts.specs.declared.ids.Symbol.TheVariants.{Ctor, Sel, GenCtor, GenSel}
use Rattle.ct_sorts.specs.declared.spelling.Spelling.{Spelling}
use Rattle.ct_sorts.specs.Declarations.{Declarations, Sort, Constructor, ctor_ids, sel_ids, head_symbols, spelled}
use Rattle.ct_sorts.specs.Heads.{NamesEach}
use Rattle.ct_sorts.specs.Lookup.{names_of}
use Rattle.ct_sorts.specs.Block.{plain_from}
use Rattle.ct_sorts.specs.Made.{new_sorts, new_ctors, ctors_of_sort, shapes_of}
use Rattle.ct_sorts.specs.Same.{sort_among}
use Rattle.ct_sorts.specs.Shapes.{CtorShape, SortShape, ctor_shapes, field_shapes, shape_of, all_ctors, all_fields}
use Rattle.ct_sorts.specs.Symbols.{block_symbols, ctors_at, field_total, generic_sel_symbols, generic_symbols, numbered_sels, numbered_symbols, plain_symbols, sel_symbols, sels_at, symbols_from}
use Rattle.std.specs.List.{AllZip}
use Rattle.ct_sorts.proofs.MadeLemmas.{length-ctors_of_sort}
use Rattle.ct_sorts.proofs.SameLemmas.{sort_at}
use Rattle.ct_sorts.proofs.ShapeLemmas.{AllZip-length, length-field_shapes, length-ctor_shapes}

-- ---- the names

pub sel_names-numbered : (sel : ℕ) (names : List (List ℕ)) → names_of (numbered_sels sel names) ≡ names
sel_names-numbered sel [] = refl
sel_names-numbered sel (name ∷ names) = ap (λ ns. name ∷ ns) (sel_names-numbered (sel + 1) names)

pub names-numbered : (ctor sel : ℕ) (ss : List Spelling) → names_of (numbered_symbols ctor sel ss) ≡ spelled ss
names-numbered ctor sel [] = refl
names-numbered ctor sel (s ∷ ss) =
    ap (λ ns. s.name ∷ ns)
    (map-append (λ (e : List ℕ × Symbol). e.0) (numbered_sels sel s.fields) (numbered_symbols (ctor + 1) (sel + length s.fields) ss)
    ∙ ap₂ (λ xs ys. xs ++ ys) (sel_names-numbered sel s.fields) (names-numbered (ctor + 1) (sel + length s.fields) ss))

pub sel_names-generic : (g : GenId) (i k : ℕ) (names : List (List ℕ)) → names_of (generic_sel_symbols g i k names) ≡ names
sel_names-generic g i k [] = refl
sel_names-generic g i k (name ∷ names) = ap (λ ns. name ∷ ns) (sel_names-generic g i (k + 1) names)

pub names-generic : (g : GenId) (i : ℕ) (ss : List Spelling) → names_of (generic_symbols g i ss) ≡ spelled ss
names-generic g i [] = refl
names-generic g i (s ∷ ss) =
    ap (λ ns. s.name ∷ ns)
    (map-append (λ (e : List ℕ × Symbol). e.0) (generic_sel_symbols g i 0 s.fields) (generic_symbols g (i + 1) ss)
    ∙ ap₂ (λ xs ys. xs ++ ys) (sel_names-generic g i 0 s.fields) (names-generic g (i + 1) ss))

pub names-block : (h ctor sel : ℕ) (params : List ℕ) (spellings : List (List Spelling)) → length params ≡ length spellings → names_of (block_symbols h ctor sel params spellings) ≡ head_symbols spellings
names-block h ctor sel [] [] same = refl
names-block h ctor sel [] (ss ∷ spellings) same = absurd (omega (arith, same))
names-block h ctor sel (p ∷ params) [] same = absurd (omega (arith, same))
names-block h ctor sel (p ∷ params) (ss ∷ spellings) same =
    let rest = λ (c s : ℕ). names-block (h + 1) c s params spellings (omega (arith, same)) in
    by (p == 0) (rest (ctor + length ss) (sel + field_total ss)) (rest ctor sel)
  where
    by : (b : Bool) → names_of (block_symbols (h + 1) (ctor + length ss) (sel + field_total ss) params spellings) ≡ head_symbols spellings → names_of (block_symbols (h + 1) ctor sel params spellings) ≡ head_symbols spellings
        → names_of (if b then numbered_symbols ctor sel ss ++ block_symbols (h + 1) (ctor + length ss) (sel + field_total ss) params spellings else generic_symbols (record { 0 = h }) 0 ss ++ block_symbols (h + 1) ctor sel params spellings) ≡ spelled ss ++ head_symbols spellings
    by true plain generic =
        map-append (λ (e : List ℕ × Symbol). e.0) (numbered_symbols ctor sel ss) (block_symbols (h + 1) (ctor + length ss) (sel + field_total ss) params spellings)
        ∙ ap₂ (λ xs ys. xs ++ ys) (names-numbered ctor sel ss) plain
    by false plain generic =
        map-append (λ (e : List ℕ × Symbol). e.0) (generic_symbols (record { 0 = h }) 0 ss) (block_symbols (h + 1) ctor sel params spellings)
        ∙ ap₂ (λ xs ys. xs ++ ys) (names-generic (record { 0 = h }) 0 ss) generic

-- ---- the numbers

-- the sort at an index is the one with this number
pub number_is : (origins : List Expression) (s : ℕ) (e : Expression) → AreDifferent origins → slice_get origins s ≡ Some e → sort_among origins e ≡ record { 0 = s }
number_is origins s e different at i = record { 0 = different (sort_among origins e).0 s e (sort_at origins e (s, at)) at i }

numbered_sels-row : (sel : ℕ) (names : List (List ℕ)) → sel_symbols names (sel_ids sel (length names)) ≡ numbered_sels sel names
numbered_sels-row sel [] = refl
numbered_sels-row sel (name ∷ names) = ap (λ xs. (name, Sel (record { 0 = sel })) ∷ xs) (numbered_sels-row (sel + 1) names)

-- what stands from an index on
abbrev pub Follows : {X : Type 0} → List X → ℕ → List X → Type 0
Follows xs n ys = (i : ℕ) → i < length ys → slice_get xs (n + i) ≡ slice_get ys i

follows_later : {X : Type 0} (xs : List X) (n : ℕ) (front ys : List X) → Follows xs n (front ++ ys) → Follows xs (n + length front) ys
follows_later xs n front ys follows i within =
    let e : n + length front + i ≡ n + (length front + i) = omega arith in
    ap (slice_get xs) e ∙ follows (length front + i) (omega (arith, within, length-append front ys)) ∙ slice_get-append_after front ys i

-- the constructors of a sort, where they stand from its first on
plain_row : (later : List Constructor) (sort ctor sel : ℕ) (ss : List Spelling) (rows : List (List Expression)) → AllZip NamesEach ss rows → Follows later ctor (ctors_of_sort sort sel (ctor_shapes ss rows)) → plain_symbols later ss (ctor_ids ctor (length ss)) ≡ numbered_symbols ctor sel ss
plain_row later sort ctor sel [] rows all follows = refl
plain_row later sort ctor sel (s ∷ ss) [] all follows = absurd all
plain_row later sort ctor sel (s ∷ ss) (row ∷ rows) all follows =
    let start : ctor + 0 ≡ ctor = omega arith in
    let fields = length-field_shapes s.fields row all.0 in
    let named : length s.fields ≡ length (field_shapes s.fields row) = all.0 ∙ sym fields in
    let here : slice_get later ctor ≡ Some (record { name = s.name; sort = record { 0 = sort }; sels = sel_ids sel (length (field_shapes s.fields row)) }) = ap (slice_get later) (sym start) ∙ follows 0 (omega arith) in
    let sels : sels_at later (record { 0 = ctor }) ≡ sel_ids sel (length s.fields) = ap (λ (o : Option Constructor). unwrap_or (option_map (λ (t : Constructor). t.sels) o) []) here ∙ ap (sel_ids sel) (sym named) in
    let next : (i : ℕ) → ctor + 1 + i ≡ ctor + suc i = λ i. omega arith in
    let rest = plain_row later sort (ctor + 1) (sel + length (field_shapes s.fields row)) ss rows all.1 (λ i within. ap (slice_get later) (next i) ∙ follows (suc i) (omega (arith, within))) in
    ap₂ (λ (xs ys : List (List ℕ × Symbol)). (s.name, Ctor (record { 0 = ctor })) ∷ (xs ++ ys)) (ap (sel_symbols s.fields) sels ∙ numbered_sels-row sel s.fields) (rest ∙ ap (λ k. numbered_symbols (ctor + 1) (sel + k) ss) (sym named))

follows_first : {X : Type 0} (xs : List X) (n : ℕ) (front ys : List X) → Follows xs n (front ++ ys) → Follows xs n front
follows_first xs n front ys follows i within =
    let x = slice_get-there front i within in
    follows i (omega (arith, within, length-append front ys)) ∙ slice_get-append_left front ys i x.0 x.1 ∙ sym x.1

-- how many fields constructors have is as many as are named
fields_total : (ss : List Spelling) (rows : List (List Expression)) → AllZip NamesEach ss rows → length (all_fields (ctor_shapes ss rows)) ≡ field_total ss
fields_total [] [] all = refl
fields_total [] (row ∷ rows) all = absurd all
fields_total (s ∷ ss) [] all = absurd all
fields_total (s ∷ ss) (row ∷ rows) all =
    let step : field_total (s ∷ ss) ≡ length s.fields + field_total ss = length-append s.fields (flat_map (λ (x : Spelling). x.fields) ss) in
    omega (arith, step, length-append (field_shapes s.fields row) (all_fields (ctor_shapes ss rows)), length-field_shapes s.fields row all.0, all.0, fields_total ss rows all.1)

module _ (later : Declarations) (different : AreDifferent later.origins) (added : List Expression) where
  -- what a sort without parameters is made of has these names
  abbrev pub IsNamedBy : ℕ → List Spelling → Type 0
  IsNamedBy n ss = ((shape_of later.declared.heads later.spellings (named n)).ctors ≡ ctor_shapes ss (fields_of later.declared.heads (named n))) × AllZip NamesEach ss (fields_of later.declared.heads (named n))

  -- the sorts from s on, with their constructors, are those that are left of the block
  pub record Stand (s ctor sel : ℕ) (left : List Expression) : Type 0 where
    pub origins : Follows later.origins s left
    pub sorts : Follows later.sorts s (new_sorts ctor (shapes_of later left))
    pub ctors : Follows later.ctors ctor (new_ctors s sel (shapes_of later left))

  one_sort : (n s ctor sel : ℕ) (ss : List Spelling) (rest : List Expression) → IsNamedBy n ss → Stand s ctor sel (named n ∷ rest)
      → (plain_symbols later.ctors ss (ctors_at later.sorts (sort_among later.origins (named n))) ≡ numbered_symbols ctor sel ss) × Stand (s + 1) (ctor + length ss) (sel + field_total ss) rest
  one_sort n s ctor sel ss rest is stand =
      let shape = shape_of later.declared.heads later.spellings (named n) in
      let rows = fields_of later.declared.heads (named n) in
      let start : s + 0 ≡ s = omega arith in
      let number = number_is later.origins s (named n) different (ap (slice_get later.origins) (sym start) ∙ stand.origins 0 (omega arith)) in
      let long : length shape.ctors ≡ length ss = ap length is.0 ∙ length-ctor_shapes ss rows is.1 ∙ sym (AllZip-length ss rows is.1) in
      let sort : slice_get later.sorts s ≡ Some (record { name = shape.name; kind = shape.kind; ctors = ctor_ids ctor (length shape.ctors) }) = ap (slice_get later.sorts) (sym start) ∙ stand.sorts 0 (omega arith) in
      let ids : ctors_at later.sorts (sort_among later.origins (named n)) ≡ ctor_ids ctor (length ss) = ap (ctors_at later.sorts) number ∙ ap (λ (o : Option Sort). unwrap_or (option_map (λ (t : Sort). t.ctors) o) []) sort ∙ ap (ctor_ids ctor) long in
      let first = follows_first later.ctors ctor (ctors_of_sort s sel shape.ctors) (new_ctors (s + 1) (sel + length (all_fields shape.ctors)) (shapes_of later rest)) stand.ctors in
      let fields : length (all_fields shape.ctors) ≡ field_total ss = ap (λ (cs : List CtorShape). length (all_fields cs)) is.0 ∙ fields_total ss rows is.1 in
      let counted : length (ctors_of_sort s sel shape.ctors) ≡ length ss = length-ctors_of_sort s sel shape.ctors ∙ long in (
        ap (plain_symbols later.ctors ss) ids ∙ plain_row later.ctors s ctor sel ss rows is.1 (subst (λ (cs : List CtorShape). Follows later.ctors ctor (ctors_of_sort s sel cs)) is.0 first),
        record {
          origins = follows_later later.origins s (named n ∷ []) rest stand.origins;
          sorts = subst (λ (k : ℕ). Follows later.sorts (s + 1) (new_sorts (ctor + k) (shapes_of later rest))) long (follows_later later.sorts s (record { name = shape.name; kind = shape.kind; ctors = ctor_ids ctor (length shape.ctors) } ∷ []) (new_sorts (ctor + length shape.ctors) (shapes_of later rest)) stand.sorts);
          ctors = subst₂ (λ (k m : ℕ). Follows later.ctors (ctor + k) (new_ctors (s + 1) (sel + m) (shapes_of later rest))) counted fields (follows_later later.ctors ctor (ctors_of_sort s sel shape.ctors) (new_ctors (s + 1) (sel + length (all_fields shape.ctors)) (shapes_of later rest)) stand.ctors);
        },
      )

  -- so the names of the block stand for the numbers that come next
  pub from_block : (n s ctor sel : ℕ) (own : List Head) (spellings : List (List Spelling)) → length own ≡ length spellings
      → ((j : ℕ) (head : Head) (ss : List Spelling) → slice_get own j ≡ Some head → slice_get spellings j ≡ Some ss → head.params ≡ 0 → IsNamedBy (n + j) ss)
      → Stand s ctor sel (plain_from n (map (λ (h : Head). h.params) own) ++ added)
      → symbols_from later n own spellings ≡ block_symbols n ctor sel (map (λ (h : Head). h.params) own) spellings
  from_block n s ctor sel [] [] same named_by stand = refl
  from_block n s ctor sel [] (ss ∷ spellings) same named_by stand = absurd (omega (arith, same))
  from_block n s ctor sel (head ∷ own) [] same named_by stand = absurd (omega (arith, same))
  from_block n s ctor sel (head ∷ own) (ss ∷ spellings) same named_by stand =
      let here : n + 0 ≡ n = omega arith in
      let next : (j : ℕ) → n + suc j ≡ n + 1 + j = λ j. omega arith in
      by (head.params == 0) (Decides-eqb head.params 0).0
      (λ none. subst (λ k. IsNamedBy k ss) here (named_by 0 head ss refl refl none))
      (λ s' ctor' sel' still. from_block (n + 1) s' ctor' sel' own spellings (omega (arith, same)) (λ j x xs at names none. subst (λ k. IsNamedBy k xs) (next j) (named_by (suc j) x xs at names none)) still)
      stand
    where
      by : (b : Bool) → (b ≡ true → head.params ≡ 0) → (head.params ≡ 0 → IsNamedBy n ss)
          → ((s' ctor' sel' : ℕ) → Stand s' ctor' sel' (plain_from (n + 1) (map (λ (h : Head). h.params) own) ++ added) → symbols_from later (n + 1) own spellings ≡ block_symbols (n + 1) ctor' sel' (map (λ (h : Head). h.params) own) spellings)
          → Stand s ctor sel ((if b then named n ∷ plain_from (n + 1) (map (λ (h : Head). h.params) own) else plain_from (n + 1) (map (λ (h : Head). h.params) own)) ++ added)
          → (if b then plain_symbols later.ctors ss (ctors_at later.sorts (sort_among later.origins (named n))) else generic_symbols (record { 0 = n }) 0 ss) ++ symbols_from later (n + 1) own spellings
          ≡ (if b then numbered_symbols ctor sel ss ++ block_symbols (n + 1) (ctor + length ss) (sel + field_total ss) (map (λ (h : Head). h.params) own) spellings else generic_symbols (record { 0 = n }) 0 ss ++ block_symbols (n + 1) ctor sel (map (λ (h : Head). h.params) own) spellings)
      by true tells is rest now =
          let one = one_sort n s ctor sel ss (plain_from (n + 1) (map (λ (h : Head). h.params) own) ++ added) (is (tells refl)) now in
          ap₂ (λ xs ys. xs ++ ys) one.0 (rest (s + 1) (ctor + length ss) (sel + field_total ss) one.1)
      by false tells is rest now = ap (λ xs. generic_symbols (record { 0 = n }) 0 ss ++ xs) (rest s ctor sel now)
