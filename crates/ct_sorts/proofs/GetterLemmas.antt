-- What the tables say of a sort, a constructor or a generic.
use Rattle.std.proofs.Common.{◌≡◌, ◌↔◌, ℕ, zero, suc, ◌+◌, ◌<◌, ◌≤◌, ◌==◌, ◌||◌, nat_eq, Bool, true, false, if◌then◌else◌, List, [], ◌∷◌, length, map, Some, None, Option, option_map, MatchOption, IfSome, IfNone, IsTrue, unwrap_or, slice_get, codes, refl, sym, ap, subst, ◌∙◌, arith}
use Rattle.std.specs.List.{IsDistinct, AllByRecursion, AllZip, list_any}
use Rattle.std.proofs.lemmas.Bool.{true≢false, false≢true}
use Rattle.std.proofs.lemmas.Bool.Decides.{Decides-eqb}
use Rattle.std.proofs.lemmas.List.{length-map}
use Rattle.std.proofs.lemmas.Map.Steps.{length-le_from_distinct_below}
use Rattle.std.proofs.lemmas.Option.{none-some, same_Some, slice_get-map, slice_get_within}
use Rattle.ct_lemmas.proofs.Lists.{slice_get-map_at, slice_get-map_source, slice_get-there}
use Rattle.ct_lemmas.proofs.Pairs.{AllZip-at, AllZip-at_right, AllZip-one_length}
use Rattle.ct_lemmas.proofs.Prefixes.{slice_get-take}
use Rattle.ct_generics.specs.declared.kind.Kind.{Kind as HeadKind}
use Rattle.ct_generics.specs.declared.kind.Kind.TheVariants.{Bool as OfBool, Free as OfFree, Data as OfData, Codata as OfCodata}
use Rattle.ct_sorts.specs.declared.spelling.Spelling.{Spelling}
use Rattle.ct_generics.specs.Expression.{Expression, parameter, named, applied, head_of}
use Rattle.ct_generics.specs.Declarations.{Declared, Head, IsExpression, Takes}
use Rattle.ct_generics.specs.declared.nodes.ExprId.{ExprId}
use Rattle.ct_generics.specs.declared.nodes.HeadId.{HeadId}
use Rattle.ct_generics.specs.declared.nodes.Node.{Node}
use Rattle.ct_generics.specs.declared.nodes.Node.TheVariants.{Head as HeadNode}
use Rattle.ct_generics.specs.declared.sort_table.SortTable.{SortTable}
use Rattle.ct_generics.specs.declared.generics.Generics.{Generics}
use Rattle.ct_generics.specs.declared.heads.StoredHead.{StoredHead}
use Rattle.ct_generics.specs.Stored.{AreDeclared}
use Rattle.ct_generics.specs.Nodes.{Stands, StandFor, AreSingle}
use Rattle.ct_generics.specs.SortTable.{AreSorts}
use Rattle.ct_generics.specs.Denoted.{declared_of, expression_at, sorts_of}
use Rattle.ct_generics.specs.Occurrence.{OccurAll}
use Rattle.ct_sorts.specs.declared.entries.SortEntry.{SortEntry}
use Rattle.ct_sorts.specs.declared.entries.CtorEntry.{CtorEntry}
use Rattle.ct_sorts.specs.declared.ids.CtorId.{CtorId}
use Rattle.ct_sorts.specs.declared.ids.GenId.{GenId}
use Rattle.ct_sorts.specs.declared.ids.SortId.{SortId}
use Rattle.ct_sorts.specs.declared.tables.Tables.{Tables}
use Rattle.ct_sorts.specs.Availability.{IsListed}
use Rattle.ct_sorts.specs.Consistent.{IsConsistent}
use Rattle.ct_sorts.specs.Declarations.{Declarations, Function, IsSort, most_sorts, most_ctors}
use Rattle.ct_sorts.specs.Determined.{AreMarked, DetermineArguments, IsCtorAt}
use Rattle.ct_sorts.specs.Instances.{IsOrigin}
use Rattle.ct_sorts.specs.Limits.{generic_count, sort_count}
use Rattle.ct_sorts.specs.Heads.{FitsSpelling, NamesEach}
use Rattle.ct_sorts.specs.Lookup.{IsGeneric, IsGenericHead, IsPlainSort, NamesSort, names_of}
use Rattle.ct_sorts.specs.Same.{sort_among}
use Rattle.ct_sorts.specs.SortText.{sort_text}
use Rattle.ct_sorts.specs.Tabled.{IsEntryOf, IsTabled, of_tables}
use Rattle.ct_sorts.proofs.HeadLemmas.{head_of_closed, head_there}
use Rattle.ct_sorts.proofs.SameLemmas.{sort_at, sort_within}
use Rattle.ct_sorts.proofs.StructureLemmas.{one_place}
use Rattle.ct_sorts.proofs.ResolvingLemmas.{one_head}
use Rattle.ct_sorts.proofs.TotalLemmas.{within_sorts, within_ctors, generic_has}

-- ---- numbers of sorts and generics

-- a list that does not have a number has only others
apart : (u : ℕ) (xs : List ℕ) → list_any (nat_eq u) xs ≡ false → AllByRecursion (λ y. nat_eq u y ≡ false) xs
apart u [] h = tt
apart u (v ∷ xs) h = by (nat_eq u v) refl h (λ k. apart u xs k)
  where
    by : (b : Bool) → nat_eq u v ≡ b → (b || list_any (nat_eq u) xs) ≡ false → (list_any (nat_eq u) xs ≡ false → AllByRecursion (λ y. nat_eq u y ≡ false) xs) → AllByRecursion (λ y. nat_eq u y ≡ false) (v ∷ xs)
    by true e h rest = absurd (true≢false h)
    by false e h rest = (e, rest h)

none_distinct : IsDistinct nat_eq []
unfolding IsDistinct
none_distinct = tt

more_distinct : (u : ℕ) (xs : List ℕ) → list_any (nat_eq u) xs ≡ false → IsDistinct nat_eq xs → IsDistinct nat_eq (u ∷ xs)
unfolding IsDistinct
more_distinct u xs fresh distinct = (apart u xs fresh, distinct)

module _ (d : Declarations) (c : IsConsistent d) where
  -- the numbers of the sorts without parameters among these, which have the numbers from k on
  plain_numbers : ℕ → List Head → List ℕ
  plain_numbers k [] = []
  plain_numbers k (head ∷ heads) = if head.params == 0 then (sort_among d.origins (named k)).0 ∷ plain_numbers (suc k) heads else plain_numbers (suc k) heads

  -- they are those of the declaration
  abbrev AreFrom : ℕ → List Head → Type 0
  AreFrom k heads = (i : ℕ) (head : Head) → slice_get heads i ≡ Some head → slice_get d.declared.heads (k + i) ≡ Some head

  from_rest : (k : ℕ) (head : Head) (heads : List Head) → AreFrom k (head ∷ heads) → AreFrom (suc k) heads
  from_rest k head heads are i x at = let e : k + suc i ≡ suc k + i = omega arith in subst (λ n. slice_get d.declared.heads n ≡ Some x) e (are (suc i) x at)

  from_first : (k : ℕ) (head : Head) (heads : List Head) → AreFrom k (head ∷ heads) → slice_get d.declared.heads k ≡ Some head
  from_first k head heads are = let e : k + 0 ≡ k = omega arith in subst (λ n. slice_get d.declared.heads n ≡ Some head) e (are 0 head refl)

  plain_length : (k : ℕ) (heads : List Head) → length heads ≡ generic_count heads + length (plain_numbers k heads)
  unfolding plain_numbers
  plain_length k [] = refl
  plain_length k (head ∷ heads) = by (head.params == 0) (plain_length (suc k) heads)
    where
      by : (b : Bool) → length heads ≡ generic_count heads + length (plain_numbers (suc k) heads) → length (head ∷ heads) ≡ (if b then generic_count heads else 1 + generic_count heads) + length (if b then (sort_among d.origins (named k)).0 ∷ plain_numbers (suc k) heads else plain_numbers (suc k) heads)
      by true rest = omega (arith, rest)
      by false rest = omega (arith, rest)

  -- each of them is the number of one
  listed : (k : ℕ) (heads : List Head) → AreFrom k heads → (u : ℕ) → list_any (nat_eq u) (plain_numbers k heads) ≡ true → (j : ℕ) × (k ≤ j) × (slice_get d.origins u ≡ Some (named j))
  unfolding plain_numbers
  listed k [] are u h = absurd (false≢true h)
  listed k (head ∷ heads) are u h = by (head.params == 0) (Decides-eqb head.params 0).0 (λ r. listed (suc k) heads (from_rest k head heads are) u r) h
    where
      later : ((j : ℕ) × (suc k ≤ j) × (slice_get d.origins u ≡ Some (named j))) → (j : ℕ) × (k ≤ j) × (slice_get d.origins u ≡ Some (named j))
      later found = (found.0, omega (arith, found.1), found.2)

      first : (list_any (nat_eq u) (plain_numbers (suc k) heads) ≡ true → (j : ℕ) × (suc k ≤ j) × (slice_get d.origins u ≡ Some (named j))) → head.params ≡ 0 → (b : Bool) → nat_eq u (sort_among d.origins (named k)).0 ≡ b → (b || list_any (nat_eq u) (plain_numbers (suc k) heads)) ≡ true → (j : ℕ) × (k ≤ j) × (slice_get d.origins u ≡ Some (named j))
      first rest none true is h =
          let among = c.plain k head (from_first k head heads are) none in
          (k, omega arith, ap (slice_get d.origins) ((Decides-eqb u (sort_among d.origins (named k)).0).0 is) ∙ sort_at d.origins (named k) among)
      first rest none false is h = later (rest h)

      by : (b : Bool) → (b ≡ true → head.params ≡ 0) → (list_any (nat_eq u) (plain_numbers (suc k) heads) ≡ true → (j : ℕ) × (suc k ≤ j) × (slice_get d.origins u ≡ Some (named j))) → list_any (nat_eq u) (if b then (sort_among d.origins (named k)).0 ∷ plain_numbers (suc k) heads else plain_numbers (suc k) heads) ≡ true → (j : ℕ) × (k ≤ j) × (slice_get d.origins u ≡ Some (named j))
      by true tells rest h = first rest (tells refl) (nat_eq u (sort_among d.origins (named k)).0) refl h
      by false tells rest h = later (rest h)

  distinct : (k : ℕ) (heads : List Head) → AreFrom k heads → IsDistinct nat_eq (plain_numbers k heads)
  unfolding plain_numbers
  distinct k [] are = none_distinct
  distinct k (head ∷ heads) are = by (head.params == 0) (Decides-eqb head.params 0).0 (distinct (suc k) heads (from_rest k head heads are))
    where
      same_number : (m n : ℕ) → named m ≡ named n → m ≡ n
      same_number m n e = same_Some m n (ap head_of e)

      fresh : head.params ≡ 0 → (b : Bool) → list_any (nat_eq (sort_among d.origins (named k)).0) (plain_numbers (suc k) heads) ≡ b → b ≡ false
      fresh none true h =
          let found = listed (suc k) heads (from_rest k head heads are) (sort_among d.origins (named k)).0 h in
          let among = c.plain k head (from_first k head heads are) none in
          let same = same_number k found.0 (same_Some (named k) (named found.0) (sym (sort_at d.origins (named k) among) ∙ found.2)) in
          absurd (omega (arith, same, found.1))
      fresh none false h = refl

      by : (b : Bool) → (b ≡ true → head.params ≡ 0) → IsDistinct nat_eq (plain_numbers (suc k) heads) → IsDistinct nat_eq (if b then (sort_among d.origins (named k)).0 ∷ plain_numbers (suc k) heads else plain_numbers (suc k) heads)
      by true tells rest = more_distinct (sort_among d.origins (named k)).0 (plain_numbers (suc k) heads) (fresh (tells refl) (list_any (nat_eq (sort_among d.origins (named k)).0) (plain_numbers (suc k) heads)) refl) rest
      by false tells rest = rest

  -- so there are no more sorts and generics than sorts and generics that count,
  pub heads_under : length d.declared.heads ≤ length d.sorts + generic_count d.declared.heads
  heads_under =
      let zero_plus : (i : ℕ) → i ≡ 0 + i = λ i. omega arith in
      let are : AreFrom 0 d.declared.heads = λ i head at. subst (λ n. slice_get d.declared.heads n ≡ Some head) (zero_plus i) at in
      let few = length-le_from_distinct_below (plain_numbers 0 d.declared.heads) (length d.origins) (distinct 0 d.declared.heads are) (λ u h. let found = listed 0 d.declared.heads are u h in slice_get_within d.origins u (named found.0) found.2) in
      omega (arith, few, plain_length 0 d.declared.heads, c.origins.one_each)

  -- and than there may be
  pub heads_few : length d.declared.heads ≤ most_sorts
  heads_few = omega (arith, heads_under, within_sorts d c.within)

-- the first sort
abbrev bool_head : Head
bool_head = record { name = codes "Bool"; kind = OfBool; params = 0; ctors = [] }

-- ---- the sort or generic of a sort

-- where it has no parameters, the sort is it alone
named_alone : (heads : List Head) (h : ℕ) (head : Head) (e : Expression) (more : ℕ) → Takes heads 0 more e → head_of e ≡ Some h → slice_get heads h ≡ Some head → head.params ≡ 0 → (more ≡ 0) × (e ≡ named h)
named_alone heads h head (parameter i) more takes top at none = absurd (none-some h top)
named_alone heads h head (named k) more takes top at none =
    let same = same_Some k h top in
    let found = head_there (slice_get heads k) more takes in
    let is : found.0 ≡ head = same_Some found.0 head (sym found.1 ∙ ap (slice_get heads) same ∙ at) in
    (sym found.2 ∙ ap (λ (x : Head). x.params) is ∙ none, ap named same)
named_alone heads h head (applied e a) more takes top at none = absurd (let rest = named_alone heads h head e (suc more) takes.0 top at none in omega (arith, rest.0))

module _ (t : Tables) (tabled : IsTabled t) where
  -- the text of a sort
  pub text_at : (s : ℕ) (text : List ℕ) (e : Expression) → option_map (λ x. x.0) (slice_get t.sorts s) ≡ Some text → slice_get (sorts_of t.table) s ≡ Some e → text ≡ sort_text (declared_of t.generics).heads e
  text_at s text e at at_e =
      same_Some text (sort_text (declared_of t.generics).heads e)
      (sym at ∙ sym (slice_get-map (λ (x : List ℕ × SortEntry). x.0) t.sorts s) ∙ ap (λ (names : List (List ℕ)). slice_get names s) tabled.texts ∙ slice_get-map_at (sort_text (declared_of t.generics).heads) (sorts_of t.table) s e at_e)

  -- the sort of a text
  pub sort_of_text : (s : ℕ) (text : List ℕ) → slice_get (names_of t.sorts) s ≡ Some text → (e : Expression) × (slice_get (sorts_of t.table) s ≡ Some e) × (sort_text (declared_of t.generics).heads e ≡ text)
  sort_of_text s text at = slice_get-map_source (sort_text (declared_of t.generics).heads) (sorts_of t.table) s text (sym (ap (λ (names : List (List ℕ)). slice_get names s) tabled.texts) ∙ at)

  pub text_listed : (s : ℕ) (text : List ℕ) (e : Expression) → slice_get (sorts_of t.table) s ≡ Some e → sort_text (declared_of t.generics).heads e ≡ text → IsListed (names_of t.sorts) text
  text_listed s text e at is = (s, ap (λ (names : List (List ℕ)). slice_get names s) tabled.texts ∙ slice_get-map_at (sort_text (declared_of t.generics).heads) (sorts_of t.table) s e at ∙ ap Some is)

  -- the entry of a sort says what it is
  pub entry_is : (s : ℕ) (entry : SortEntry) (e : Expression) → option_map (λ x. x.1) (slice_get t.sorts s) ≡ Some entry → slice_get (sorts_of t.table) s ≡ Some e → IsEntryOf (sorts_of t.table) entry e
  entry_is s entry e at at_e = AllZip-at (IsEntryOf (sorts_of t.table)) (map (λ (x : List ℕ × SortEntry). x.1) t.sorts) (sorts_of t.table) s entry e tabled.entries (slice_get-map (λ (x : List ℕ × SortEntry). x.1) t.sorts s ∙ at) at_e

  module _ (fs ds : List Function) (c : IsConsistent (of_tables t fs ds)) where
    -- a sort that is there is something
    pub origin_there : (s : ℕ) → s < length (of_tables t fs ds).sorts → (e : Expression) × (slice_get (sorts_of t.table) s ≡ Some e)
    origin_there s within = slice_get-there (sorts_of t.table) s (omega (arith, within, c.origins.one_each))

    -- the entry's head is that of a sort or generic
    pub entry_head : (s : ℕ) (entry : SortEntry) (e : Expression) → IsEntryOf (sorts_of t.table) entry e → slice_get (sorts_of t.table) s ≡ Some e → (head : Head) × (slice_get (declared_of t.generics).heads entry.head ≡ Some head)
    entry_head s entry e is at =
        let found = head_of_closed (declared_of t.generics).heads e 0 (c.origins.sorts s e at) in
        (found.1, ap (slice_get (declared_of t.generics).heads) (same_Some entry.head found.0 (sym is.head_is ∙ found.2)) ∙ found.3)

    -- where that has no parameters, the sort was declared without
    pub plain_sort : (s : SortId) (entry : SortEntry) (e : Expression) (head : Head) → IsEntryOf (sorts_of t.table) entry e → slice_get (sorts_of t.table) s.0 ≡ Some e → slice_get (declared_of t.generics).heads entry.head ≡ Some head → head.params ≡ 0 → IsPlainSort (of_tables t fs ds) s
    plain_sort s entry e head is at at_head none =
        let alone = named_alone (declared_of t.generics).heads entry.head head e 0 (c.origins.sorts s.0 e at) is.head_is at_head none in
        (entry.head, at ∙ ap Some alone.1)

    -- whether the fields of a constructor determine the arguments is asked for where it stands
    pub place_of_ctor : (k : CtorId) (entry : CtorEntry) (h i : ℕ) → slice_get t.ctors k.0 ≡ Some entry → IsCtorAt (of_tables t fs ds) k h i → (h ≡ entry.home.head) × (i ≡ entry.home.ctor)
    place_of_ctor k entry h i at is =
        let home = tabled.homes k.0 entry at in
        let same = one_place (of_tables t fs ds) c is.s home.s i entry.home.ctor is.sort home.sort k is.sort_at is.at home.sort_at home.at in
        let origin : is.origin ≡ home.origin = same_Some is.origin home.origin (sym is.origin_at ∙ ap (slice_get (sorts_of t.table)) same.0 ∙ home.origin_at) in
        (same_Some h entry.home.head (sym is.head_is ∙ ap head_of origin ∙ home.head_is), same.1)

    -- ---- names of sorts

    -- what was found among the sorts under a name
    pub sort_names : (h : ℕ) (head : Head) (name : List ℕ) (found : Option SortId) → slice_get (declared_of t.generics).heads h ≡ Some head → head.name ≡ name → IfSome found (λ s. slice_get (sorts_of t.table) s.0 ≡ Some (named h)) → IfNone found ((s : ℕ) → slice_get (sorts_of t.table) s ≡ Some (named h) → ⊥) → MatchOption found ((s : SortId) → NamesSort (of_tables t fs ds) name s → ⊥) (NamesSort (of_tables t fs ds) name)
    sort_names h head name None at is some none = λ s names.
        let same = one_head (of_tables t fs ds) c names.0 h names.1 head names.3 at (names.4 ∙ sym is) in
        none s.0 (names.2 ∙ ap (λ n. Some (named n)) same)
    sort_names h head name (Some s) at is some none = (h, head, some, at, is)

    pub no_sort_named : (name : List ℕ) → ((h : ℕ) (head : Head) → slice_get (declared_of t.generics).heads h ≡ Some head → head.name ≡ name → ⊥) → (s : SortId) → NamesSort (of_tables t fs ds) name s → ⊥
    no_sort_named name absent s names = absent names.0 names.1 names.3 names.4

    pub found_inside : (h : ℕ) (found : Option SortId) → IfSome found (λ s. slice_get (sorts_of t.table) s.0 ≡ Some (named h)) → IfSome found (IsSort (of_tables t fs ds))
    found_inside h None some = tt
    found_inside h (Some s) some = subst (λ n. s.0 < n) c.origins.one_each (slice_get_within (sorts_of t.table) s.0 (named h) some)

    -- and among the generics
    pub generic_names : (h : ℕ) (head : Head) (name : List ℕ) (found : Option GenId) → slice_get (declared_of t.generics).heads h ≡ Some head → head.name ≡ name → MatchOption found (head.params ≡ 0) (λ g. (g.0 ≡ h) × (0 < head.params)) → MatchOption found ((g : GenId) (other : Head) → IsGenericHead (of_tables t fs ds) g other → other.name ≡ name → ⊥) (λ g. (other : Head) × IsGenericHead (of_tables t fs ds) g other × (other.name ≡ name))
    generic_names h head name None at is none = λ g other generic named_so.
        let same = one_head (of_tables t fs ds) c g.0 h other head generic.0 at (named_so ∙ sym is) in
        let same_head : other ≡ head = same_Some other head (sym generic.0 ∙ ap (slice_get (declared_of t.generics).heads) same ∙ at) in
        omega (arith, generic.1, none, ap (λ (x : Head). x.params) same_head)
    generic_names h head name (Some g) at is some = (head, (ap (slice_get (declared_of t.generics).heads) some.0 ∙ at, some.1), is)

    -- the generic of a sort, or none
    pub gen_is : (s : SortId) (entry : SortEntry) (e : Expression) (head : Head) (found : Option GenId) → IsEntryOf (sorts_of t.table) entry e → slice_get (sorts_of t.table) s.0 ≡ Some e → slice_get (declared_of t.generics).heads entry.head ≡ Some head → MatchOption found (head.params ≡ 0) (λ g. (g.0 ≡ entry.head) × (0 < head.params)) → MatchOption found (IsPlainSort (of_tables t fs ds) s) (λ g. (head_of e ≡ Some g.0) × IsGeneric (of_tables t fs ds) g)
    gen_is s entry e head None is at at_head none = plain_sort s entry e head is at at_head none
    gen_is s entry e head (Some g) is at at_head some = (is.head_is ∙ ap (λ n. Some n) (sym some.0), (head, (ap (slice_get (declared_of t.generics).heads) some.0 ∙ at_head, some.1)))

    -- a generic has no more constructors than there may be
    pub ctors_few : (h : ℕ) (head : Head) → slice_get (declared_of t.generics).heads h ≡ Some head → 0 < head.params → length head.ctors ≤ most_ctors
    ctors_few h head at some =
        let spelled = slice_get-there t.spellings h (omega (arith, c.heads.one_each, slice_get_within (declared_of t.generics).heads h head at)) in
        let count = generic_has (declared_of t.generics).heads t.spellings h head at some spelled.0 spelled.1 in
        let rows = by head.kind head.ctors spelled.0 (c.heads.spelled h head spelled.0 at spelled.1) in
        omega (arith, rows, count, within_ctors (of_tables t fs ds) c.within)
      where
        first_plain : h ≡ 0 → ⊥
        first_plain is =
            let first : slice_get (declared_of t.generics).heads 0 ≡ Some bool_head = slice_get-take 1 (declared_of t.generics).heads 0 bool_head (ap (λ (xs : List Head). slice_get xs 0) c.first_head) in
            let same : bool_head ≡ head = same_Some bool_head head (sym first ∙ ap (slice_get (declared_of t.generics).heads) (sym is) ∙ at) in
            omega (arith, some, ap (λ (x : Head). x.params) same)

        by : (kind : HeadKind) (rows : List (List Expression)) (ctors : List Spelling) → FitsSpelling h kind rows ctors → length rows ≤ length ctors
        by OfBool rows ctors fits = absurd (first_plain fits)
        by OfFree rows ctors fits = subst (λ (xs : List (List Expression)). length xs ≤ length ctors) (sym fits.0) (omega arith)
        by OfData rows ctors fits = omega (arith, AllZip-one_length NamesEach ctors rows fits.1)
        by OfCodata rows ctors fits = omega (arith, AllZip-one_length NamesEach ctors rows fits.1)

-- a name and what stands beside it
pub pair_at : {X : Type 0} (xs : List (List ℕ × X)) (i : ℕ) (name : List ℕ) (x : X) → slice_get (names_of xs) i ≡ Some name → option_map (λ e. e.1) (slice_get xs i) ≡ Some x → slice_get xs i ≡ Some (name, x)
pair_at {X} xs i name x at_name at_x = by (slice_get xs i) (sym (slice_get-map (λ (e : List ℕ × X). e.0) xs i) ∙ at_name) at_x
  where
    by : (o : Option (List ℕ × X)) → option_map (λ (e : List ℕ × X). e.0) o ≡ Some name → option_map (λ (e : List ℕ × X). e.1) o ≡ Some x → o ≡ Some (name, x)
    by None p q = absurd (none-some name p)
    by (Some e) p q = ap Some (λ j. (same_Some e.0 name p j, same_Some e.1 x q j))

-- ---- marks of constructors

-- where there is no mark there is no constructor
pub no_mark : (heads : List Head) (marks : List (List Bool)) (h i : ℕ) (head : Head) → AreMarked heads marks → slice_get heads h ≡ Some head → slice_get marks h ≡ None → DetermineArguments head i
no_mark heads marks h i head are at none =
    let there = slice_get-there marks h (omega (arith, are.one_each, slice_get_within heads h head at)) in
    absurd (none-some there.0 (sym none ∙ there.1))

pub no_mark_there : (heads : List Head) (marks : List (List Bool)) (h i : ℕ) (head : Head) (ctors : List Bool) → AreMarked heads marks → slice_get heads h ≡ Some head → slice_get marks h ≡ Some ctors → slice_get ctors i ≡ None → DetermineArguments head i
no_mark_there heads marks h i head ctors are at at_marks none row at_row =
    let there = slice_get-there ctors i (omega (arith, are.enough h head ctors at at_marks, slice_get_within head.ctors i row at_row)) in
    absurd (none-some there.0 (sym none ∙ there.1))

-- a mark says whether the fields determine the arguments, and so does its lack
pub mark_tells : (heads : List Head) (marks : List (List Bool)) (h i : ℕ) (head : Head) (ctors : List Bool) (result : Bool) → AreMarked heads marks → slice_get heads h ≡ Some head → slice_get marks h ≡ Some ctors → ((mark : Bool) → slice_get ctors i ≡ Some mark → result ≡ mark) → (slice_get ctors i ≡ None → IsTrue result) → IsTrue result ↔ DetermineArguments head i
mark_tells heads marks h i head ctors result are at at_marks some none = by (slice_get ctors i) refl
  where
    by : (o : Option Bool) → slice_get ctors i ≡ o → IsTrue result ↔ DetermineArguments head i
    by None at_i = (λ _. no_mark_there heads marks h i head ctors are at at_marks at_i, λ _. none at_i)
    by (Some mark) at_i = subst (λ (b : Bool). IsTrue b ↔ DetermineArguments head i) (sym (some mark at_i)) (are.right h i head ctors mark at at_marks at_i)

-- ---- generics

-- the number of a generic is one of a sort or generic
pub generic_within : (t : Tables) (fs ds : List Function) (d : Declarations) (g : GenId) → of_tables t fs ds ≡ d → IsGeneric d g → g.0 < length (declared_of t.generics).heads
generic_within t fs ds d g is generic = let at = subst (λ (x : Declarations). IsGeneric x g) (sym is) generic in slice_get_within (declared_of t.generics).heads g.0 at.0 at.1.0

-- ---- sorts without parameters

module _ (table : SortTable) (stand : AreSorts table (sorts_of table)) (expression : (nodes : List Node) (id : ExprId) (e : Expression) → Stands nodes id.0 e → expression_at nodes id ≡ e) (head : HeadId) where
  -- without a node of its own a sort without parameters is no sort in the list
  pub plain_missing : ((n : ℕ) → slice_get table.expressions n ≡ Some (HeadNode head) → ⊥) → (s : ℕ) → slice_get (sorts_of table) s ≡ Some (named head.0) → ⊥
  plain_missing absent s at =
      let found = AllZip-at_right (λ (id : ExprId) (e : Expression). Stands table.expressions id.0 e) table.sorts (sorts_of table) s (named head.0) stand at in
      absent found.0.0 found.2

  -- else it is where its node is a sort
  pub plain_found : (id : ExprId) (found : Option SortId) → AreSingle table.expressions → slice_get table.expressions id.0 ≡ Some (HeadNode head) → IfSome found (λ s. slice_get table.sorts s.0 ≡ Some id) → IfNone found ((s : ℕ) → slice_get table.sorts s ≡ Some id → ⊥) → IfSome found (λ s. slice_get (sorts_of table) s.0 ≡ Some (named head.0)) × IfNone found ((s : ℕ) → slice_get (sorts_of table) s ≡ Some (named head.0) → ⊥)
  plain_found id None single node some none = (
    tt,
    λ s at.
        let found = AllZip-at_right (λ (i : ExprId) (e : Expression). Stands table.expressions i.0 e) table.sorts (sorts_of table) s (named head.0) stand at in
        let number : found.0.0 ≡ id.0 = single found.0.0 id.0 (HeadNode head) found.2 node in
        let same : found.0 ≡ id = λ i. record { 0 = number i } in
        none s (found.1 ∙ ap (λ (x : ExprId). Some x) same),
  )
  plain_found id (Some s) single node some none = (slice_get-map_at (expression_at table.expressions) table.sorts s.0 id some ∙ ap Some (expression table.expressions id (named head.0) node), tt)

-- ---- the rows of a generic

-- they stand for the sorts of its fields, where what is declared tells this
module _ (g : Generics) (d : Declared) (are : AreDeclared g d) (tells : (h : ℕ) (head : Head) (template : List Node) (rows : List (List ExprId)) → slice_get d.heads h ≡ Some head → option_map (λ (stored : StoredHead). stored.template) (slice_get g.heads h) ≡ Some template → option_map (λ (stored : StoredHead). stored.ctors) (slice_get g.heads h) ≡ Some rows → AllZip (StandFor template) rows head.ctors) where
  stored_there : (o : Option StoredHead) (rows : List (List ExprId)) → option_map (λ (stored : StoredHead). stored.ctors) o ≡ Some rows → (stored : StoredHead) × (o ≡ Some stored)
  stored_there None rows e = absurd (none-some rows e)
  stored_there (Some stored) rows e = (stored, refl)

  pub rows_long : (h : ℕ) (head : Head) (rows : List (List ExprId)) → slice_get d.heads h ≡ Some head → option_map (λ (stored : StoredHead). stored.ctors) (slice_get g.heads h) ≡ Some rows → length rows ≡ length head.ctors
  rows_long h head rows at is =
      let stored = stored_there (slice_get g.heads h) rows is in
      AllZip-one_length (StandFor stored.0.template) rows head.ctors (tells h head stored.0.template rows at (ap (option_map (λ (x : StoredHead). x.template)) stored.1) is)

  pub row_stands : (h i : ℕ) (head : Head) (template : List Node) (rows : List (List ExprId)) (row : List ExprId) (sorts : List Expression) → slice_get d.heads h ≡ Some head → option_map (λ (stored : StoredHead). stored.template) (slice_get g.heads h) ≡ Some template → option_map (λ (stored : StoredHead). stored.ctors) (slice_get g.heads h) ≡ Some rows → slice_get rows i ≡ Some row → slice_get head.ctors i ≡ Some sorts → StandFor template row sorts
  row_stands h i head template rows row sorts at template_is rows_are at_row at_sorts = AllZip-at (StandFor template) rows head.ctors i row sorts (tells h head template rows at template_is rows_are) at_row at_sorts
