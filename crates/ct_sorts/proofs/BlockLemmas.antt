-- Declarations with the sorts and generics of a block that is accepted, before its sorts come into the list.
use Rattle.std.proofs.Common.{◌≡◌, ℕ, zero, suc, ◌+◌, ◌-◌, ◌<◌, ◌≤◌, ◌⊎◌, ◌==◌, ◌||◌, Bool, true, false, if◌then◌else◌, List, [], ◌∷◌, ◌++◌, length, map, drop, slice_get, Option, Some, None, Ok, refl, sym, ◌∙◌, ap, ap₂, subst, subst₂, inl, inr, ⊎_elim, arith, length-append, lt_of_not-le}
use Rattle.std.specs.List.{AllZip, flat_map, list_any}
use Rattle.std.proofs.lemmas.List.{append_assoc, length-map, map-append, take-append-le, drop-append-le}
use Rattle.std.proofs.lemmas.List.Concat.{flat_map-append}
use Rattle.std.proofs.lemmas.Option.{none-some, same_Some, slice_get_within}
use Rattle.ct_lemmas.proofs.Lists.{slice_get-append_after, slice_get-append_cases, slice_get-append_left, slice_get-there}
use Rattle.ct_generics.specs.declared.kind.Kind.{Kind as HeadKind}
use Rattle.ct_generics.specs.declared.kind.Kind.TheVariants.{Data as OfData, Codata as OfCodata}
use Rattle.ct_generics.specs.declared.decl.CtorDecl.{CtorDecl}
use Rattle.ct_generics.specs.declared.decl.SortDecl.{SortDecl}
use Rattle.ct_generics.specs.Expression.{Expression, at_own_parameters}
use Rattle.ct_generics.specs.Declarations.{Head, Synonym, IsExpression, IsOfKind, head_at}
use Rattle.ct_generics.specs.Founded.{IsFounded as IsFoundedHead, other}
use Rattle.ct_generics.specs.Refusals.{IsFirstCause}
use Rattle.ct_generics.specs.Uniform.{AreUniform}
use Rattle.ct_generics.specs.Mixed.{IsMixed}
use Rattle.ct_generics.specs.Block.{SomeOwn, IsTooLarge, heads_in, with_heads, IsBlockRefusal as IsRefusalOfHeads, IsShapeRefusal}
use Rattle.ct_generics.specs.WellFormed.{HaveExpressions, IsWellFormed}
use Rattle.ct_sorts.specs.declared.ids.Kind.{Kind}
use Rattle.ct_sorts.specs.declared.ids.Kind.TheVariants.{Data, Codata}
use Rattle.ct_sorts.specs.declared.spelling.Spelling.{Spelling}
use Rattle.ct_sorts.specs.Availability.{IsListed, IsUnavailable, IsUnavailableSort, IsUnfit, HasRefused}
use Rattle.ct_sorts.specs.Block.{block_ctors, block_names, block_spellings, ctor_symbols, has_no_constructor, spelling, with_own, HasNameTaken}
use Rattle.ct_sorts.specs.Consistent.{AreAvailable, AreFit, IsConsistent}
use Rattle.ct_sorts.specs.Declarations.{Declarations, Function, declared_names, symbol_names, head_symbols, spelled, function_names, definition_names, start, most_sorts, most_ctors, most_sels}
use Rattle.ct_sorts.specs.Heads.{AreHeads, FitsSpelling, NamesEach}
use Rattle.ct_sorts.specs.Kinds.{head_kind}
use Rattle.ct_sorts.specs.Limits.{generic_count, generic_ctors, generic_sels, sort_count, ctor_count, sel_count, room_in, IsOverLimits}
use Rattle.ct_sorts.specs.Lookup.{AreDistinct}
use Rattle.ct_sorts.specs.Made.{shapes_of}
use Rattle.ct_sorts.specs.Origins.{AreOrigins}
use Rattle.ct_sorts.specs.Room.{decl_fields}
use Rattle.ct_sorts.specs.Same.{sort_among}
use Rattle.ct_sorts.specs.Made.{new_sorts, new_ctors, new_sels}
use Rattle.ct_sorts.specs.Shapes.{SortShape, all_ctors}
use Rattle.ct_sorts.proofs.AdmitLemmas.{IsUnavailable-left}
use Rattle.ct_sorts.proofs.BaseLemmas.{IsBase, base_of}
use Rattle.ct_sorts.proofs.ConsistentLemmas.{IsFounded-same, begins, each-append}
use Rattle.ct_sorts.proofs.Lists.{slice_get-drop}
use Rattle.ct_sorts.proofs.LookupLemmas.{IsListed-either, IsListed-left, IsListed-right}
use Rattle.ct_sorts.proofs.MoreHeadsLemmas.{field_sorts_same, shapes_same}
use Rattle.ct_sorts.proofs.OwnLemmas.{IsHeadOf, distinct_after, distinct_swapped, fit_after, generic_count-append, generic_count-le, generic_ctors-append, generic_ctors-le, generic_sels-append, generic_sels-le, heads_of_block, names_of_own, own_long, spelled_block}
use Rattle.ct_sorts.proofs.WordLemmas.{symbols_begin}

-- what is not above a number is at most it
pub not_above : (n m : ℕ) → (n < m → ⊥) → m ≤ n
not_above n m h = omega (arith, lt_of_not-le h)

-- a cause that is no refusal does not apply, and no later one does
no_cause : (number : ℕ) (cause : Type 0) (later : ℕ → Type 0) → ((n : ℕ) → IsFirstCause number cause later n → ⊥) → (cause → ⊥) × ((n : ℕ) → later n → ⊥)
no_cause number cause later none = let first : cause → ⊥ = λ h. none number (inl (refl, h)) in (first, λ n h. none n (inr (first, h)))

-- the names that are listed may be declared
fit_listed : (xs : List (List ℕ)) → AreFit xs → (name : List ℕ) → IsListed xs name → IsUnfit name → ⊥
fit_listed xs fit name at = fit at.0 name at.1

-- a block that is accepted: what it declares, and that nothing refuses it
pub record IsAccepted (d : Declarations) (kind : Kind) (block : List SortDecl) (own : List Head) : Type 0 where
  pub kinds : (kind ≡ Data) ⊎ (kind ≡ Codata)
  pub heads : heads_in d.declared (head_kind kind) block ≡ Ok own
  pub refused : (n : ℕ) → IsRefusalOfHeads d.declared (head_kind kind) block n → ⊥
  pub free : HasNameTaken d block → ⊥
  pub built : has_no_constructor block ≡ true → ⊥
  pub sorts_fit : length block ≤ (room_in d).sorts
  pub ctors_fit : length (block_ctors block) ≤ (room_in d).ctors
  pub sels_fit : length (decl_fields (block_ctors block)) ≤ (room_in d).sels

or_left : (a b : Bool) → a ≡ true → (a || b) ≡ true
or_left a b e = rw e refl

or_right : (a b : Bool) → b ≡ true → (a || b) ≡ true
or_right true b e = refl
or_right false b e = e

-- there are constructors where it is not so that there are none
some_ctors : (ctors : List CtorDecl) → ((length ctors == 0) ≡ true → ⊥) → 0 < length (map spelling ctors)
some_ctors [] empty = absurd (empty refl)
some_ctors (c ∷ ctors) empty = omega arith

-- the names of the constructors of a sort or generic of the block fit it
fits_kind : (k : Kind) → (k ≡ Data) ⊎ (k ≡ Codata) → (n : ℕ) (head : Head) → head.kind ≡ head_kind k → (ctors : List Spelling) → 0 < length ctors → AllZip NamesEach ctors head.ctors → FitsSpelling n head.kind head.ctors ctors
fits_kind k (inl e) n head is ctors built all = subst (λ (x : HeadKind). FitsSpelling n x head.ctors ctors) (sym (is ∙ ap head_kind e)) (built, all)
fits_kind k (inr e) n head is ctors built all = subst (λ (x : HeadKind). FitsSpelling n x head.ctors ctors) (sym (is ∙ ap head_kind e)) (built, all)

fits_own : (k : Kind) → (k ≡ Data) ⊎ (k ≡ Codata) → (block : List SortDecl) (own : List Head) → AllZip (IsHeadOf (head_kind k)) block own → (has_no_constructor block ≡ true → ⊥) → (n j : ℕ) (head : Head) (ctors : List Spelling) → slice_get own j ≡ Some head → slice_get (block_spellings block) j ≡ Some ctors → FitsSpelling n head.kind head.ctors ctors
fits_own k kinds [] [] all built n j head ctors at names = absurd (none-some _ at)
fits_own k kinds [] (h ∷ own) all built n j head ctors at names = absurd all
fits_own k kinds (s ∷ block) [] all built n j head ctors at names = absurd all
fits_own k kinds (s ∷ block) (h ∷ own) all built n zero head ctors at names =
    subst₂ (λ (x : Head) (y : List Spelling). FitsSpelling n x.kind x.ctors y) (same_Some _ _ at) (same_Some _ _ names)
    (fits_kind k kinds n h all.0.kind_is (map spelling s.ctors) (some_ctors s.ctors (λ e. built (or_left (length s.ctors == 0) (has_no_constructor block) e))) all.0.named_each)
fits_own k kinds (s ∷ block) (h ∷ own) all built n (suc j) head ctors at names =
    fits_own k kinds block own all.1 (λ e. built (or_right (length s.ctors == 0) (has_no_constructor block) e)) n j head ctors at names

module _ (d : Declarations) (kind : Kind) (block : List SortDecl) (own : List Head) (c : IsConsistent d) (a : IsAccepted d kind block own) where
  pub zipped : AllZip (IsHeadOf (head_kind kind)) block own
  zipped = heads_of_block d.declared (head_kind kind) block own a.heads

  pub sorts_under : sort_count d ≤ most_sorts
  sorts_under = not_above most_sorts (sort_count d) (λ h. c.within (inl h))

  pub ctors_under : ctor_count d ≤ most_ctors
  ctors_under = not_above most_ctors (ctor_count d) (λ h. c.within (inr (inl h)))

  pub sels_under : sel_count d ≤ most_sels
  sels_under = not_above most_sels (sel_count d) (λ h. c.within (inr (inr h)))

  not_over : IsOverLimits (with_own d own (block_spellings block)) → ⊥
  not_over (inl h) = omega (arith, h, a.sorts_fit, sorts_under, generic_count-append d.declared.heads own, generic_count-le own, own_long (head_kind kind) block own zipped)
  not_over (inr (inl h)) = omega (arith, h, a.ctors_fit, ctors_under, generic_ctors-append d.declared.heads own d.spellings (block_spellings block) (sym c.heads.one_each), generic_ctors-le own block)
  not_over (inr (inr h)) = omega (arith, h, a.sels_fit, sels_under, generic_sels-append d.declared.heads own d.spellings (block_spellings block) (sym c.heads.one_each), generic_sels-le own block)

  -- ---- names

  no_sort_taken : HasRefused IsUnavailableSort (declared_names d) (block_names block) → ⊥
  no_sort_taken h = a.free (inl h)

  no_symbol_taken : HasRefused IsUnavailable (symbol_names d) (ctor_symbols (block_ctors block)) → ⊥
  no_symbol_taken h = a.free (inr h)

  names_are : (map (λ (h : Head). h.name) d.declared.heads ++ block_names block) ++ map (λ (s : Synonym). s.name) d.declared.synonyms ≡ declared_names (with_own d own (block_spellings block))
  names_are =
      ap (λ ns. ns ++ map (λ (s : Synonym). s.name) d.declared.synonyms)
      (ap (λ ns. map (λ (h : Head). h.name) d.declared.heads ++ ns) (sym (names_of_own (head_kind kind) block own zipped)) ∙ sym (map-append (λ (h : Head). h.name) d.declared.heads own))

  names_distinct : AreDistinct (declared_names (with_own d own (block_spellings block)))
  names_distinct =
      subst AreDistinct names_are
      (distinct_swapped (map (λ (h : Head). h.name) d.declared.heads) (map (λ (s : Synonym). s.name) d.declared.synonyms) (block_names block)
      (distinct_after IsUnavailableSort (λ declared name h. inl h) (declared_names d) (block_names block) c.names_distinct no_sort_taken))

  name_fits : (i : ℕ) (name : List ℕ) → slice_get (block_names block) i ≡ Some name → IsUnfit name → ⊥
  name_fits = fit_after IsUnavailableSort IsUnfit (λ declared name h. inr h) (declared_names d) (block_names block) no_sort_taken

  fit : AreFit (declared_names (with_own d own (block_spellings block)))
  fit i name at =
      let hs = map (λ (h : Head). h.name) d.declared.heads in
      let ss = map (λ (s : Synonym). s.name) d.declared.synonyms in
      let listed : IsListed ((hs ++ block_names block) ++ ss) name = (i, subst (λ xs. slice_get xs i ≡ Some name) (sym names_are) at) in
      ⊎_elim
      (λ l. ⊎_elim (λ h. fit_listed (declared_names d) c.fit name (IsListed-left hs ss name h)) (λ o. name_fits o.0 name o.1) (IsListed-either hs (block_names block) name l))
      (λ s. fit_listed (declared_names d) c.fit name (IsListed-right hs ss name s))
      (IsListed-either (hs ++ block_names block) ss name listed)

  symbols_are : head_symbols (d.spellings ++ block_spellings block) ≡ head_symbols d.spellings ++ ctor_symbols (block_ctors block)
  symbols_are = flat_map-append spelled d.spellings (block_spellings block) ∙ ap (λ ns. head_symbols d.spellings ++ ns) (spelled_block block)

  distinct : AreDistinct (symbol_names (with_own d own (block_spellings block)))
  distinct =
      let others = function_names d ++ definition_names d in
      subst AreDistinct (ap (λ ns. ns ++ others) (sym symbols_are))
      (distinct_swapped (head_symbols d.spellings) others (ctor_symbols (block_ctors block)) (distinct_after IsUnavailable (λ declared name h. inl h) (symbol_names d) (ctor_symbols (block_ctors block)) c.distinct no_symbol_taken))

  symbols_available : AreAvailable (drop 2 (head_symbols (d.spellings ++ block_spellings block)))
  symbols_available =
      let two : 2 ≤ length (head_symbols d.spellings) = omega (arith, ap length (symbols_begin d (base_of d c))) in
      subst AreAvailable (sym (ap (drop 2) symbols_are ∙ drop-append-le 2 (head_symbols d.spellings) (ctor_symbols (block_ctors block)) two))
      (each-append (λ _ name. IsUnavailable [] name → ⊥) (drop 2 (head_symbols d.spellings)) (ctor_symbols (block_ctors block)) c.symbols_available
      (fit_after IsUnavailable (IsUnavailable []) (λ declared name h. IsUnavailable-left [] declared name h) (symbol_names d) (ctor_symbols (block_ctors block)) no_symbol_taken))

  -- ---- sorts and generics

  pub kind_is : (j : ℕ) (head : Head) → slice_get own j ≡ Some head → head.kind ≡ head_kind kind
  kind_is j head at = by block own zipped j at
    where
      by : (block : List SortDecl) (own : List Head) → AllZip (IsHeadOf (head_kind kind)) block own → (j : ℕ) → slice_get own j ≡ Some head → head.kind ≡ head_kind kind
      by [] [] all j at = absurd (none-some _ at)
      by [] (h ∷ own) all j at = absurd all
      by (s ∷ block) [] all j at = absurd all
      by (s ∷ block) (h ∷ own) all zero at = subst (λ (x : Head). x.kind ≡ head_kind kind) (same_Some _ _ at) all.0.kind_is
      by (s ∷ block) (h ∷ own) all (suc j) at = by block own all.1 j at

  own_spelled : (n j : ℕ) (head : Head) (ctors : List Spelling) → slice_get own j ≡ Some head → slice_get (block_spellings block) j ≡ Some ctors → FitsSpelling n head.kind head.ctors ctors
  own_spelled n j head ctors at names = fits_own kind a.kinds block own zipped a.built n j head ctors at names

  heads_spelled : (h : ℕ) (head : Head) (ctors : List Spelling) → slice_get (d.declared.heads ++ own) h ≡ Some head → slice_get (d.spellings ++ block_spellings block) h ≡ Some ctors → FitsSpelling h head.kind head.ctors ctors
  heads_spelled h head ctors at names =
      ⊎_elim
      (λ old. ⊎_elim (λ named_old. c.heads.spelled h head ctors old named_old) (λ later. absurd (omega (arith, later.1, c.heads.one_each, slice_get_within d.declared.heads h head old))) (slice_get-append_cases d.spellings (block_spellings block) h ctors names))
      (λ new. ⊎_elim (λ named_old. absurd (omega (arith, new.1, c.heads.one_each, slice_get_within d.spellings h ctors named_old))) (λ later.
      let same : new.0 ≡ later.0 = omega (arith, new.1, later.1, c.heads.one_each) in
      own_spelled h new.0 head ctors new.2 (subst (λ k. slice_get (block_spellings block) k ≡ Some ctors) (sym same) later.2)) (slice_get-append_cases d.spellings (block_spellings block) h ctors names))
      (slice_get-append_cases d.declared.heads own h head at)

  -- none is not well founded
  module _ (founded_more : (params : ℕ) (e : Expression) → HaveExpressions d.declared.heads → IsExpression d.declared.heads params e → IsFoundedHead d.declared.heads e → IsFoundedHead (d.declared.heads ++ own) e) (own_closed : (h : ℕ) (head : Head) → slice_get d.declared.heads h ≡ Some head → IsExpression d.declared.heads head.params (at_own_parameters h head.params)) (head_of_own : (h params : ℕ) → head_at (d.declared.heads ++ own) (at_own_parameters h params) ≡ slice_get (d.declared.heads ++ own) h) where
    no_shape : (n : ℕ) → IsShapeRefusal (length d.declared.heads) (head_kind kind) (d.declared.heads ++ own) n → ⊥
    no_shape n shape = a.refused n (inr (own, a.heads, shape))

    no_unfounded : (head_kind kind ≡ OfData) × SomeOwn (length d.declared.heads) (d.declared.heads ++ own) (λ e. IsFoundedHead (d.declared.heads ++ own) e → ⊥) → ⊥
    no_unfounded =
        let uniform = no_cause _ _ _ no_shape in
        let large = no_cause _ _ _ uniform.1 in
        let mixed = no_cause _ _ _ large.1 in
        (no_cause _ _ _ mixed.1).0

    no_data : (h : ℕ) (head : Head) → slice_get (d.declared.heads ++ own) h ≡ Some head → head.kind ≡ OfCodata → IsOfKind (d.declared.heads ++ own) OfData (at_own_parameters h head.params) → ⊥
    no_data h head at is found =
        let same : found.0 ≡ head = same_Some _ _ (sym found.1 ∙ head_of_own h head.params ∙ at) in
        let kinds : OfCodata ≡ OfData = sym is ∙ ap (λ (x : Head). x.kind) (sym same) ∙ found.2 in
        cc

    heads_founded : SomeOwn 0 (d.declared.heads ++ own) (λ e. IsFoundedHead (d.declared.heads ++ own) e → ⊥) → ⊥
    heads_founded some =
        ⊎_elim
        (λ old. c.heads.founded (some.0, some.1, omega arith, old, λ f. some.4 (founded_more some.1.params (at_own_parameters some.0 some.1.params) c.heads.formed.heads (own_closed some.0 some.1 old) f)))
        (λ new. ⊎_elim
        (λ is_data. no_unfounded (ap head_kind is_data, (some.0, some.1, omega (arith, new.1), some.3, some.4)))
        (λ codata. some.4 (other (at_own_parameters some.0 some.1.params) (no_data some.0 some.1 some.3 (kind_is new.0 some.1 new.2 ∙ ap head_kind codata))))
        a.kinds)
        (slice_get-append_cases d.declared.heads own some.0 some.1 some.3)

    module _ (formed : IsWellFormed (with_heads d.declared own)) (more : (params : ℕ) (e : Expression) → IsExpression d.declared.heads params e → IsExpression (d.declared.heads ++ own) params e) where
      heads_are : AreHeads (with_own d own (block_spellings block))
      heads_are = record {
        one_each = omega (arith, length-append d.spellings (block_spellings block), length-append d.declared.heads own, c.heads.one_each, own_long (head_kind kind) block own zipped, length-map block (λ (s : SortDecl). map spelling s.ctors));
        spelled = heads_spelled;
        formed = formed;
        founded = heads_founded;
      }

      shapes_stay : shapes_of (with_own d own (block_spellings block)) (drop 1 d.origins) ≡ shapes_of d (drop 1 d.origins)
      shapes_stay =
          shapes_same d.declared.heads own d.spellings (block_spellings block) c.heads.one_each (drop 1 d.origins) (λ i e at. c.origins.sorts (1 + i) e (sym (slice_get-drop 1 d.origins i) ∙ at))

      origins_are : AreOrigins (with_own d own (block_spellings block))
      origins_are = record {
        one_each = c.origins.one_each;
        different = c.origins.different;
        sorts = λ s e at. more 0 e (c.origins.sorts s e at);
        arguments = c.origins.arguments;
        fields = λ e among k f at. c.origins.fields e among k f (subst (λ (xs : List Expression). slice_get xs k ≡ Some f) (field_sorts_same d.declared.heads own e (c.origins.sorts among.0 e among.1)) at);
        sorts_made = c.origins.sorts_made ∙ ap (new_sorts 2) (sym shapes_stay);
        ctors_made = c.origins.ctors_made ∙ ap (new_ctors 1 0) (sym shapes_stay);
        sels_made = c.origins.sels_made ∙ ap (λ (xs : List SortShape). new_sels (sort_among d.origins) 2 (all_ctors xs)) (sym shapes_stay);
      }

      -- the declarations with the sorts and generics of the block
      pub base_with_own : IsBase (with_own d own (block_spellings block))
      base_with_own = record {
        few = record { sorts = c.few.sorts; ctors = c.few.ctors; sels = c.few.sels; functions = c.few.functions; definitions = c.few.definitions };
        within = not_over;
        names_distinct = names_distinct;
        distinct = distinct;
        fit = fit;
        symbols_available = symbols_available;
        ctors_available = c.ctors_available;
        sels_available = c.sels_available;
        available = c.available;
        definitions_available = c.definitions_available;
        first_sort = c.first_sort;
        first_ctors = c.first_ctors;
        first_head = take-append-le 1 d.declared.heads own (begins 1 d.declared.heads start.declared.heads c.first_head refl) ∙ c.first_head;
        first_spelling = take-append-le 1 d.spellings (block_spellings block) (begins 1 d.spellings start.spellings c.first_spelling refl) ∙ c.first_spelling;
        first_origin = c.first_origin;
        all_ctors = c.all_ctors;
        ctor_sorts = c.ctor_sorts;
        kinds = c.kinds;
        all_sels = c.all_sels;
        sel_ctors = c.sel_ctors;
        sel_places = c.sel_places;
        fields = c.fields;
        over_sorts = c.over_sorts;
        definitions_over_sorts = c.definitions_over_sorts;
        heads = heads_are;
        origins = origins_are;
        founded = λ s within. IsFounded-same d (with_own d own (block_spellings block)) refl refl refl s (c.founded s within);
      }
