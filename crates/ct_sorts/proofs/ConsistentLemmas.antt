-- What holds of a signature holds after more declarations, and after a cut.
use Rattle.std.proofs.Common.{◌≡◌, ℕ, zero, suc, ◌+◌, ◌<◌, ◌≤◌, ◌⊎◌, ◌==◌, Bool, true, false, if◌then◌else◌, Option, None, subst₂, List, [], ◌∷◌, ◌++◌, length, map, take, drop, replicate, get_or, slice_get, Some, option_map, All, refl, sym, ◌∙◌, ap, subst, inl, inr, ⊎_elim, arith, length-append}
use Rattle.std.proofs.Math.Nat.{zero-add}
use Rattle.std.proofs.lemmas.List.{map-append, append-nil, append_assoc, take-map, length-map, length-take, length-take-le, take-append-le, take-take, take-append-drop}
use Rattle.std.proofs.lemmas.List.Concat.{flat_map-append}
use Rattle.std.proofs.lemmas.List.Elements.{All-weaker}
use Rattle.std.proofs.lemmas.List.Folds.{flat_map-map}
use Rattle.std.proofs.lemmas.List.FromFn.{length-map-range_with_len}
use Rattle.std.proofs.lemmas.Option.{none-some, same_Some, slice_get-map, slice_get-get_or, slice_get_within}
use Rattle.std.specs.List.{flat_map}
use Rattle.ct_lemmas.proofs.Lists.{slice_get-append_cases, slice_get-append_left, slice_get-flat_map}
use Rattle.ct_lemmas.proofs.Prefixes.{slice_get-take}
use Rattle.ct_sorts.specs.declared.ids.SortId.{SortId}
use Rattle.ct_sorts.specs.declared.ids.CtorId.{CtorId}
use Rattle.ct_sorts.specs.declared.ids.SelId.{SelId}
use Rattle.ct_sorts.specs.Availability.{IsListed, IsUnavailable, IsUnfit}
use Rattle.ct_sorts.specs.Declarations.{Declarations, Sort, Constructor, Selector, Function, IsSort, IsConstructor, IsSelector, bool, start, declared_names, symbol_names, head_symbols, spelled, ctor_names, sel_names, function_names, definition_names, ctor_ids, sel_ids, most_functions, most_definitions, with_function, with_definition}
use Rattle.ct_sorts.specs.Lookup.{AreDistinct}
use Rattle.ct_sorts.specs.declared.spelling.Spelling.{Spelling}
use Rattle.ct_generics.specs.Block.{SomeOwn}
use Rattle.ct_generics.specs.Expression.{Expression, named}
use Rattle.ct_generics.specs.Declarations.{Declared, Head, Synonym, IsExpression}
use Rattle.ct_generics.specs.Founded.{IsFounded as IsFoundedHead}
use Rattle.ct_generics.specs.WellFormed.{IsWellFormed}
use Rattle.ct_sorts.specs.Heads.{AreHeads, FitsSpelling}
use Rattle.ct_sorts.specs.Origins.{AreOrigins}
use Rattle.ct_sorts.specs.Limits.{generic_count, generic_ctors, generic_sels, IsOverLimits}
use Rattle.ct_sorts.specs.Founded.{IsFounded}
use Rattle.ct_sorts.specs.Consistent.{AreFew, AreAvailable, AreFit, IsOverSorts, AreOverSorts, owners, indices, FitsKind, IsConsistent}
use Rattle.ct_sorts.proofs.Lists.{from_part, slice_get-range, range-append0, slice_get-drop, owners-append, owners-take, indices-take}
use Rattle.ct_sorts.specs.Lengths.{Lengths}
use Rattle.ct_sorts.specs.Marks.{CanCut, cut}
use Rattle.ct_sorts.proofs.Counts.{occurrences, occurrences-append, occurrences-listed, listed-occurrences, occurrences-take, occurrences-unlisted, one_if_same, one_if_same-cases, one_if_same-le, AreDistinct-once, AreOnce-distinct, AreDistinct-middle}
use Rattle.ct_sorts.proofs.NumberedLemmas.{slice_get-push, AreDistinct-take}
use Rattle.ct_sorts.proofs.AdmitLemmas.{IsUnavailable-left}
use Rattle.ct_sorts.proofs.FoundedLemmas.{IsFounded-cut, ctor_within, sel_within}

-- what holds of each element of two lists holds of both together
pub each-append : {X : Type 0} (P : ℕ → X → Type 0) (xs ys : List X) → ((i : ℕ) (x : X) → slice_get xs i ≡ Some x → P i x) → ((i : ℕ) (x : X) → slice_get ys i ≡ Some x → P (length xs + i) x) → (i : ℕ) (x : X) → slice_get (xs ++ ys) i ≡ Some x → P i x
each-append P xs ys left right i x at = ⊎_elim (left i x) (λ h. subst (λ k. P k x) (sym h.1) (right h.0 x h.2)) (slice_get-append_cases xs ys i x at)

-- a list that begins with two elements has two
pub begins : {X : Type 0} (n : ℕ) (xs ys : List X) → take n xs ≡ ys → length ys ≡ n → n ≤ length xs
begins n xs ys e whole = omega (arith, length-take n xs, ap length e)

-- a function over sorts that are there stays one
pub IsOverSorts-more : (n m : ℕ) → n ≤ m → (args : List SortId) → All (λ s. s.0 < n) args → All (λ s. s.0 < m) args
IsOverSorts-more n m le args all = All-weaker (λ (s : SortId). s.0 < n) (λ s. s.0 < m) (λ s h. omega arith) args all

-- a new name anywhere among names that are there once
pub once-between : (before after : List (List ℕ)) (name : List ℕ) → AreDistinct (before ++ after) → (IsListed (before ++ after) name → ⊥) → AreDistinct (before ++ (name ∷ after))
once-between before after name distinct fresh = AreDistinct-once (before ++ (name ∷ after)) once
  where
    once : (text : List ℕ) → occurrences text (before ++ (name ∷ after)) ≤ 1
    once text = by (occurrences text (before ++ after)) (one_if_same text name) refl refl
      where
        whole : occurrences text (before ++ (name ∷ after)) ≡ occurrences text (before ++ after) + one_if_same text name
        whole = omega (arith, occurrences-append text before (name ∷ after), occurrences-append text before after)

        by : (n m : ℕ) → occurrences text (before ++ after) ≡ n → one_if_same text name ≡ m → occurrences text (before ++ (name ∷ after)) ≤ 1
        by n zero e f = omega (arith, whole, AreOnce-distinct (before ++ after) distinct text)
        by n (suc m) e f =
            let same : text ≡ name = one_if_same-cases text name (omega arith) in
            let none_there : occurrences text (before ++ after) ≡ 0 = occurrences-unlisted (before ++ after) text (λ h. fresh (subst (IsListed (before ++ after)) same h)) in
            omega (arith, whole, one_if_same-le text name)

-- the same closed sets where sorts, constructors and selectors are the same
pub IsFounded-same : (d e : Declarations) → e.sorts ≡ d.sorts → e.ctors ≡ d.ctors → e.sels ≡ d.sels → (s : ℕ) → IsFounded d s → IsFounded e s
IsFounded-same d e sorts ctors sels s founded set closed =
    founded set (record {
      others = λ s sort at other. closed.others s sort (ap (λ xs. slice_get xs s) sorts ∙ at) other;
      built = λ s sort index c ctor at_s at_c at_ctor has. closed.built s sort index c ctor (ap (λ xs. slice_get xs s) sorts ∙ at_s) at_c (ap (λ xs. slice_get xs c.0) ctors ∙ at_ctor)
          (λ index' id sel at_id at_sel. has index' id sel at_id (sym (ap (λ xs. slice_get xs id.0) sels) ∙ at_sel));
    })

-- what holds of sorts, generics and synonyms holds where these are the same
pub AreHeads-same : (d e : Declarations) → e.declared ≡ d.declared → e.spellings ≡ d.spellings → AreHeads d → AreHeads e
AreHeads-same d e declared spellings h = record {
  one_each = subst₂ (λ (x : Declared) (y : List (List Spelling)). length y ≡ length x.heads) (sym declared) (sym spellings) h.one_each;
  spelled = subst₂ (λ (x : Declared) (y : List (List Spelling)). (h : ℕ) (head : Head) (ctors : List Spelling) → slice_get x.heads h ≡ Some head → slice_get y h ≡ Some ctors → FitsSpelling h head.kind head.ctors ctors) (sym declared) (sym spellings) h.spelled;
  formed = subst IsWellFormed (sym declared) h.formed;
  founded = subst (λ (x : Declared). SomeOwn 0 x.heads (λ e. IsFoundedHead x.heads e → ⊥) → ⊥) (sym declared) h.founded;
}

-- and what holds of the sorts in the list, where these and what they are made of are the same
abbrev rebuilt : List Sort → List Constructor → List Selector → Declared → List (List Spelling) → List Expression → Declarations
rebuilt sorts ctors sels declared spellings origins = record { sorts = sorts; ctors = ctors; sels = sels; functions = []; definitions = []; declared = declared; spellings = spellings; origins = origins }

AreOrigins-parts : (d : Declarations) → AreOrigins d → AreOrigins (rebuilt d.sorts d.ctors d.sels d.declared d.spellings d.origins)
AreOrigins-parts d h = record {
  one_each = h.one_each;
  different = h.different;
  sorts = h.sorts;
  arguments = h.arguments;
  fields = h.fields;
  sorts_made = h.sorts_made;
  ctors_made = h.ctors_made;
  sels_made = h.sels_made;
}

AreOrigins-whole : (d : Declarations) → AreOrigins (rebuilt d.sorts d.ctors d.sels d.declared d.spellings d.origins) → AreOrigins d
AreOrigins-whole d h = record {
  one_each = h.one_each;
  different = h.different;
  sorts = h.sorts;
  arguments = h.arguments;
  fields = h.fields;
  sorts_made = h.sorts_made;
  ctors_made = h.ctors_made;
  sels_made = h.sels_made;
}

pub AreOrigins-same : (d e : Declarations) → e.sorts ≡ d.sorts → e.ctors ≡ d.ctors → e.sels ≡ d.sels → e.declared ≡ d.declared → e.spellings ≡ d.spellings → e.origins ≡ d.origins → AreOrigins d → AreOrigins e
AreOrigins-same d e sorts ctors sels declared spellings origins h =
    AreOrigins-whole e (subst AreOrigins (sym (λ j. rebuilt (sorts j) (ctors j) (sels j) (declared j) (spellings j) (origins j))) (AreOrigins-parts d h))

-- one more function with a name that may be declared, below the limit, over sorts that are there
pub IsConsistent-with_function : (d : Declarations) (f : Function) → IsConsistent d → (IsUnavailable (symbol_names d) f.name → ⊥) → length d.functions < most_functions → IsOverSorts d f → IsConsistent (with_function d f)
IsConsistent-with_function d f c fresh room over =
    record {
      few = record { sorts = c.few.sorts; ctors = c.few.ctors; sels = c.few.sels; functions = omega (arith, length-append d.functions (f ∷ [])); definitions = c.few.definitions };
      within = c.within;
      names_distinct = c.names_distinct;
      distinct = subst AreDistinct symbols (once-between before (definition_names d) f.name (subst AreDistinct around c.distinct) (λ h. fresh (inl (subst (λ xs. IsListed xs f.name) (sym around) h))));
      fit = c.fit;
      symbols_available = c.symbols_available;
      ctors_available = c.ctors_available;
      sels_available = c.sels_available;
      available = subst AreAvailable (sym (map-append (λ (g : Function). g.name) d.functions (f ∷ []))) (λ index name at. ⊎_elim (λ here. c.available index name here) (λ last. subst (λ t. IsUnavailable [] t → ⊥) (sym last.1) (λ h. fresh (IsUnavailable-left [] (symbol_names d) f.name h))) (slice_get-push (function_names d) f.name index name at));
      definitions_available = c.definitions_available;
      first_sort = c.first_sort;
      first_ctors = c.first_ctors;
      first_head = c.first_head;
      first_spelling = c.first_spelling;
      first_origin = c.first_origin;
      all_ctors = c.all_ctors;
      ctor_sorts = c.ctor_sorts;
      kinds = c.kinds;
      all_sels = c.all_sels;
      sel_ctors = c.sel_ctors;
      sel_places = c.sel_places;
      fields = c.fields;
      over_sorts = λ i declared at. ⊎_elim (λ here. c.over_sorts i declared here) (λ last. subst (IsOverSorts d) (sym last.1) over) (slice_get-push d.functions f i declared at);
      definitions_over_sorts = c.definitions_over_sorts;
      heads = AreHeads-same d (with_function d f) refl refl c.heads;
      origins = AreOrigins-same d (with_function d f) refl refl refl refl refl refl c.origins;
      plain = c.plain;
      founded = λ s within. IsFounded-same d (with_function d f) refl refl refl s (c.founded s within);
    }
  where
    before : List (List ℕ)
    before = head_symbols d.spellings ++ function_names d

    around : symbol_names d ≡ before ++ definition_names d
    around = sym (append_assoc (head_symbols d.spellings) (function_names d) (definition_names d))

    symbols : before ++ (f.name ∷ definition_names d) ≡ symbol_names (with_function d f)
    symbols =
        append_assoc (head_symbols d.spellings) (function_names d) (f.name ∷ definition_names d)
        ∙ ap (λ (xs : List (List ℕ)). head_symbols d.spellings ++ xs) (sym (append_assoc (function_names d) (f.name ∷ []) (definition_names d)) ∙ ap (λ (xs : List (List ℕ)). xs ++ definition_names d) (sym (map-append (λ (g : Function). g.name) d.functions (f ∷ []))))

-- the same of one more definition
pub IsConsistent-with_definition : (d : Declarations) (f : Function) → IsConsistent d → (IsUnavailable (symbol_names d) f.name → ⊥) → length d.definitions < most_definitions → IsOverSorts d f → IsConsistent (with_definition d f)
IsConsistent-with_definition d f c fresh room over =
    record {
      few = record { sorts = c.few.sorts; ctors = c.few.ctors; sels = c.few.sels; functions = c.few.functions; definitions = omega (arith, length-append d.definitions (f ∷ [])) };
      within = c.within;
      names_distinct = c.names_distinct;
      distinct = subst AreDistinct symbols (once-between (symbol_names d) [] f.name (subst AreDistinct (sym (append-nil (symbol_names d))) c.distinct) (λ h. fresh (inl (subst (λ xs. IsListed xs f.name) (append-nil (symbol_names d)) h))));
      fit = c.fit;
      symbols_available = c.symbols_available;
      ctors_available = c.ctors_available;
      sels_available = c.sels_available;
      available = c.available;
      definitions_available = subst AreAvailable (sym (map-append (λ (g : Function). g.name) d.definitions (f ∷ []))) (λ index name at. ⊎_elim (λ here. c.definitions_available index name here) (λ last. subst (λ t. IsUnavailable [] t → ⊥) (sym last.1) (λ h. fresh (IsUnavailable-left [] (symbol_names d) f.name h))) (slice_get-push (definition_names d) f.name index name at));
      first_sort = c.first_sort;
      first_ctors = c.first_ctors;
      first_head = c.first_head;
      first_spelling = c.first_spelling;
      first_origin = c.first_origin;
      all_ctors = c.all_ctors;
      ctor_sorts = c.ctor_sorts;
      kinds = c.kinds;
      all_sels = c.all_sels;
      sel_ctors = c.sel_ctors;
      sel_places = c.sel_places;
      fields = c.fields;
      over_sorts = c.over_sorts;
      definitions_over_sorts = λ i declared at. ⊎_elim (λ here. c.definitions_over_sorts i declared here) (λ last. subst (IsOverSorts d) (sym last.1) over) (slice_get-push d.definitions f i declared at);
      heads = AreHeads-same d (with_definition d f) refl refl c.heads;
      origins = AreOrigins-same d (with_definition d f) refl refl refl refl refl refl c.origins;
      plain = c.plain;
      founded = λ s within. IsFounded-same d (with_definition d f) refl refl refl s (c.founded s within);
    }
  where
    symbols : symbol_names d ++ (f.name ∷ []) ≡ symbol_names (with_definition d f)
    symbols =
        append_assoc (head_symbols d.spellings) (function_names d ++ definition_names d) (f.name ∷ [])
        ∙ ap (λ (xs : List (List ℕ)). head_symbols d.spellings ++ xs) (append_assoc (function_names d) (definition_names d) (f.name ∷ []) ∙ ap (λ (xs : List (List ℕ)). function_names d ++ xs) (sym (map-append (λ (g : Function). g.name) d.definitions (f ∷ []))))

-- what is left counts for no more
generic_count-take : (n : ℕ) (heads : List Head) → generic_count (take n heads) ≤ generic_count heads
generic_count-take zero heads = omega arith
generic_count-take (suc n) [] = omega arith
generic_count-take (suc n) (head ∷ heads) = by (head.params == 0) (generic_count-take n heads)
  where
    by : (b : Bool) → generic_count (take n heads) ≤ generic_count heads → (if b then generic_count (take n heads) else 1 + generic_count (take n heads)) ≤ (if b then generic_count heads else 1 + generic_count heads)
    by true h = h
    by false h = omega (arith, h)

generic_ctors-take : (n m : ℕ) (heads : List Head) (spellings : List (List Spelling)) → generic_ctors (take n heads) (take m spellings) ≤ generic_ctors heads spellings
generic_ctors-take zero m heads spellings = omega arith
generic_ctors-take (suc n) m [] spellings = omega arith
generic_ctors-take (suc n) zero (head ∷ heads) spellings = omega arith
generic_ctors-take (suc n) (suc m) (head ∷ heads) [] = omega arith
generic_ctors-take (suc n) (suc m) (head ∷ heads) (ctors ∷ spellings) = omega (arith, generic_ctors-take n m heads spellings)

generic_sels-take : (n m : ℕ) (heads : List Head) (spellings : List (List Spelling)) → generic_sels (take n heads) (take m spellings) ≤ generic_sels heads spellings
generic_sels-take zero m heads spellings = omega arith
generic_sels-take (suc n) m [] spellings = omega arith
generic_sels-take (suc n) zero (head ∷ heads) spellings = omega arith
generic_sels-take (suc n) (suc m) (head ∷ heads) [] = omega arith
generic_sels-take (suc n) (suc m) (head ∷ heads) (ctors ∷ spellings) = omega (arith, generic_sels-take n m heads spellings)

over_cut : (d : Declarations) (m : Lengths) → IsOverLimits (cut d m) → IsOverLimits d
over_cut d m (inl h) = inl (omega (arith, h, length-take m.sorts d.sorts, generic_count-take m.heads d.declared.heads, length-take m.synonyms d.declared.synonyms))
over_cut d m (inr (inl h)) = inr (inl (omega (arith, h, length-take m.ctors d.ctors, generic_ctors-take m.heads m.spellings d.declared.heads d.spellings)))
over_cut d m (inr (inr h)) = inr (inr (omega (arith, h, length-take m.sels d.sels, generic_sels-take m.heads m.spellings d.declared.heads d.spellings)))

head_there : (found : Option Head) (n : ℕ) → option_map (λ (head : Head). head.params) found ≡ Some n → (head : Head) × (found ≡ Some head)
head_there None n e = absurd (none-some _ e)
head_there (Some head) n e = (head, refl)

-- a cut to a mark that splits nothing
pub IsConsistent-cut : (d : Declarations) (m : Lengths) → IsConsistent d → CanCut d m → 1 ≤ m.sorts → IsConsistent (cut d m)
IsConsistent-cut d m c can stays =
    record {
      few = record { sorts = omega (arith, length-take m.sorts d.sorts, c.few.sorts); ctors = omega (arith, length-take m.ctors d.ctors, c.few.ctors); sels = omega (arith, length-take m.sels d.sels, c.few.sels); functions = omega (arith, length-take m.functions d.functions, c.few.functions); definitions = omega (arith, length-take m.definitions d.definitions, c.few.definitions) };
      within = λ over. c.within (over_cut d m over);
      names_distinct = AreDistinct-once (declared_names (cut d m)) once_declared;
      distinct = AreDistinct-once (symbol_names (cut d m)) once;
      fit = λ i name at unfit. let found = declared_before name (i, at) in c.fit found.0 name found.1 unfit;
      symbols_available = λ i name at. c.symbols_available i name (slice_get-drop 2 (head_symbols d.spellings) i ∙ subst (λ xs. slice_get xs (2 + i) ≡ Some name) (sym symbols_split) (slice_get-append_left (head_symbols (take m.spellings d.spellings)) (head_symbols (drop m.spellings d.spellings)) (2 + i) name (sym (slice_get-drop 2 (head_symbols (take m.spellings d.spellings)) i) ∙ at)));
      ctors_available = λ i name at. c.ctors_available i name (slice_get-drop 2 (ctor_names d) i ∙ slice_get-take m.ctors (ctor_names d) (2 + i) name (subst (λ xs. slice_get xs (2 + i) ≡ Some name) (sym (take-map (λ (t : Constructor). t.name) m.ctors d.ctors)) (sym (slice_get-drop 2 (ctor_names (cut d m)) i) ∙ at)));
      sels_available = subst AreAvailable (take-map (λ (s : Selector). s.name) m.sels d.sels) (λ i name at. c.sels_available i name (slice_get-take m.sels (sel_names d) i name at));
      available = subst AreAvailable (take-map (λ (f : Function). f.name) m.functions d.functions) (λ i name at. c.available i name (slice_get-take m.functions (function_names d) i name at));
      definitions_available = subst AreAvailable (take-map (λ (f : Function). f.name) m.definitions d.definitions) (λ i name at. c.definitions_available i name (slice_get-take m.definitions (definition_names d) i name at));
      first_sort = take-take 1 m.sorts d.sorts stays ∙ c.first_sort;
      first_ctors = take-take 2 m.ctors d.ctors two ∙ c.first_ctors;
      first_head = take-take 1 m.heads d.declared.heads one_head ∙ c.first_head;
      first_spelling = take-take 1 m.spellings d.spellings one_spelling ∙ c.first_spelling;
      first_origin = take-take 1 m.origins d.origins one_origin ∙ c.first_origin;
      all_ctors = can.whole_sorts ∙ ap (ctor_ids 0) (sym (length-take-le m.ctors d.ctors can.ctors_within));
      ctor_sorts = sym (take-map (λ (t : Constructor). t.sort.0) m.ctors d.ctors) ∙ ap (take m.ctors) c.ctor_sorts ∙ owners-take 0 m.sorts m.ctors (map (λ (s : Sort). s.ctors) d.sorts) sort_count ∙ ap (owners 0) (take-map (λ (s : Sort). s.ctors) m.sorts d.sorts);
      kinds = λ s sort at. c.kinds s sort (slice_get-take m.sorts d.sorts s sort at);
      all_sels = can.whole_ctors ∙ ap (sel_ids 0) (sym (length-take-le m.sels d.sels can.sels_within));
      sel_ctors = sym (take-map (λ (s : Selector). s.ctor.0) m.sels d.sels) ∙ ap (take m.sels) c.sel_ctors ∙ owners-take 0 m.ctors m.sels (map (λ (t : Constructor). t.sels) d.ctors) ctor_count ∙ ap (owners 0) (take-map (λ (t : Constructor). t.sels) m.ctors d.ctors);
      sel_places = sym (take-map (λ (s : Selector). s.place) m.sels d.sels) ∙ ap (take m.sels) c.sel_places ∙ indices-take m.ctors m.sels (map (λ (t : Constructor). t.sels) d.ctors) ctor_count ∙ ap indices (take-map (λ (t : Constructor). t.sels) m.ctors d.ctors);
      fields = can.fields;
      over_sorts = can.over_sorts;
      definitions_over_sorts = can.definitions_over_sorts;
      heads = can.heads;
      origins = can.origins;
      plain = can.plain;
      founded = λ s within. IsFounded-cut d m can s within (c.founded s (omega (arith, length-take m.sorts d.sorts)));
    }
  where
    sort_count : length (flat_map (λ g. g) (take m.sorts (map (λ (s : Sort). s.ctors) d.sorts))) ≡ m.ctors
    sort_count = ap (λ gs. length (flat_map (λ g. g) gs)) (take-map (λ (s : Sort). s.ctors) m.sorts d.sorts) ∙ ap length (flat_map-map (λ (g : List CtorId). g) (λ (s : Sort). s.ctors) (take m.sorts d.sorts)) ∙ ap length can.whole_sorts ∙ length-map-range_with_len _ 0 m.ctors

    ctor_count : length (flat_map (λ g. g) (take m.ctors (map (λ (t : Constructor). t.sels) d.ctors))) ≡ m.sels
    ctor_count = ap (λ gs. length (flat_map (λ g. g) gs)) (take-map (λ (t : Constructor). t.sels) m.ctors d.ctors) ∙ ap length (flat_map-map (λ (g : List SelId). g) (λ (t : Constructor). t.sels) (take m.ctors d.ctors)) ∙ ap length can.whole_ctors ∙ length-map-range_with_len _ 0 m.sels

    -- Bool is left, and so its constructors are
    two : 2 ≤ m.ctors
    two =
        let first : take 1 (take m.sorts d.sorts) ≡ start.sorts = take-take 1 m.sorts d.sorts stays ∙ c.first_sort in
        let at : slice_get (take m.sorts d.sorts) 0 ≡ Some bool = slice_get-take 1 (take m.sorts d.sorts) 0 bool (ap (λ xs. slice_get xs 0) first) in
        let id : CtorId = record { 0 = 1 } in
        let found = slice_get-flat_map (λ (s : Sort). s.ctors) (take m.sorts d.sorts) 0 1 bool id at refl in
        let row = slice_get-range (λ n. record { 0 = n }) 0 m.ctors found.0 id (subst (λ (ids : List CtorId). slice_get ids found.0 ≡ Some id) can.whole_sorts found.1) in
        let is : 1 ≡ 0 + found.0 = ap (λ (t : CtorId). t.0) row.1 in
        omega (arith, row.0)

    -- the sort that is left is an instance of a sort or generic that is left, which has its names
    one_origin : 1 ≤ m.origins
    one_origin = omega (arith, can.origins.one_each, length-take m.sorts d.sorts, length-take m.origins d.origins, begins 1 d.sorts start.sorts c.first_sort refl, stays)

    one_head : 1 ≤ m.heads
    one_head =
        let first : take 1 (take m.origins d.origins) ≡ start.origins = take-take 1 m.origins d.origins one_origin ∙ c.first_origin in
        let at : slice_get (take m.origins d.origins) 0 ≡ Some (named 0) = slice_get-take 1 (take m.origins d.origins) 0 (named 0) (ap (λ xs. slice_get xs 0) first) in
        let head = head_there (slice_get (take m.heads d.declared.heads) 0) 0 (can.origins.sorts 0 (named 0) at) in
        omega (arith, slice_get_within (take m.heads d.declared.heads) 0 head.0 head.1, length-take m.heads d.declared.heads)

    one_spelling : 1 ≤ m.spellings
    one_spelling = omega (arith, can.heads.one_each, length-take m.heads d.declared.heads, length-take m.spellings d.spellings, one_head, begins 1 d.declared.heads start.declared.heads c.first_head refl)

    symbols_split : head_symbols d.spellings ≡ head_symbols (take m.spellings d.spellings) ++ head_symbols (drop m.spellings d.spellings)
    symbols_split = ap head_symbols (sym (take-append-drop m.spellings d.spellings)) ∙ flat_map-append spelled (take m.spellings d.spellings) (drop m.spellings d.spellings)

    less_declared : (name : List ℕ) → occurrences name (declared_names (cut d m)) ≤ occurrences name (declared_names d)
    less_declared name =
        rw (← take-map (λ (h : Head). h.name) m.heads d.declared.heads, ← take-map (λ (s : Synonym). s.name) m.synonyms d.declared.synonyms)
        (omega (
          arith,
          occurrences-append name (map (λ (h : Head). h.name) d.declared.heads) (map (λ (s : Synonym). s.name) d.declared.synonyms),
          occurrences-append name (take m.heads (map (λ (h : Head). h.name) d.declared.heads)) (take m.synonyms (map (λ (s : Synonym). s.name) d.declared.synonyms)),
          occurrences-take name m.heads (map (λ (h : Head). h.name) d.declared.heads),
          occurrences-take name m.synonyms (map (λ (s : Synonym). s.name) d.declared.synonyms),
        ))

    declared_before : (name : List ℕ) → IsListed (declared_names (cut d m)) name → IsListed (declared_names d) name
    declared_before name h = listed-occurrences (declared_names d) name (omega (arith, occurrences-listed (declared_names (cut d m)) name h.0 h.1, less_declared name))

    once_declared : (name : List ℕ) → occurrences name (declared_names (cut d m)) ≤ 1
    once_declared name = omega (arith, less_declared name, AreOnce-distinct (declared_names d) c.names_distinct name)

    once : (name : List ℕ) → occurrences name (symbol_names (cut d m)) ≤ 1
    once name =
        rw (← take-map (λ (f : Function). f.name) m.functions d.functions, ← take-map (λ (f : Function). f.name) m.definitions d.definitions)
        (omega (
          arith,
          AreOnce-distinct (symbol_names d) c.distinct name,
          occurrences-append name (head_symbols d.spellings) (function_names d ++ definition_names d),
          occurrences-append name (function_names d) (definition_names d),
          ap (occurrences name) symbols_split,
          occurrences-append name (head_symbols (take m.spellings d.spellings)) (head_symbols (drop m.spellings d.spellings)),
          occurrences-append name (head_symbols (take m.spellings d.spellings)) (take m.functions (function_names d) ++ take m.definitions (definition_names d)),
          occurrences-append name (take m.functions (function_names d)) (take m.definitions (definition_names d)),
          occurrences-take name m.functions (function_names d),
          occurrences-take name m.definitions (definition_names d),
        ))

-- an owner is one of the groups
pub owner_within : {X : Type 0} (n : ℕ) (gs : List (List X)) (i k : ℕ) → slice_get (owners n gs) i ≡ Some k → k < n + length gs
owner_within n [] i k at = absurd (none-some _ at)
owner_within n (g ∷ gs) i k at =
    ⊎_elim (λ here. omega (arith, replicated (length g) n i k here)) (λ remaining. omega (arith, owner_within (n + 1) gs remaining.0 k remaining.2)) (slice_get-append_cases (replicate (length g) n) (owners (n + 1) gs) i k at)
  where
    replicated : (count n i k : ℕ) → slice_get (replicate count n) i ≡ Some k → k ≡ n
    replicated zero n i k at = absurd (none-some _ at)
    replicated (suc count) n zero k at = sym (same_Some _ _ at)
    replicated (suc count) n (suc i) k at = replicated count n i k at

-- the sort of a constructor is there
pub IsSort-ctor : (d : Declarations) → IsConsistent d → (c : ℕ) (sort : SortId) → option_map (λ t. t.sort) (slice_get d.ctors c) ≡ Some sort → IsSort d sort
IsSort-ctor d consistent c sort at =
    let whole = from_part (λ (t : Constructor). t.sort) d.ctors c sort at in
    let listed : slice_get (map (λ t. t.sort.0) d.ctors) c ≡ Some whole.0.sort.0 = slice_get-map (λ (t : Constructor). t.sort.0) d.ctors c ∙ ap (option_map (λ t. t.sort.0)) whole.1 in
    let within = owner_within 0 (map (λ s. s.ctors) d.sorts) c whole.0.sort.0 (subst (λ ns. slice_get ns c ≡ Some whole.0.sort.0) consistent.ctor_sorts listed) in
    subst (IsSort d) whole.2 (omega (arith, within, length-map d.sorts (λ (s : Sort). s.ctors)))

-- the constructor of a selector is there
pub IsConstructor-sel : (d : Declarations) → IsConsistent d → (s : ℕ) (c : CtorId) → option_map (λ t. t.ctor) (slice_get d.sels s) ≡ Some c → IsConstructor d c
IsConstructor-sel d consistent s c at =
    let whole = from_part (λ (t : Selector). t.ctor) d.sels s c at in
    let listed : slice_get (map (λ t. t.ctor.0) d.sels) s ≡ Some whole.0.ctor.0 = slice_get-map (λ (t : Selector). t.ctor.0) d.sels s ∙ ap (option_map (λ t. t.ctor.0)) whole.1 in
    let within = owner_within 0 (map (λ t. t.sels) d.ctors) s whole.0.ctor.0 (subst (λ ns. slice_get ns s ≡ Some whole.0.ctor.0) consistent.sel_ctors listed) in
    subst (IsConstructor d) whole.2 (omega (arith, within, length-map d.ctors (λ (t : Constructor). t.sels)))

-- the sort of a field is there
pub IsSort-sel : (d : Declarations) → IsConsistent d → (s : ℕ) (sort : SortId) → option_map (λ t. t.sort) (slice_get d.sels s) ≡ Some sort → IsSort d sort
IsSort-sel d consistent s sort at =
    let whole = from_part (λ (t : Selector). t.sort) d.sels s sort at in
    subst (IsSort d) whole.2 (consistent.fields s whole.0 whole.1)

-- the constructors of a sort are there
pub AreConstructors : (d : Declarations) → IsConsistent d → (s : ℕ) (ctors : List CtorId) → option_map (λ t. t.ctors) (slice_get d.sorts s) ≡ Some ctors → All (IsConstructor d) ctors
AreConstructors d consistent s ctors at k e within =
    let whole = from_part (λ (t : Sort). t.ctors) d.sorts s ctors at in
    ctor_within d consistent.all_ctors s whole.0 k (get_or ctors k e) whole.1 (ap (λ xs. slice_get xs k) whole.2 ∙ slice_get-get_or ctors k e within)

-- the selectors of a constructor are there
pub AreSelectors : (d : Declarations) → IsConsistent d → (c : ℕ) (sels : List SelId) → option_map (λ t. t.sels) (slice_get d.ctors c) ≡ Some sels → All (IsSelector d) sels
AreSelectors d consistent c sels at k e within =
    let whole = from_part (λ (t : Constructor). t.sels) d.ctors c sels at in
    sel_within d consistent.all_sels c whole.0 k (get_or sels k e) whole.1 (ap (λ xs. slice_get xs k) whole.2 ∙ slice_get-get_or sels k e within)

-- the sorts of a function's arguments and of its result are there
pub AreSorts-args : (d : Declarations) (functions : List Function) → AreOverSorts d functions → (f : ℕ) (args : List SortId) → option_map (λ t. t.args) (slice_get functions f) ≡ Some args → All (IsSort d) args
AreSorts-args d functions over f args at =
    let whole = from_part (λ (t : Function). t.args) functions f args at in
    subst (All (IsSort d)) whole.2 (over f whole.0 whole.1).0

pub IsSort-result : (d : Declarations) (functions : List Function) → AreOverSorts d functions → (f : ℕ) (sort : SortId) → option_map (λ t. t.result) (slice_get functions f) ≡ Some sort → IsSort d sort
IsSort-result d functions over f sort at =
    let whole = from_part (λ (t : Function). t.result) functions f sort at in
    subst (IsSort d) whole.2 (over f whole.0 whole.1).1

-- the names of functions differ
pub AreDistinct-functions : (d : Declarations) → IsConsistent d → AreDistinct (function_names d)
AreDistinct-functions d c =
    AreDistinct-middle (head_symbols d.spellings) (function_names d) (definition_names d) c.distinct
