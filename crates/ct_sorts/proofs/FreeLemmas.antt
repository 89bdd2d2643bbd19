-- Declarations with one uninterpreted sort more, with parameters or without, before it comes into the list of sorts.
use Rattle.std.proofs.Common.{◌≡◌, ℕ, zero, suc, ◌+◌, ◌<◌, ◌≤◌, ◌⊎◌, ◌==◌, Bool, true, false, if◌then◌else◌, List, [], ◌∷◌, ◌++◌, length, map, drop, slice_get, Option, Some, refl, sym, ◌∙◌, ap, subst, inl, inr, ⊎_elim, arith, length-append}
use Rattle.std.specs.List.{flat_map}
use Rattle.std.specs.Option.{option_and_then}
use Rattle.std.proofs.lemmas.List.{append_assoc, append-nil, map-append, take-append-le}
use Rattle.std.proofs.lemmas.List.Concat.{flat_map-append}
use Rattle.std.proofs.lemmas.Option.{none-some, same_Some, slice_get_within}
use Rattle.ct_lemmas.proofs.Lists.{slice_get-append_cases, slice_get-append_left}
use Rattle.ct_generics.specs.declared.kind.Kind.TheVariants.{Free as OfFree, Data as OfData}
use Rattle.ct_generics.specs.Block.{SomeOwn}
use Rattle.ct_generics.specs.Declarations.{Head, Synonym, IsExpression, IsOfKind, head_at}
use Rattle.ct_generics.specs.Expression.{Expression, applied, at_own_parameters, head_of, named, parameters, with_args}
use Rattle.ct_generics.specs.Founded.{IsFounded as IsFoundedHead, other}
use Rattle.ct_generics.specs.WellFormed.{HaveExpressions, IsWellFormed}
use Rattle.ct_sorts.specs.declared.spelling.Spelling.{Spelling}
use Rattle.ct_sorts.specs.Availability.{IsListed, IsUnavailableSort, IsUnfit}
use Rattle.ct_sorts.specs.Consistent.{AreAvailable, AreFit, IsConsistent}
use Rattle.ct_sorts.specs.Declarations.{Declarations, declared_names, symbol_names, head_symbols, spelled, function_names, definition_names, start, most_sorts, with_head}
use Rattle.ct_sorts.specs.Facts.{Facts}
use Rattle.ct_sorts.specs.Heads.{AreHeads, FitsSpelling}
use Rattle.ct_sorts.specs.Limits.{generic_count, generic_ctors, generic_sels, sort_count, IsOverLimits}
use Rattle.ct_sorts.specs.Lookup.{AreDistinct}
use Rattle.ct_sorts.specs.Made.{new_sorts, new_ctors, new_sels, shapes_of}
use Rattle.ct_sorts.specs.Origins.{AreOrigins}
use Rattle.ct_sorts.specs.Same.{sort_among}
use Rattle.ct_sorts.specs.Shapes.{SortShape, all_ctors}
use Rattle.ct_sorts.proofs.BaseLemmas.{IsBase}
use Rattle.ct_sorts.proofs.ConsistentLemmas.{IsFounded-same, begins, once-between}
use Rattle.ct_sorts.proofs.Lists.{slice_get-drop}
use Rattle.ct_sorts.proofs.LookupLemmas.{IsListed-right}
use Rattle.ct_sorts.proofs.MoreHeadsLemmas.{field_sorts_same, shapes_same}
use Rattle.ct_sorts.proofs.OwnLemmas.{generic_count-append, generic_count-le, generic_ctors-append, generic_sels-append}

-- a sort or generic of this name without constructors
abbrev pub free_head : List ℕ → ℕ → Head
free_head name params = record { name = name; kind = OfFree; params = params; ctors = [] }

-- arguments change no head
head_of_args : (args : List Expression) (e : Expression) → head_of (with_args e args) ≡ head_of e
head_of_args [] e = refl
head_of_args (a ∷ args) e = head_of_args args (applied e a)

-- what is at the end of a list
at_end : {X : Type 0} (x : X) (k : ℕ) (y : X) → slice_get (x ∷ []) k ≡ Some y → (k ≡ 0) × (x ≡ y)
at_end x zero y at = (refl, same_Some _ _ at)
at_end x (suc k) y at = absurd (none-some _ at)

module _ (facts : Facts) (d : Declarations) (name : List ℕ) (params : ℕ) (c : IsConsistent d) (free : IsUnavailableSort (declared_names d) name → ⊥) (room : sort_count d < most_sorts) where
  no_ctors : generic_ctors (free_head name params ∷ []) ([] ∷ []) ≡ 0
  no_ctors = by (params == 0)
    where
      by : (b : Bool) → (if b then 0 else 0) + 0 ≡ 0
      by true = refl
      by false = refl

  no_sels : generic_sels (free_head name params ∷ []) ([] ∷ []) ≡ 0
  no_sels = by (params == 0)
    where
      by : (b : Bool) → (if b then 0 else 0) + 0 ≡ 0
      by true = refl
      by false = refl

  not_over : IsOverLimits (with_head d (free_head name params) []) → ⊥
  not_over (inl h) = omega (arith, h, room, generic_count-append d.declared.heads (free_head name params ∷ []), generic_count-le (free_head name params ∷ []))
  not_over (inr (inl h)) = c.within (inr (inl (omega (arith, h, generic_ctors-append d.declared.heads (free_head name params ∷ []) d.spellings ([] ∷ []) (sym c.heads.one_each), no_ctors))))
  not_over (inr (inr h)) = c.within (inr (inr (omega (arith, h, generic_sels-append d.declared.heads (free_head name params ∷ []) d.spellings ([] ∷ []) (sym c.heads.one_each), no_sels))))

  names_are : map (λ (h : Head). h.name) d.declared.heads ++ (name ∷ map (λ (s : Synonym). s.name) d.declared.synonyms) ≡ declared_names (with_head d (free_head name params) [])
  names_are =
      sym (append_assoc (map (λ (h : Head). h.name) d.declared.heads) (name ∷ []) (map (λ (s : Synonym). s.name) d.declared.synonyms))
      ∙ ap (λ ns. ns ++ map (λ (s : Synonym). s.name) d.declared.synonyms) (sym (map-append (λ (h : Head). h.name) d.declared.heads (free_head name params ∷ [])))

  names_distinct : AreDistinct (declared_names (with_head d (free_head name params) []))
  names_distinct = subst AreDistinct names_are (once-between (map (λ (h : Head). h.name) d.declared.heads) (map (λ (s : Synonym). s.name) d.declared.synonyms) name c.names_distinct (λ listed. free (inl listed)))

  fit : AreFit (declared_names (with_head d (free_head name params) []))
  fit i text at unfit =
      let hs = map (λ (h : Head). h.name) d.declared.heads in
      let ss = map (λ (s : Synonym). s.name) d.declared.synonyms in
      let there = subst (λ xs. slice_get xs i ≡ Some text) (sym names_are) at in
      ⊎_elim
      (λ old. c.fit i text (slice_get-append_left hs ss i text old) unfit)
      (λ new. last new.0 new.2)
      (slice_get-append_cases hs (name ∷ ss) i text there)
    where
      last : (k : ℕ) → slice_get (name ∷ map (λ (s : Synonym). s.name) d.declared.synonyms) k ≡ Some text → ⊥
      last zero at_k = free (inr (subst IsUnfit (sym (same_Some _ _ at_k)) unfit))
      last (suc k) at_k =
          let listed = IsListed-right (map (λ (h : Head). h.name) d.declared.heads) (map (λ (s : Synonym). s.name) d.declared.synonyms) text (k, at_k) in
          c.fit listed.0 text listed.1 unfit

  symbols_are : head_symbols (d.spellings ++ [] ∷ []) ≡ head_symbols d.spellings
  symbols_are = flat_map-append spelled d.spellings ([] ∷ []) ∙ append-nil (head_symbols d.spellings)

  heads_spelled : (h : ℕ) (head : Head) (ctors : List Spelling) → slice_get (d.declared.heads ++ free_head name params ∷ []) h ≡ Some head → slice_get (d.spellings ++ [] ∷ []) h ≡ Some ctors → FitsSpelling h head.kind head.ctors ctors
  heads_spelled h head ctors at names =
      ⊎_elim
      (λ old. ⊎_elim (λ named_old. c.heads.spelled h head ctors old named_old) (λ later. absurd (omega (arith, later.1, c.heads.one_each, slice_get_within d.declared.heads h head old))) (slice_get-append_cases d.spellings ([] ∷ []) h ctors names))
      (λ new. ⊎_elim
      (λ named_old. absurd (omega (arith, new.1, c.heads.one_each, slice_get_within d.spellings h ctors named_old)))
      (λ later. subst (λ (x : Head). FitsSpelling h x.kind x.ctors ctors) (at_end (free_head name params) new.0 head new.2).1 (refl, sym (at_end [] later.0 ctors later.2).1))
      (slice_get-append_cases d.spellings ([] ∷ []) h ctors names))
      (slice_get-append_cases d.declared.heads (free_head name params ∷ []) h head at)

  formed : IsWellFormed (with_head d (free_head name params) []).declared
  formed = record {
    heads = λ h head at i row at_row k e at_e.
        ⊎_elim
        (λ old. facts.more d.declared.heads (free_head name params ∷ []) head.params e (c.heads.formed.heads h head old i row at_row k e at_e))
        (λ new. absurd (none-some _ (subst (λ (x : Head). slice_get x.ctors i ≡ Some row) (sym (at_end (free_head name params) new.0 head new.2).1) at_row)))
        (slice_get-append_cases d.declared.heads (free_head name params ∷ []) h head at);
    synonyms = λ n s at. facts.more d.declared.heads (free_head name params ∷ []) s.params s.body (c.heads.formed.synonyms n s at);
  }

  no_data : (h : ℕ) (head : Head) → slice_get (d.declared.heads ++ free_head name params ∷ []) h ≡ Some head → head.kind ≡ OfFree → IsOfKind (d.declared.heads ++ free_head name params ∷ []) OfData (at_own_parameters h head.params) → ⊥
  no_data h head at is found =
      let whole = ap (option_and_then (slice_get (d.declared.heads ++ free_head name params ∷ []))) (head_of_args (parameters head.params) (named h)) in
      let same : found.0 ≡ head = same_Some _ _ (sym found.1 ∙ whole ∙ at) in
      let kinds : OfFree ≡ OfData = sym is ∙ ap (λ (x : Head). x.kind) (sym same) ∙ found.2 in
      cc

  heads_founded : SomeOwn 0 (d.declared.heads ++ free_head name params ∷ []) (λ e. IsFoundedHead (d.declared.heads ++ free_head name params ∷ []) e → ⊥) → ⊥
  heads_founded some =
      ⊎_elim
      (λ old. c.heads.founded (some.0, some.1, omega arith, old, λ f. some.4 (facts.founded_more d.declared.heads (free_head name params ∷ []) some.1.params (at_own_parameters some.0 some.1.params) c.heads.formed.heads (facts.own d.declared.heads some.0 some.1 old) f)))
      (λ new. some.4 (other (at_own_parameters some.0 some.1.params) (no_data some.0 some.1 some.3 (ap (λ (x : Head). x.kind) (sym (at_end (free_head name params) new.0 some.1 new.2).1)))))
      (slice_get-append_cases d.declared.heads (free_head name params ∷ []) some.0 some.1 some.3)

  shapes_stay : shapes_of (with_head d (free_head name params) []) (drop 1 d.origins) ≡ shapes_of d (drop 1 d.origins)
  shapes_stay =
      shapes_same d.declared.heads (free_head name params ∷ []) d.spellings ([] ∷ []) c.heads.one_each (drop 1 d.origins) (λ i e at. c.origins.sorts (1 + i) e (sym (slice_get-drop 1 d.origins i) ∙ at))

  origins_are : AreOrigins (with_head d (free_head name params) [])
  origins_are = record {
    one_each = c.origins.one_each;
    different = c.origins.different;
    sorts = λ s e at. facts.more d.declared.heads (free_head name params ∷ []) 0 e (c.origins.sorts s e at);
    arguments = c.origins.arguments;
    fields = λ e among k f at. c.origins.fields e among k f (subst (λ (xs : List Expression). slice_get xs k ≡ Some f) (field_sorts_same d.declared.heads (free_head name params ∷ []) e (c.origins.sorts among.0 e among.1)) at);
    sorts_made = c.origins.sorts_made ∙ ap (new_sorts 2) (sym shapes_stay);
    ctors_made = c.origins.ctors_made ∙ ap (new_ctors 1 0) (sym shapes_stay);
    sels_made = c.origins.sels_made ∙ ap (λ (xs : List SortShape). new_sels (sort_among d.origins) 2 (all_ctors xs)) (sym shapes_stay);
  }

  -- the declarations with it
  pub base_with_free : IsBase (with_head d (free_head name params) [])
  base_with_free = record {
    few = record { sorts = c.few.sorts; ctors = c.few.ctors; sels = c.few.sels; functions = c.few.functions; definitions = c.few.definitions };
    within = not_over;
    names_distinct = names_distinct;
    distinct = subst (λ ns. AreDistinct (ns ++ (function_names d ++ definition_names d))) (sym symbols_are) c.distinct;
    fit = fit;
    symbols_available = subst (λ ns. AreAvailable (drop 2 ns)) (sym symbols_are) c.symbols_available;
    ctors_available = c.ctors_available;
    sels_available = c.sels_available;
    available = c.available;
    definitions_available = c.definitions_available;
    first_sort = c.first_sort;
    first_ctors = c.first_ctors;
    first_head = take-append-le 1 d.declared.heads (free_head name params ∷ []) (begins 1 d.declared.heads start.declared.heads c.first_head refl) ∙ c.first_head;
    first_spelling = take-append-le 1 d.spellings ([] ∷ []) (begins 1 d.spellings start.spellings c.first_spelling refl) ∙ c.first_spelling;
    first_origin = c.first_origin;
    all_ctors = c.all_ctors;
    ctor_sorts = c.ctor_sorts;
    kinds = c.kinds;
    all_sels = c.all_sels;
    sel_ctors = c.sel_ctors;
    sel_places = c.sel_places;
    fields = c.fields;
    over_sorts = c.over_sorts;
    definitions_over_sorts = c.definitions_over_sorts;
    heads = record {
      one_each = omega (arith, length-append d.spellings ([] ∷ []), length-append d.declared.heads (free_head name params ∷ []), c.heads.one_each);
      spelled = heads_spelled;
      formed = formed;
      founded = heads_founded;
    };
    origins = origins_are;
    founded = λ s within. IsFounded-same d (with_head d (free_head name params) []) refl refl refl s (c.founded s within);
  }
