-- Declarations stay consistent when sorts come into the list, each after its arguments and with the sorts of its fields.
use Rattle.std.proofs.Common.{◌≡◌, ℕ, zero, suc, ap₂, subst₂, lt_of_not-le, ◌+◌, ◌<◌, ◌≤◌, ◌⊎◌, List, [], ◌∷◌, ◌++◌, length, map, take, drop, slice_get, Option, Some, None, unwrap_or, refl, sym, ◌∙◌, ap, subst, inl, inr, ⊎_elim, arith, length-append}
use Rattle.std.specs.List.{flat_map, AllZip}
use Rattle.std.specs.Option.{option_and_then}
use Rattle.std.proofs.lemmas.List.{map-append, length-map, length-drop, take-append-drop, drop-append-le, append_assoc}
use Rattle.std.proofs.lemmas.List.Concat.{flat_map-append}
use Rattle.std.proofs.lemmas.Option.{none-some, same_Some, slice_get_within}
use Rattle.ct_lemmas.proofs.Lists.{slice_get-append_after, slice_get-append_left, slice_get-flat_map, slice_get-map_source, slice_get-there}
use Rattle.ct_lemmas.proofs.Prefixes.{slice_get-take}
use Rattle.ct_generics.specs.Expression.{Expression, named, head_of, args_of, substitute}
use Rattle.ct_generics.specs.Declarations.{Head, IsExpression, head_at}
use Rattle.ct_generics.specs.Reach.{AreDifferent, fields_of, fields_with, fields_by_kind}
use Rattle.ct_generics.specs.Add.{IsAmong, field_sorts, ctor_count, sel_count}
use Rattle.ct_generics.specs.Additions.{ComeAfterArguments, HaveFields}
use Rattle.ct_generics.specs.declared.kind.Kind.{Kind as HeadKind}
use Rattle.ct_generics.specs.declared.kind.Kind.TheVariants.{Bool as OfBool, Free as OfFree, Data as OfData, Codata as OfCodata}
use Rattle.ct_sorts.specs.declared.ids.SortId.{SortId}
use Rattle.ct_sorts.specs.declared.spelling.Spelling.{Spelling}
use Rattle.ct_sorts.specs.Availability.{IsListed, IsUnavailable}
use Rattle.ct_sorts.specs.Declarations.{Declarations, Sort, Constructor, Selector, bool, head_symbols, spelled, start, ctor_ids, sel_ids, most_sorts, most_ctors, most_sels}
use Rattle.ct_sorts.specs.Founded.{IsFounded}
use Rattle.ct_sorts.specs.Limits.{sort_count, ctor_count as total_ctors, sel_count as total_sels, room_in, IsOverLimits}
use Rattle.ct_sorts.specs.Made.{new_sorts, new_ctors, new_sels, shapes_of, with_sorts}
use Rattle.ct_sorts.specs.Origins.{AreOrigins, HavePlainSorts}
use Rattle.ct_sorts.specs.Same.{sort_among}
use Rattle.ct_sorts.specs.Shapes.{FieldShape, CtorShape, SortShape, kind_of_head, ctor_shapes, spelling_of, shape_of, all_ctors, all_fields}
use Rattle.ct_sorts.specs.Kinds.{kind_of}
use Rattle.ct_sorts.specs.Heads.{NamesEach, FitsSpelling}
use Rattle.ct_sorts.specs.Consistent.{AreFew, AreAvailable, FitsKind, IsConsistent}
use Rattle.ct_sorts.proofs.BaseLemmas.{IsBase, with_plain}
use Rattle.ct_sorts.proofs.ConsistentLemmas.{each-append, begins, AreHeads-same}
use Rattle.ct_sorts.proofs.MadeLemmas.{names-new_ctors, names-new_sels, length-new_sorts, length-new_ctors, length-new_sels, ctors-new_sorts, owners-new_ctors, sels-new_ctors, owners-new_sels, indices-new_sels, kinds-new_sorts, sorts-new_sels, new_sorts-append, new_ctors-append, new_sels-append, new_sels-same, source-new_sels}
use Rattle.ct_sorts.proofs.MoreLemmas.{IsMore, IsBase-more, more_sorts}
use Rattle.ct_sorts.proofs.FoundedSorts.{AreInstancesFounded, IsFounded-flat}
use Rattle.ct_sorts.proofs.Lists.{slice_get-drop}
use Rattle.ct_sorts.proofs.SameLemmas.{sort_within, sort_longer}
use Rattle.ct_sorts.proofs.ShapeLemmas.{flat_map-source, field_among, ctor_shapes-name, length-ctor_shapes, names_each, names_each-map, AllZip-length, count_ctors, count_sels}
use Rattle.ct_sorts.proofs.WordLemmas.{later_name}

-- what holds of sorts that come into the list
pub record AreAdded (d : Declarations) (added : List Expression) : Type 0 where
  pub different : AreDifferent (d.origins ++ added)
  pub arguments : ComeAfterArguments (d.origins ++ added)
  pub fields : HaveFields d.declared.heads (d.origins ++ added)
  pub sorts : (i : ℕ) (e : Expression) → slice_get added i ≡ Some e → IsExpression d.declared.heads 0 e
  -- each is of a sort or generic that is not Bool
  pub later : (i : ℕ) (e : Expression) → slice_get added i ≡ Some e → (k : ℕ) × (head : Head) × (head_of e ≡ Some (suc k)) × (slice_get d.declared.heads (suc k) ≡ Some head)
  pub sorts_fit : length added ≤ (room_in d).sorts
  pub ctors_fit : ctor_count d.declared.heads added ≤ (room_in d).ctors
  pub sels_fit : sel_count d.declared.heads added ≤ (room_in d).sels
  pub plain : HavePlainSorts (with_sorts d added)

-- what is not above a number is at most it
not_above : (n m : ℕ) → (n < m → ⊥) → m ≤ n
not_above n m h = omega (arith, lt_of_not-le h)

-- the kind of a sort fits the number of its constructors
kind_fits : (n k : ℕ) (kind : HeadKind) (rows : List (List Expression)) (ctors : List Spelling) (f : Expression → Expression) → FitsSpelling (suc k) kind rows ctors → FitsKind n (kind_of kind) (length (ctor_shapes ctors (fields_by_kind kind (map (map f) rows))))
kind_fits n k OfBool rows ctors f fits = absurd (omega (arith, fits))
kind_fits n k OfFree rows ctors f fits = ap (λ (cs : List Spelling). length (ctor_shapes cs [])) fits.1
kind_fits n k OfData rows ctors f fits = omega (arith, fits.0, length-ctor_shapes ctors (map (map f) rows) (names_each-map f ctors rows fits.1), AllZip-length ctors rows fits.1, length-map rows (map f))
kind_fits n k OfCodata rows ctors f fits = omega (arith, fits.0, length-ctor_shapes ctors (map (map f) rows) (names_each-map f ctors rows fits.1), AllZip-length ctors rows fits.1, length-map rows (map f))

module _ (d : Declarations) (added : List Expression) (c : IsBase d) (a : AreAdded d added) where
  -- the names of the constructors of an added sort are there
  spelled_at : (i : ℕ) (e : Expression) → slice_get added i ≡ Some e → (k : ℕ) × (head : Head) × (ctors : List Spelling) × (head_of e ≡ Some (suc k)) × (slice_get d.declared.heads (suc k) ≡ Some head) × (slice_get d.spellings (suc k) ≡ Some ctors)
  spelled_at i e at =
      let later = a.later i e at in
      let names = slice_get-there d.spellings (suc later.0) (omega (arith, c.heads.one_each, slice_get_within d.declared.heads (suc later.0) later.1 later.3)) in
      (later.0, later.1, names.0, later.2, later.3, names.1)

  pub names_at : (i : ℕ) (e : Expression) → slice_get added i ≡ Some e → AllZip NamesEach (spelling_of d.spellings e) (fields_of d.declared.heads e)
  names_at i e at = let s = spelled_at i e at in names_each d.declared.heads d.spellings c.heads.spelled e s.0 s.1 s.2 s.3 s.4 s.5

  ctors_counted : length (all_ctors (shapes_of d added)) ≡ ctor_count d.declared.heads added
  ctors_counted = count_ctors d.declared.heads d.spellings (λ e. AllZip NamesEach (spelling_of d.spellings e) (fields_of d.declared.heads e)) (λ e h. h) added names_at

  sels_counted : length (all_fields (all_ctors (shapes_of d added))) ≡ sel_count d.declared.heads added
  sels_counted = count_sels d.declared.heads d.spellings (λ e. AllZip NamesEach (spelling_of d.spellings e) (fields_of d.declared.heads e)) (λ e h. h) added names_at

  sorts_long : length (with_sorts d added).sorts ≡ length d.sorts + length added
  sorts_long = omega (arith, length-append d.sorts (new_sorts (length d.ctors) (shapes_of d added)), length-new_sorts (length d.ctors) (shapes_of d added), length-map added (shape_of d.declared.heads d.spellings))

  ctors_long : length (with_sorts d added).ctors ≡ length d.ctors + ctor_count d.declared.heads added
  ctors_long = omega (arith, length-append d.ctors (new_ctors (length d.sorts) (length d.sels) (shapes_of d added)), length-new_ctors (length d.sorts) (length d.sels) (shapes_of d added), ctors_counted)

  sels_long : length (with_sorts d added).sels ≡ length d.sels + sel_count d.declared.heads added
  sels_long = omega (arith, length-append d.sels (new_sels (sort_among (d.origins ++ added)) (length d.ctors) (all_ctors (shapes_of d added))), length-new_sels (sort_among (d.origins ++ added)) (length d.ctors) (all_ctors (shapes_of d added)), sels_counted)

  sorts_under : sort_count d ≤ most_sorts
  sorts_under = not_above most_sorts (sort_count d) (λ h. c.within (inl h))

  ctors_under : total_ctors d ≤ most_ctors
  ctors_under = not_above most_ctors (total_ctors d) (λ h. c.within (inr (inl h)))

  sels_under : total_sels d ≤ most_sels
  sels_under = not_above most_sels (total_sels d) (λ h. c.within (inr (inr h)))

  pub few : AreFew (with_sorts d added)
  few = record {
    sorts = omega (arith, sorts_long, a.sorts_fit, sorts_under);
    ctors = omega (arith, ctors_long, a.ctors_fit, ctors_under);
    sels = omega (arith, sels_long, a.sels_fit, sels_under);
    functions = c.few.functions;
    definitions = c.few.definitions;
  }

  not_over : IsOverLimits (with_sorts d added) → ⊥
  not_over (inl h) = omega (arith, h, sorts_long, a.sorts_fit, sorts_under)
  not_over (inr (inl h)) = omega (arith, h, ctors_long, a.ctors_fit, ctors_under)
  not_over (inr (inr h)) = omega (arith, h, sels_long, a.sels_fit, sels_under)

  -- a constructor that is added is one of a sort that is added
  ctor_source : (i : ℕ) (t : CtorShape) → slice_get (all_ctors (shapes_of d added)) i ≡ Some t → (n j : ℕ) × (e : Expression) × (slice_get added n ≡ Some e) × (slice_get (shape_of d.declared.heads d.spellings e).ctors j ≡ Some t)
  ctor_source i t at =
      let found = flat_map-source (λ (s : SortShape). s.ctors) (shapes_of d added) i t at in
      let sort = slice_get-map_source (shape_of d.declared.heads d.spellings) added found.0 found.2 found.3 in
      (found.0, found.1, sort.0, sort.1, subst (λ (s : SortShape). slice_get s.ctors found.1 ≡ Some t) (sym sort.2) found.4)

  -- its name and those of its fields are names of a sort or generic that may be declared
  free : (n j k : ℕ) (e : Expression) (t : CtorShape) (name : List ℕ) → slice_get added n ≡ Some e → slice_get (shape_of d.declared.heads d.spellings e).ctors j ≡ Some t → (spelling : Spelling) → slice_get (spelling_of d.spellings e) j ≡ Some spelling → slice_get (spelling.name ∷ spelling.fields) k ≡ Some name → IsUnavailable [] name → ⊥
  free n j k e t name at_e at_t spelling at_s at_k =
      let s = spelled_at n e at_e in
      let own : spelling_of d.spellings e ≡ s.2 = ap (λ (o : Option (List Spelling)). unwrap_or o []) (ap (option_and_then (slice_get d.spellings)) s.3 ∙ s.5) in
      let here : slice_get s.2 j ≡ Some spelling = subst (λ (cs : List Spelling). slice_get cs j ≡ Some spelling) own at_s in
      later_name d c s.0 s.2 j k spelling name s.5 here at_k

  ctors_available : AreAvailable (map (λ (t : Constructor). t.name) (new_ctors (length d.sorts) (length d.sels) (shapes_of d added)))
  ctors_available index name at =
      let listed : slice_get (map (λ (t : CtorShape). t.name) (all_ctors (shapes_of d added))) index ≡ Some name = subst (λ ns. slice_get ns index ≡ Some name) (names-new_ctors (length d.sorts) (length d.sels) (shapes_of d added)) at in
      let t = slice_get-map_source (λ (t : CtorShape). t.name) (all_ctors (shapes_of d added)) index name listed in
      let source = ctor_source index t.0 t.1 in
      let own = ctor_shapes-name (spelling_of d.spellings source.2) (fields_of d.declared.heads source.2) source.1 t.0 source.4 in
      free source.0 source.1 0 source.2 t.0 name source.3 source.4 own.0 own.1 (ap Some (own.2 ∙ t.2))

  sels_available : AreAvailable (map (λ (s : Selector). s.name) (new_sels (sort_among (d.origins ++ added)) (length d.ctors) (all_ctors (shapes_of d added))))
  sels_available index name at =
      let sel = slice_get-map_source (λ (s : Selector). s.name) (new_sels (sort_among (d.origins ++ added)) (length d.ctors) (all_ctors (shapes_of d added))) index name at in
      let from = source-new_sels (sort_among (d.origins ++ added)) (length d.ctors) (all_ctors (shapes_of d added)) index sel.0 sel.1 in
      let source = ctor_source from.0 from.2 from.4 in
      let own = ctor_shapes-name (spelling_of d.spellings source.2) (fields_of d.declared.heads source.2) source.1 from.2 source.4 in
      free source.0 source.1 (suc from.1) source.2 from.2 name source.3 source.4 own.0 own.1 (own.3 from.1 from.3 from.5 ∙ ap Some (sym from.7 ∙ sel.2))

  -- the sort of a field of a sort of the longer list is in it
  field_there : (e : Expression) → IsAmong (d.origins ++ added) e → (i j : ℕ) (t : CtorShape) (f : FieldShape) → slice_get (shape_of d.declared.heads d.spellings e).ctors i ≡ Some t → slice_get t.fields j ≡ Some f → IsAmong (d.origins ++ added) f.sort
  field_there e among i j t f at_t at_f =
      let k = field_among d.declared.heads d.spellings e i j t f at_t at_f in
      a.fields e among k.0 f.sort k.1

  added_among : (n : ℕ) (e : Expression) → slice_get added n ≡ Some e → IsAmong (d.origins ++ added) e
  added_among n e at = (length d.origins + n, slice_get-append_after d.origins added n ∙ at)

  fields : (s : ℕ) (sel : Selector) → slice_get (new_sels (sort_among (d.origins ++ added)) (length d.ctors) (all_ctors (shapes_of d added))) s ≡ Some sel → sel.sort.0 < length d.sorts + length (new_sorts (length d.ctors) (shapes_of d added))
  fields s sel at =
      let from = source-new_sels (sort_among (d.origins ++ added)) (length d.ctors) (all_ctors (shapes_of d added)) s sel at in
      let source = ctor_source from.0 from.2 from.4 in
      let among = field_there source.2 (added_among source.0 source.2 source.3) source.1 from.1 from.2 from.3 source.4 from.5 in
      omega (
        arith,
        ap (λ (t : SortId). t.0) from.6,
        sort_within (d.origins ++ added) from.3.sort among,
        length-append d.origins added,
        c.origins.one_each,
        length-new_sorts (length d.ctors) (shapes_of d added),
        length-map added (shape_of d.declared.heads d.spellings),
      )

  kinds : (s : ℕ) (sort : Sort) → slice_get (new_sorts (length d.ctors) (shapes_of d added)) s ≡ Some sort → FitsKind (length d.sorts + s) sort.kind (length sort.ctors)
  kinds s sort at =
      let k = kinds-new_sorts (length d.ctors) (shapes_of d added) s sort at in
      let e = slice_get-map_source (shape_of d.declared.heads d.spellings) added s k.0 k.1 in
      let own = spelled_at s e.0 e.1 in
      let shape = shape_of d.declared.heads d.spellings e.0 in
      let head : head_at d.declared.heads e.0 ≡ Some own.1 = ap (option_and_then (slice_get d.declared.heads)) own.3 ∙ own.4 in
      let names : spelling_of d.spellings e.0 ≡ own.2 = ap (λ (o : Option (List Spelling)). unwrap_or o []) (ap (option_and_then (slice_get d.spellings)) own.3 ∙ own.5) in
      let kind : sort.kind ≡ kind_of own.1.kind = k.2 ∙ ap (λ (t : SortShape). t.kind) (sym e.2) ∙ ap kind_of_head head in
      let count : length sort.ctors ≡ length (ctor_shapes own.2 (fields_by_kind own.1.kind (map (map (substitute (args_of e.0))) own.1.ctors))) =
      k.3 ∙ ap (λ (t : SortShape). length t.ctors) (sym e.2) ∙ ap₂ (λ (cs : List Spelling) (o : Option Head). length (ctor_shapes cs (fields_with o (args_of e.0)))) names head in
      subst₂ (FitsKind (length d.sorts + s)) (sym kind) (sym count) (kind_fits (length d.sorts + s) own.0 own.1.kind own.1.ctors own.2 (substitute (args_of e.0)) (c.heads.spelled (suc own.0) own.1 own.2 own.4 own.5))

  -- ---- what the sorts are, with those that were added

  one : 1 ≤ length d.origins
  one = begins 1 d.origins start.origins c.first_origin refl

  before : List SortShape
  before = shapes_of d (drop 1 d.origins)

  shapes_split : shapes_of d (drop 1 (d.origins ++ added)) ≡ shapes_of d (drop 1 d.origins) ++ shapes_of d added
  shapes_split = ap (map (shape_of d.declared.heads d.spellings)) (drop-append-le 1 d.origins added one) ∙ map-append (shape_of d.declared.heads d.spellings) (drop 1 d.origins) added

  ctors_before : 2 + length (all_ctors (shapes_of d (drop 1 d.origins))) ≡ length d.ctors
  ctors_before = omega (arith, ap length c.origins.ctors_made, length-new_ctors 1 0 (shapes_of d (drop 1 d.origins)), length-drop 2 d.ctors, begins 2 d.ctors start.ctors c.first_ctors refl)

  sels_before : length (all_fields (all_ctors (shapes_of d (drop 1 d.origins)))) ≡ length d.sels
  sels_before = sym (length-new_sels (sort_among d.origins) 2 (all_ctors (shapes_of d (drop 1 d.origins)))) ∙ sym (ap length c.origins.sels_made)

  sorts_before : 1 + length (shapes_of d (drop 1 d.origins)) ≡ length d.sorts
  sorts_before = omega (arith, ap length c.origins.sorts_made, length-new_sorts 2 (shapes_of d (drop 1 d.origins)), length-drop 1 d.sorts, begins 1 d.sorts start.sorts c.first_sort refl)

  sorts_made : drop 1 (with_sorts d added).sorts ≡ new_sorts 2 (shapes_of d (drop 1 (d.origins ++ added)))
  sorts_made =
      drop-append-le 1 d.sorts (new_sorts (length d.ctors) (shapes_of d added)) (begins 1 d.sorts start.sorts c.first_sort refl)
      ∙ ap (λ xs. xs ++ new_sorts (length d.ctors) (shapes_of d added)) c.origins.sorts_made
      ∙ ap (λ k. new_sorts 2 (shapes_of d (drop 1 d.origins)) ++ new_sorts k (shapes_of d added)) (sym ctors_before)
      ∙ sym (new_sorts-append 2 (shapes_of d (drop 1 d.origins)) (shapes_of d added))
      ∙ ap (new_sorts 2) (sym shapes_split)

  ctors_made : drop 2 (with_sorts d added).ctors ≡ new_ctors 1 0 (shapes_of d (drop 1 (d.origins ++ added)))
  ctors_made =
      let from_zero : length (all_fields (all_ctors (shapes_of d (drop 1 d.origins)))) ≡ 0 + length (all_fields (all_ctors (shapes_of d (drop 1 d.origins)))) = omega arith in
      drop-append-le 2 d.ctors (new_ctors (length d.sorts) (length d.sels) (shapes_of d added)) (begins 2 d.ctors start.ctors c.first_ctors refl)
      ∙ ap (λ xs. xs ++ new_ctors (length d.sorts) (length d.sels) (shapes_of d added)) c.origins.ctors_made
      ∙ ap₂ (λ s k. new_ctors 1 0 (shapes_of d (drop 1 d.origins)) ++ new_ctors s k (shapes_of d added)) (sym sorts_before) (sym sels_before ∙ from_zero)
      ∙ sym (new_ctors-append 1 0 (shapes_of d (drop 1 d.origins)) (shapes_of d added))
      ∙ ap (new_ctors 1 0) (sym shapes_split)

  -- the sorts of the fields of earlier sorts have the numbers that they had
  field_stays : (i j : ℕ) (t : CtorShape) (f : FieldShape) → slice_get (all_ctors (shapes_of d (drop 1 d.origins))) i ≡ Some t → slice_get t.fields j ≡ Some f → sort_among (d.origins ++ added) f.sort ≡ sort_among d.origins f.sort
  field_stays i j t f at_t at_f =
      let found = flat_map-source (λ (s : SortShape). s.ctors) (shapes_of d (drop 1 d.origins)) i t at_t in
      let sort = slice_get-map_source (shape_of d.declared.heads d.spellings) (drop 1 d.origins) found.0 found.2 found.3 in
      let own = subst (λ (s : SortShape). slice_get s.ctors found.1 ≡ Some t) (sym sort.2) found.4 in
      let there : IsAmong d.origins sort.0 = (1 + found.0, sym (slice_get-drop 1 d.origins found.0) ∙ sort.1) in
      let k = field_among d.declared.heads d.spellings sort.0 found.1 j t f own at_f in
      sort_longer d.origins f.sort (c.origins.fields sort.0 there k.0 f.sort k.1) added

  sels_made : (with_sorts d added).sels ≡ new_sels (sort_among (d.origins ++ added)) 2 (all_ctors (shapes_of d (drop 1 (d.origins ++ added))))
  sels_made =
      let number = sort_among (d.origins ++ added) in
      ap (λ xs. xs ++ new_sels number (length d.ctors) (all_ctors (shapes_of d added))) (c.origins.sels_made ∙ sym (new_sels-same (sort_among d.origins) number 2 (all_ctors (shapes_of d (drop 1 d.origins))) field_stays))
      ∙ ap (λ k. new_sels number 2 (all_ctors (shapes_of d (drop 1 d.origins))) ++ new_sels number k (all_ctors (shapes_of d added))) (sym ctors_before)
      ∙ sym (new_sels-append number 2 (all_ctors (shapes_of d (drop 1 d.origins))) (all_ctors (shapes_of d added)))
      ∙ ap (new_sels number 2) (sym (flat_map-append (λ (s : SortShape). s.ctors) (shapes_of d (drop 1 d.origins)) (shapes_of d added)) ∙ ap all_ctors (sym shapes_split))

  origins : AreOrigins (with_sorts d added)
  origins = record {
    one_each = omega (arith, sorts_long, length-append d.origins added, c.origins.one_each);
    different = a.different;
    sorts = each-append (λ _ e. IsExpression d.declared.heads 0 e) d.origins added c.origins.sorts a.sorts;
    arguments = a.arguments;
    fields = a.fields;
    sorts_made = sorts_made;
    ctors_made = ctors_made;
    sels_made = sels_made;
  }

  founded : AreInstancesFounded d.declared.heads → (s : ℕ) → s < length (with_sorts d added).sorts → IsFounded (with_sorts d added) s
  founded instances s within =
      IsFounded-flat (with_sorts d added) origins (AreHeads-same d (with_sorts d added) refl refl c.heads) first_there first_origin_there first_head_none instances s within
    where
      first_there : slice_get (with_sorts d added).sorts 0 ≡ Some bool
      first_there = slice_get-append_left d.sorts (new_sorts (length d.ctors) (shapes_of d added)) 0 bool (slice_get-take 1 d.sorts 0 bool (ap (λ (xs : List Sort). slice_get xs 0) c.first_sort))

      first_origin_there : slice_get (d.origins ++ added) 0 ≡ Some (named 0)
      first_origin_there = slice_get-append_left d.origins added 0 (named 0) (slice_get-take 1 d.origins 0 (named 0) (ap (λ (xs : List Expression). slice_get xs 0) c.first_origin))

      first_head_none : (head : Head) → slice_get d.declared.heads 0 ≡ Some head → head.params ≡ 0
      first_head_none head at =
          let there = slice_get-take 1 d.declared.heads 0 _ (ap (λ (xs : List Head). slice_get xs 0) c.first_head) in
          ap (λ (h : Head). h.params) (same_Some _ _ (sym at ∙ there))

  is_more : AreInstancesFounded d.declared.heads → IsMore d (new_sorts (length d.ctors) (shapes_of d added)) (new_ctors (length d.sorts) (length d.sels) (shapes_of d added)) (new_sels (sort_among (d.origins ++ added)) (length d.ctors) (all_ctors (shapes_of d added))) added
  is_more instances =
      let shapes = shapes_of d added in
      let number = sort_among (d.origins ++ added) in
      record {
        few = few;
        within = not_over;
        ctors_available = ctors_available;
        sels_available = sels_available;
        all_ctors = ctors-new_sorts (length d.ctors) shapes ∙ ap (ctor_ids (length d.ctors)) (sym (length-new_ctors (length d.sorts) (length d.sels) shapes));
        ctor_sorts = owners-new_ctors (length d.sorts) (length d.sels) (length d.ctors) shapes;
        kinds = kinds;
        all_sels = sels-new_ctors (length d.sorts) (length d.sels) shapes ∙ ap (sel_ids (length d.sels)) (sym (length-new_sels number (length d.ctors) (all_ctors shapes)));
        sel_ctors = owners-new_sels number (length d.ctors) (length d.sorts) (length d.sels) shapes;
        sel_places = indices-new_sels number (length d.ctors) (length d.sorts) (length d.sels) shapes;
        fields = fields;
        origins = origins;
        founded = λ s within. founded instances (length d.sorts + s) (omega (arith, within, length-append d.sorts (new_sorts (length d.ctors) shapes)));
      }

-- with sorts that come into the list declarations are consistent
pub IsConsistent-with_sorts : (d : Declarations) (added : List Expression) → IsBase d → AreAdded d added → AreInstancesFounded d.declared.heads → IsConsistent (with_sorts d added)
IsConsistent-with_sorts d added c a instances =
    with_plain (with_sorts d added)
    (IsBase-more d (new_sorts (length d.ctors) (shapes_of d added)) (new_ctors (length d.sorts) (length d.sels) (shapes_of d added)) (new_sels (sort_among (d.origins ++ added)) (length d.ctors) (all_ctors (shapes_of d added))) added c (is_more d added c a instances))
    a.plain
