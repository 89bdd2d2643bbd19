-- An uninterpreted sort without parameters comes into the list of sorts; one with parameters does not.
use Rattle.std.proofs.Common.{◌≡◌, ℕ, zero, suc, ◌+◌, ◌<◌, ◌≤◌, List, [], ◌∷◌, ◌++◌, length, map, sum, slice_get, Option, Some, option_map, unwrap_or, refl, sym, ◌∙◌, ap, ap₂, subst, ⊎_elim, arith, length-append}
use Rattle.std.specs.List.{flat_map}
use Rattle.std.specs.Option.{option_and_then}
use Rattle.std.proofs.lemmas.List.{append-nil, map-append}
use Rattle.std.proofs.lemmas.Option.{none-some, same_Some, slice_get_within}
use Rattle.ct_lemmas.proofs.Lists.{slice_get-append_after, slice_get-append_cases, slice_get-append_left}
use Rattle.ct_generics.specs.declared.kind.Kind.TheVariants.{Free as OfFree}
use Rattle.ct_generics.specs.Add.{IsAmong, field_sorts, ctor_count, sel_count}
use Rattle.ct_generics.specs.Additions.{ComeAfterArguments, HaveFields}
use Rattle.ct_generics.specs.Declarations.{Head, IsExpression, head_at}
use Rattle.ct_generics.specs.Expression.{Expression, args_of, named}
use Rattle.ct_generics.specs.Reach.{AreDifferent, fields_of, fields_with}
use Rattle.ct_sorts.specs.declared.ids.CtorId.{CtorId}
use Rattle.ct_sorts.specs.declared.ids.Kind.TheVariants.{Free}
use Rattle.ct_sorts.specs.declared.spelling.Spelling.{Spelling}
use Rattle.ct_sorts.specs.Availability.{IsUnavailableSort}
use Rattle.ct_sorts.specs.Consistent.{IsConsistent}
use Rattle.ct_sorts.specs.Declarations.{Declarations, Sort, Constructor, Selector, declared_names, most_sorts, with_head, with_sort}
use Rattle.ct_sorts.specs.Facts.{Facts}
use Rattle.ct_sorts.specs.Kinds.{kind_of}
use Rattle.ct_sorts.specs.Origins.{HavePlainSorts}
use Rattle.ct_sorts.specs.Limits.{generic_count, generic_ctors, generic_sels, room_in, sort_count}
use Rattle.ct_sorts.specs.Made.{new_sorts, new_ctors, new_sels, with_sorts}
use Rattle.ct_sorts.specs.Same.{sort_among}
use Rattle.ct_sorts.specs.Shapes.{SortShape, all_ctors, ctor_shapes, kind_of_head, shape_of, spelling_of}
use Rattle.ct_sorts.specs.SortText.{head_name, name_of_head}
use Rattle.ct_sorts.proofs.AddedLemmas.{later_of_added}
use Rattle.ct_sorts.proofs.FreeLemmas.{base_with_free, free_head}
use Rattle.ct_sorts.proofs.HeadLemmas.{head_there}
use Rattle.ct_sorts.proofs.MoreHeadsLemmas.{field_sorts_same}
use Rattle.ct_sorts.proofs.OwnLemmas.{generic_count-append}
use Rattle.ct_sorts.proofs.OwnSortsLemmas.{sum-more}
use Rattle.ct_sorts.proofs.SortsLemmas.{AreAdded}

last_is : {X : Type 0} (xs : List X) (x : X) → slice_get (xs ++ x ∷ []) (length xs) ≡ Some x
last_is [] x = refl
last_is (y ∷ xs) x = last_is xs x

one_at : {X : Type 0} (x : X) (k : ℕ) (y : X) → slice_get (x ∷ []) k ≡ Some y → (k ≡ 0) × (x ≡ y)
one_at x zero y at = (refl, same_Some _ _ at)
one_at x (suc k) y at = absurd (none-some _ at)

module _ (facts : Facts) (d : Declarations) (name : List ℕ) (params : ℕ) (c : IsConsistent d) (free : IsUnavailableSort (declared_names d) name → ⊥) (room : sort_count d < most_sorts) where
  -- those without parameters are there where it has some
  plain_with : 0 < params → HavePlainSorts (with_head d (free_head name params) [])
  plain_with some h head at none =
      ⊎_elim (λ old. c.plain h head old none) (λ new. absurd (omega (arith, some, none, ap (λ (x : Head). x.params) (one_at (free_head name params) new.0 head new.2).1)))
      (slice_get-append_cases d.declared.heads (free_head name params ∷ []) h head at)

  -- with it no sort comes into the list
  pub added_none : 0 < params → AreAdded (with_head d (free_head name params) []) []
  added_none some =
      let heads = d.declared.heads ++ free_head name params ∷ [] in
      let base = base_with_free facts d name params c free room in
      let no_ctors : ctor_count heads [] ≡ 0 = refl in
      let no_sels : sel_count heads [] ≡ 0 = refl in
      record {
        different = subst AreDifferent (sym (append-nil d.origins)) base.origins.different;
        arguments = subst ComeAfterArguments (sym (append-nil d.origins)) base.origins.arguments;
        fields = subst (HaveFields heads) (sym (append-nil d.origins)) base.origins.fields;
        sorts = λ i e at. absurd (none-some _ at);
        later = λ i e at. absurd (none-some _ at);
        sorts_fit = omega arith;
        ctors_fit = omega (arith, no_ctors);
        sels_fit = omega (arith, no_sels);
        plain = λ h head at none. let found = plain_with some h head at none in (found.0, ap (λ (xs : List Expression). slice_get xs found.0) (append-nil d.origins) ∙ found.1);
      }

module _ (facts : Facts) (d : Declarations) (name : List ℕ) (c : IsConsistent d) (free : IsUnavailableSort (declared_names d) name → ⊥) (room : sort_count d < most_sorts) where
  known : slice_get (d.declared.heads ++ free_head name 0 ∷ []) (length d.declared.heads) ≡ Some (free_head name 0)
  known = last_is d.declared.heads (free_head name 0)

  no_fields : fields_of (d.declared.heads ++ free_head name 0 ∷ []) (named (length d.declared.heads)) ≡ []
  no_fields = ap (λ (o : Option Head). fields_with o []) known

  no_field_sorts : field_sorts (d.declared.heads ++ free_head name 0 ∷ []) (named (length d.declared.heads)) ≡ []
  no_field_sorts = ap (flat_map (λ (r : List Expression). r)) no_fields

  not_old : (s : ℕ) → slice_get d.origins s ≡ Some (named (length d.declared.heads)) → ⊥
  not_old s at =
      let head = head_there (slice_get d.declared.heads (length d.declared.heads)) 0 (c.origins.sorts s (named (length d.declared.heads)) at) in
      omega (arith, slice_get_within d.declared.heads (length d.declared.heads) head.0 head.1)

  different : AreDifferent (d.origins ++ named (length d.declared.heads) ∷ [])
  different i j e at also =
      ⊎_elim
      (λ old. ⊎_elim (λ other. c.origins.different i j e old other) (λ other. absurd (not_old i (old ∙ ap Some (sym (one_at (named (length d.declared.heads)) other.0 e other.2).1)))) (slice_get-append_cases d.origins (named (length d.declared.heads) ∷ []) j e also))
      (λ new. ⊎_elim
      (λ other. absurd (not_old j (other ∙ ap Some (sym (one_at (named (length d.declared.heads)) new.0 e new.2).1))))
      (λ other. omega (arith, new.1, other.1, (one_at (named (length d.declared.heads)) new.0 e new.2).0, (one_at (named (length d.declared.heads)) other.0 e other.2).0))
      (slice_get-append_cases d.origins (named (length d.declared.heads) ∷ []) j e also))
      (slice_get-append_cases d.origins (named (length d.declared.heads) ∷ []) i e at)

  arguments : ComeAfterArguments (d.origins ++ named (length d.declared.heads) ∷ [])
  arguments i k e a at at_k =
      ⊎_elim
      (λ old. let found = c.origins.arguments i k e a old at_k in (found.0, found.1, slice_get-append_left d.origins (named (length d.declared.heads) ∷ []) found.0 a found.2))
      (λ new. absurd (none-some _ (subst (λ (x : Expression). slice_get (args_of x) k ≡ Some a) (sym (one_at (named (length d.declared.heads)) new.0 e new.2).1) at_k)))
      (slice_get-append_cases d.origins (named (length d.declared.heads) ∷ []) i e at)

  fields : HaveFields (d.declared.heads ++ free_head name 0 ∷ []) (d.origins ++ named (length d.declared.heads) ∷ [])
  fields e among k f at =
      ⊎_elim
      (λ old.
      let same = field_sorts_same d.declared.heads (free_head name 0 ∷ []) e (c.origins.sorts among.0 e old) in
      let there = c.origins.fields e (among.0, old) k f (subst (λ (xs : List Expression). slice_get xs k ≡ Some f) same at) in
      (there.0, slice_get-append_left d.origins (named (length d.declared.heads) ∷ []) there.0 f there.1))
      (λ new. absurd (none-some _ (ap (λ (xs : List Expression). slice_get xs k) (sym no_field_sorts) ∙ subst (λ (x : Expression). slice_get (field_sorts (d.declared.heads ++ free_head name 0 ∷ []) x) k ≡ Some f) (sym (one_at (named (length d.declared.heads)) new.0 e new.2).1) at)))
      (slice_get-append_cases d.origins (named (length d.declared.heads) ∷ []) among.0 e among.1)

  sorts : (i : ℕ) (e : Expression) → slice_get (named (length d.declared.heads) ∷ []) i ≡ Some e → IsExpression (d.declared.heads ++ free_head name 0 ∷ []) 0 e
  sorts i e at = subst (IsExpression (d.declared.heads ++ free_head name 0 ∷ []) 0) (one_at (named (length d.declared.heads)) i e at).1 (ap (option_map (λ (h : Head). h.params)) known)

  plain : (h : ℕ) (head : Head) → slice_get (d.declared.heads ++ free_head name 0 ∷ []) h ≡ Some head → head.params ≡ 0 → (s : ℕ) × (slice_get (d.origins ++ named (length d.declared.heads) ∷ []) s ≡ Some (named h))
  plain h head at none =
      ⊎_elim
      (λ old. let s = c.plain h head old none in (s.0, slice_get-append_left d.origins (named (length d.declared.heads) ∷ []) s.0 (named h) s.1))
      (λ new.
      let number : h ≡ length d.declared.heads = omega (arith, new.1, (one_at (free_head name 0) new.0 head new.2).0) in
      (length d.origins, last_is d.origins (named (length d.declared.heads)) ∙ ap (λ (n : ℕ). Some (named n)) (sym number)))
      (slice_get-append_cases d.declared.heads (free_head name 0 ∷ []) h head at)

  no_ctor_count : ctor_count (d.declared.heads ++ free_head name 0 ∷ []) (named (length d.declared.heads) ∷ []) ≡ 0
  no_ctor_count =
      let count = λ (e : Expression). length (fields_of (d.declared.heads ++ free_head name 0 ∷ []) e) in
      let none : sum (map count []) ≡ 0 = refl in
      omega (arith, sum-more count (named (length d.declared.heads)) [], ap length no_fields, none)

  no_sel_count : sel_count (d.declared.heads ++ free_head name 0 ∷ []) (named (length d.declared.heads) ∷ []) ≡ 0
  no_sel_count =
      let count = λ (e : Expression). length (field_sorts (d.declared.heads ++ free_head name 0 ∷ []) e) in
      let none : sum (map count []) ≡ 0 = refl in
      omega (arith, sum-more count (named (length d.declared.heads)) [], ap length no_field_sorts, none)

  pub added_plain : AreAdded (with_head d (free_head name 0) []) (named (length d.declared.heads) ∷ [])
  added_plain = record {
    different = different;
    arguments = arguments;
    fields = fields;
    sorts = sorts;
    later = later_of_added (with_head d (free_head name 0) []) (base_with_free facts d name 0 c free room) (named (length d.declared.heads) ∷ []) different sorts;
    sorts_fit = omega (arith, room, generic_count-append d.declared.heads (free_head name 0 ∷ []));
    ctors_fit = omega (arith, no_ctor_count);
    sels_fit = omega (arith, no_sel_count);
    plain = plain;
  }

  -- it is made of its name alone
  spelling_is : spelling_of (d.spellings ++ [] ∷ []) (named (length d.declared.heads)) ≡ []
  spelling_is = ap (λ (o : Option (List Spelling)). unwrap_or o []) (ap (slice_get (d.spellings ++ [] ∷ [])) (sym c.heads.one_each) ∙ last_is d.spellings [])

  shape_is : shape_of (d.declared.heads ++ free_head name 0 ∷ []) (d.spellings ++ [] ∷ []) (named (length d.declared.heads)) ≡ record { name = name; kind = Free; ctors = [] }
  shape_is i = record { name = name_of_head (known i); kind = kind_of_head (known i); ctors = ctor_shapes (spelling_is i) (no_fields i) }

  -- the declarations with the sort are those with it in the list
  pub with_sort_is : with_sort d (record { name = name; kind = Free; ctors = [] }) ≡ with_sorts (with_head d (free_head name 0) []) (named (length d.declared.heads) ∷ [])
  with_sort_is i = record {
    sorts = ap (λ (s : SortShape). d.sorts ++ new_sorts (length d.ctors) (s ∷ [])) (sym shape_is) i;
    ctors = (sym (append-nil d.ctors) ∙ ap (λ (s : SortShape). d.ctors ++ new_ctors (length d.sorts) (length d.sels) (s ∷ [])) (sym shape_is)) i;
    sels = (sym (append-nil d.sels) ∙ ap (λ (s : SortShape). d.sels ++ new_sels (sort_among (d.origins ++ named (length d.declared.heads) ∷ [])) (length d.ctors) (all_ctors (s ∷ []))) (sym shape_is)) i;
    functions = d.functions;
    definitions = d.definitions;
    declared = record d.declared { heads = d.declared.heads ++ free_head name 0 ∷ [] };
    spellings = d.spellings ++ [] ∷ [];
    origins = d.origins ++ named (length d.declared.heads) ∷ [];
  }
