-- The constructor of an instance has the fields of its generic's constructor, with the arguments in place of the parameters.
use Rattle.std.proofs.Common.{◌≡◌, ◌⊎◌, ℕ, zero, suc, ◌+◌, ◌-◌, Bool, true, false, if◌then◌else◌, List, [], ◌∷◌, length, map, unwrap_or, Option, Some, None, slice_get, refl, sym, ◌∙◌, ap, inl, inr, arith}
use Rattle.std.specs.List.{AllZip}
use Rattle.std.specs.Option.{option_and_then}
use Rattle.std.proofs.lemmas.Bool.{true≢false}
use Rattle.std.proofs.lemmas.Bool.Decides.{Decides-eqb}
use Rattle.std.proofs.lemmas.Option.{none-some, same_Some, slice_get_within}
use Rattle.ct_lemmas.proofs.Lists.{slice_get-flat_map}
use Rattle.ct_lemmas.proofs.Numbers.{same_or_other}
use Rattle.ct_lemmas.proofs.Pairs.{AllZip-at_left}
use Rattle.ct_generics.specs.Add.{IsAmong}
use Rattle.ct_generics.specs.Expression.{Expression, named, head_of, args_of, substitute}
use Rattle.ct_generics.specs.Declarations.{Head}
use Rattle.ct_generics.specs.Reach.{fields_of}
use Rattle.ct_sorts.specs.declared.ids.SortId.{SortId}
use Rattle.ct_sorts.specs.declared.ids.CtorId.{CtorId}
use Rattle.ct_sorts.specs.declared.ids.SelId.{SelId}
use Rattle.ct_sorts.specs.declared.ids.GenId.{GenId}
use Rattle.ct_sorts.specs.declared.spelling.Spelling.{Spelling}
use Rattle.ct_sorts.specs.Consistent.{IsConsistent}
use Rattle.ct_sorts.specs.Declarations.{Declarations, Sort, Constructor, Selector}
use Rattle.ct_sorts.specs.Heads.{NamesEach}
use Rattle.ct_sorts.specs.Instances.{IsOrigin}
use Rattle.ct_sorts.specs.Lookup.{IsGenericCtor}
use Rattle.ct_sorts.specs.MadeAt.{IsCtorOf}
use Rattle.ct_sorts.specs.Same.{sort_among}
use Rattle.ct_sorts.specs.Shapes.{FieldShape, field_shapes, spelling_of}
use Rattle.ct_sorts.proofs.HeadLemmas.{names_of_sort}
use Rattle.ct_sorts.proofs.SameLemmas.{sort_at}
use Rattle.ct_sorts.proofs.ShapeLemmas.{length-field_shapes}
use Rattle.ct_instances.specs.declared.among.NamedCtor.TheVariants.{Generic}
use Rattle.ct_instances.specs.Among.{origin_of, is_head, is_instance, nth_ctor, ctor_among}
use Rattle.ct_instances.specs.Fields.{sort_of_ctor}
use Rattle.ct_instances.proofs.CtorNameLemmas.{origin_at, sort_of_ctor_within}
use Rattle.ct_instances.proofs.InstanceLemmas.{AreMade, shape, shape_at, first_origin, first_plain, origin_is}
use Rattle.ct_log_text.proofs.FieldsBack.{row_back}

-- field `j` of the constructor has this sort, and its name stands at `j` among these
pub record IsFieldOf (d : Declarations) (names : List (List ℕ)) (ctor : Constructor) (j : ℕ) (f : Expression) : Type 0 where
  pub id : SelId
  pub sel : Selector
  pub at : slice_get ctor.sels j ≡ Some id
  pub there : slice_get d.sels id.0 ≡ Some sel
  pub sort_is : origin_of d sel.sort ≡ f
  pub name_is : slice_get names j ≡ Some sel.name

-- the constructor has a field for each field of the generic's, with these arguments in place of the parameters
pub record HasFieldsOf (d : Declarations) (g : GenId) (i : ℕ) (names : List (List ℕ)) (ctor : Constructor) (args : List Expression) : Type 0 where
  pub head : Head
  pub row : List Expression
  pub at_head : slice_get d.declared.heads g.0 ≡ Some head
  pub at_row : slice_get head.ctors i ≡ Some row
  pub long : length ctor.sels ≡ length (map (substitute args) row)
  pub each : (j : ℕ) (f : Expression) → slice_get (map (substitute args) row) j ≡ Some f → IsFieldOf d names ctor j f

-- a constructor that is found among those of an instance
pub instance_parts : (d : Declarations) (g : GenId) (i : ℕ) (s : SortId) (c : CtorId) → ctor_among d (Generic g i) s ≡ Some c → (head_of (origin_of d s) ≡ Some g.0) × (nth_ctor d s i ≡ Some c)
instance_parts d g i s c among = by (is_instance d g s) refl among
  where
    head_is : (o : Option ℕ) → is_head g.0 o ≡ true → o ≡ Some g.0
    head_is None e = absurd (true≢false (sym e))
    head_is (Some h) e = ap Some (sym ((Decides-eqb g.0 h).0 e))

    by : (b : Bool) → is_instance d g s ≡ b → (if b then nth_ctor d s i else None) ≡ Some c → (head_of (origin_of d s) ≡ Some g.0) × (nth_ctor d s i ≡ Some c)
    by true e is = (head_is (head_of (origin_of d s)) e, is)
    by false e is = absurd (none-some c is)

-- each sort has a field, and each field a name
field_at : (names : List (List ℕ)) (es : List Expression) (j : ℕ) (f : Expression) → length names ≡ length es → slice_get es j ≡ Some f → (t : FieldShape) × (slice_get (field_shapes names es) j ≡ Some t) × (t.sort ≡ f) × (slice_get names j ≡ Some t.name)
field_at [] [] j f long at = absurd (none-some f at)
field_at [] (e ∷ es) j f long at = absurd (omega (arith, long))
field_at (n ∷ names) [] j f long at = absurd (none-some f at)
field_at (n ∷ names) (e ∷ es) zero f long at = (record { name = n; sort = e }, refl, same_Some e f at, refl)
field_at (n ∷ names) (e ∷ es) (suc j) f long at = field_at names es j f (omega (arith, long)) at

module _ (d : Declarations) (consistent : IsConsistent d) (made : AreMade d) (g : GenId) (i : ℕ) (spelling : Spelling) (known : IsGenericCtor d g i spelling) where
  -- an instance of a generic is not Bool
  not_first : (s : SortId) (e : Expression) → IsOrigin d s e → head_of e ≡ Some g.0 → s.0 ≡ 1 + (s.0 - 1)
  not_first s e origin is = by (same_or_other s.0 0)
    where
      by : (s.0 ≡ 0) ⊎ (s.0 ≡ 0 → ⊥) → s.0 ≡ 1 + (s.0 - 1)
      by (inr other) = omega (arith, other)
      by (inl first) =
          let same : named 0 ≡ e = same_Some (named 0) e (sym (first_origin d consistent) ∙ ap (slice_get d.origins) (sym first) ∙ origin) in
          let bool : g.0 ≡ 0 = sym (same_Some 0 g.0 (ap head_of same ∙ is)) in
          absurd (omega (arith, known.0.1.1, first_plain d consistent known.0.0 (ap (slice_get d.declared.heads) (sym bool) ∙ known.0.1.0)))

  pub fields_made : (c : CtorId) (ctor : Constructor) → slice_get d.ctors c.0 ≡ Some ctor → ctor_among d (Generic g i) (sort_of_ctor d c) ≡ Some c → HasFieldsOf d g i spelling.fields ctor (args_of (origin_of d (sort_of_ctor d c)))
  fields_made c ctor at among = record {
    head = known.0.0;
    row = own.0;
    at_head = known.0.1.0;
    at_row = own.1;
    long = ap (λ (x : Constructor). length x.sels) (sym same_ctor) ∙ found.sels_long ∙ length-field_shapes spelling.fields row.0 row.2 ∙ ap length (sym own.2);
    each = λ j f at_f.
        let at_j : slice_get row.0 j ≡ Some f = ap (λ (es : List Expression). slice_get es j) (sym own.2) ∙ at_f in
        let t = field_at spelling.fields row.0 j f row.2 at_j in
        let sel = found.sels j t.0 t.1 in
        let source = slice_get-flat_map (λ (r : List Expression). r) (fields_of d.declared.heads e) i j row.0 f row.1 at_j in
        let there : IsAmong d.origins f = consistent.origins.fields e (s.0, origin) source.0 f source.1 in
        let number : sel.sel.sort ≡ sort_among d.origins f = sel.sort_is ∙ ap (sort_among d.origins) t.2 in
        record {
          id = sel.id;
          sel = sel.sel;
          at = ap (λ (x : Constructor). slice_get x.sels j) (sym same_ctor) ∙ sel.at;
          there = sel.there;
          sort_is = origin_is d consistent sel.sel.sort f (ap (λ (x : SortId). slice_get d.origins x.0) number ∙ sort_at d.origins f there);
          name_is = t.3 ∙ ap Some (sym sel.name_is);
        };
  }
    where
      s : SortId
      s = sort_of_ctor d c

      e : Expression
      e = origin_of d s

      parts : (head_of e ≡ Some g.0) × (nth_ctor d s i ≡ Some c)
      parts = instance_parts d g i s c among

      origin : IsOrigin d s e
      origin = origin_at d consistent s (sort_of_ctor_within d consistent c (slice_get_within d.ctors c.0 ctor at))

      later : s.0 ≡ 1 + (s.0 - 1)
      later = not_first s e origin parts.0

      origin_later : slice_get d.origins (1 + (s.0 - 1)) ≡ Some e
      origin_later = ap (slice_get d.origins) (sym later) ∙ origin

      names : AllZip NamesEach (spelling_of d.spellings e) (fields_of d.declared.heads e)
      names = names_of_sort d consistent.origins consistent.heads (first_origin d consistent) (first_plain d consistent) (s.0 - 1) e origin_later

      at_spelling : slice_get (spelling_of d.spellings e) i ≡ Some spelling
      at_spelling =
          ap (λ (xs : List Spelling). slice_get xs i) (ap (λ (o : Option ℕ). unwrap_or (option_and_then (slice_get d.spellings) o) []) parts.0 ∙ ap (λ (o : Option (List Spelling)). unwrap_or o []) known.1.1)
          ∙ known.1.2

      row : (r : List Expression) × (slice_get (fields_of d.declared.heads e) i ≡ Some r) × NamesEach spelling r
      row = AllZip-at_left NamesEach (spelling_of d.spellings e) (fields_of d.declared.heads e) i spelling names at_spelling

      own : (r : List Expression) × (slice_get known.0.0.ctors i ≡ Some r) × (map (substitute (args_of e)) r ≡ row.0)
      own = row_back d.declared.heads e g.0 i known.0.0 row.0 parts.0 known.0.1.0 row.1

      found : IsCtorOf d (1 + (s.0 - 1)) i (shape spelling row.0)
      found = made (s.0 - 1) i e (shape spelling row.0) origin_later (shape_at (spelling_of d.spellings e) (fields_of d.declared.heads e) i spelling row.0 at_spelling row.1)

      same_id : found.id ≡ c
      same_id = same_Some found.id c (sym (ap (option_and_then (λ (x : Sort). slice_get x.ctors i)) (ap (slice_get d.sorts) later ∙ found.sort_at) ∙ found.at) ∙ parts.1)

      same_ctor : found.ctor ≡ ctor
      same_ctor = same_Some found.ctor ctor (sym found.there ∙ ap (λ (x : CtorId). slice_get d.ctors x.0) same_id ∙ at)
