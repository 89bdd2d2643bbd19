-- What sorts are made of: as many constructors and fields as there are names and sorts, each with its name.
use Rattle.std.proofs.Common.{◌≡◌, ℕ, zero, suc, ◌+◌, ◌<◌, List, [], ◌∷◌, ◌++◌, length, map, sum, slice_get, Option, Some, None, unwrap_or, refl, sym, ◌∙◌, ap, ap₂, subst, inl, inr, ⊎_elim, arith, length-append}
use Rattle.std.specs.List.{flat_map, AllZip, sum_by}
use Rattle.std.specs.Option.{option_and_then}
use Rattle.std.proofs.lemmas.List.{length-map}
use Rattle.std.proofs.lemmas.List.Concat.{flat_map-append}
use Rattle.std.proofs.lemmas.List.Sums.{sum-map, sum_by-append}
use Rattle.std.proofs.lemmas.Option.{none-some, same_Some}
use Rattle.ct_lemmas.proofs.Lists.{slice_get-append_cases, slice_get-flat_map, slice_get-map_source}
use Rattle.ct_generics.specs.declared.kind.Kind.{Kind as HeadKind}
use Rattle.ct_generics.specs.declared.kind.Kind.TheVariants.{Bool as OfBool, Free as OfFree, Data as OfData, Codata as OfCodata}
use Rattle.ct_generics.specs.Expression.{Expression, head_of, args_of, substitute}
use Rattle.ct_generics.specs.Declarations.{Head, head_at}
use Rattle.ct_generics.specs.Reach.{fields_of, fields_with, fields_by_kind}
use Rattle.ct_generics.specs.Add.{field_sorts, ctor_count, sel_count}
use Rattle.ct_sorts.specs.declared.spelling.Spelling.{Spelling}
use Rattle.ct_sorts.specs.Heads.{NamesEach, FitsSpelling}
use Rattle.ct_sorts.specs.Shapes.{FieldShape, CtorShape, SortShape, field_shapes, ctor_shapes, spelling_of, shape_of, all_ctors, all_fields}

-- a sum with one more at the front
sum-more : {X : Type 0} (f : X → ℕ) (x : X) (xs : List X) → sum (map f (x ∷ xs)) ≡ f x + sum (map f xs)
sum-more f x xs =
    let one : sum_by f (x ∷ []) ≡ f x = omega arith in
    sum-map f (x ∷ xs) ∙ sum_by-append f (x ∷ []) xs ∙ ap₂ (λ (a b : ℕ). a + b) one (sym (sum-map f xs))

-- an element of one of the pieces
pub flat_map-source : {X Y : Type 0} (f : X → List Y) (xs : List X) (k : ℕ) (y : Y) → slice_get (flat_map f xs) k ≡ Some y → (i j : ℕ) × (x : X) × (slice_get xs i ≡ Some x) × (slice_get (f x) j ≡ Some y)
flat_map-source f [] k y at = absurd (none-some _ at)
flat_map-source f (x ∷ xs) k y at =
    ⊎_elim (λ h. (0, k, x, refl, h)) (λ h. let rest = flat_map-source f xs h.0 y h.2 in (suc rest.0, rest.1, rest.2, rest.3, rest.4)) (slice_get-append_cases (f x) (flat_map f xs) k y at)

-- a field has one of the names, and a constructor has one of the names with its fields
pub field_shapes-name : (names : List (List ℕ)) (es : List Expression) (j : ℕ) (f : FieldShape) → slice_get (field_shapes names es) j ≡ Some f → slice_get names j ≡ Some f.name
field_shapes-name [] es j f at = absurd (none-some _ at)
field_shapes-name (name ∷ names) [] j f at = absurd (none-some _ at)
field_shapes-name (name ∷ names) (e ∷ es) zero f at = ap (λ (g : FieldShape). Some g.name) (same_Some _ _ at)
field_shapes-name (name ∷ names) (e ∷ es) (suc j) f at = field_shapes-name names es j f at

pub ctor_shapes-name : (ctors : List Spelling) (rows : List (List Expression)) (i : ℕ) (t : CtorShape) → slice_get (ctor_shapes ctors rows) i ≡ Some t → (s : Spelling) × (slice_get ctors i ≡ Some s) × (s.name ≡ t.name) × ((j : ℕ) (f : FieldShape) → slice_get t.fields j ≡ Some f → slice_get s.fields j ≡ Some f.name)
ctor_shapes-name [] rows i t at = absurd (none-some _ at)
ctor_shapes-name (s ∷ ctors) [] i t at = absurd (none-some _ at)
ctor_shapes-name (s ∷ ctors) (row ∷ rows) zero t at =
    let same = same_Some _ _ at in
    (s, refl, ap (λ (u : CtorShape). u.name) same, λ j f at_f. field_shapes-name s.fields row j f (ap (λ (u : CtorShape). slice_get u.fields j) same ∙ at_f))
ctor_shapes-name (s ∷ ctors) (row ∷ rows) (suc i) t at = ctor_shapes-name ctors rows i t at

-- as many fields as sorts, and as many constructors as rows
pub length-field_shapes : (names : List (List ℕ)) (es : List Expression) → length names ≡ length es → length (field_shapes names es) ≡ length es
length-field_shapes [] [] e = refl
length-field_shapes [] (x ∷ es) e = absurd (omega (arith, e))
length-field_shapes (n ∷ names) [] e = absurd (omega (arith, e))
length-field_shapes (n ∷ names) (x ∷ es) e = ap suc (length-field_shapes names es (omega (arith, e)))

pub length-ctor_shapes : (ctors : List Spelling) (rows : List (List Expression)) → AllZip NamesEach ctors rows → length (ctor_shapes ctors rows) ≡ length rows
length-ctor_shapes [] [] all = refl
length-ctor_shapes [] (row ∷ rows) all = absurd all
length-ctor_shapes (c ∷ ctors) [] all = absurd all
length-ctor_shapes (c ∷ ctors) (row ∷ rows) all = ap suc (length-ctor_shapes ctors rows all.1)

pub length-fields : (ctors : List Spelling) (rows : List (List Expression)) → AllZip NamesEach ctors rows → length (all_fields (ctor_shapes ctors rows)) ≡ length (flat_map (λ row. row) rows)
length-fields [] [] all = refl
length-fields [] (row ∷ rows) all = absurd all
length-fields (c ∷ ctors) [] all = absurd all
length-fields (c ∷ ctors) (row ∷ rows) all =
    omega (arith, length-append (field_shapes c.fields row) (all_fields (ctor_shapes ctors rows)), length-append row (flat_map (λ r. r) rows), length-field_shapes c.fields row all.0, length-fields ctors rows all.1)

pub AllZip-length : (ctors : List Spelling) (rows : List (List Expression)) → AllZip NamesEach ctors rows → length ctors ≡ length rows
AllZip-length [] [] all = refl
AllZip-length [] (row ∷ rows) all = absurd all
AllZip-length (c ∷ ctors) [] all = absurd all
AllZip-length (c ∷ ctors) (row ∷ rows) all = ap suc (AllZip-length ctors rows all.1)

-- names for each field stay so with arguments in place of the parameters
pub names_each-map : (f : Expression → Expression) (ctors : List Spelling) (rows : List (List Expression)) → AllZip NamesEach ctors rows → AllZip NamesEach ctors (map (map f) rows)
names_each-map f [] [] all = all
names_each-map f [] (row ∷ rows) all = absurd all
names_each-map f (c ∷ ctors) [] all = absurd all
names_each-map f (c ∷ ctors) (row ∷ rows) all = (all.0 ∙ sym (length-map row f), names_each-map f ctors rows all.1)

module _ (heads : List Head) (spellings : List (List Spelling)) (spelled : (h : ℕ) (head : Head) (ctors : List Spelling) → slice_get heads h ≡ Some head → slice_get spellings h ≡ Some ctors → FitsSpelling h head.kind head.ctors ctors) where
  by_kind : (k : ℕ) (kind : HeadKind) (rows : List (List Expression)) (ctors : List Spelling) (f : Expression → Expression) → FitsSpelling (suc k) kind rows ctors → AllZip NamesEach ctors (fields_by_kind kind (map (map f) rows))
  by_kind k OfBool rows ctors f fits = absurd (omega (arith, fits))
  by_kind k OfFree rows ctors f fits = subst (λ (cs : List Spelling). AllZip NamesEach cs []) (sym fits.1) tt
  by_kind k OfData rows ctors f fits = names_each-map f ctors rows fits.1
  by_kind k OfCodata rows ctors f fits = names_each-map f ctors rows fits.1

  -- each constructor of a sort that is not Bool, and each of its fields, has a name
  pub names_each : (e : Expression) (k : ℕ) (head : Head) (ctors : List Spelling) → head_of e ≡ Some (suc k) → slice_get heads (suc k) ≡ Some head → slice_get spellings (suc k) ≡ Some ctors → AllZip NamesEach (spelling_of spellings e) (fields_of heads e)
  names_each e k head ctors is at names =
      let rows : fields_of heads e ≡ fields_by_kind head.kind (map (map (substitute (args_of e))) head.ctors) = ap (λ (o : Option Head). fields_with o (args_of e)) (ap (option_and_then (slice_get heads)) is ∙ at) in
      let own : spelling_of spellings e ≡ ctors = ap (λ (o : Option (List Spelling)). unwrap_or o []) (ap (option_and_then (slice_get spellings)) is ∙ names) in
      subst (λ (cs : List Spelling). AllZip NamesEach cs (fields_of heads e)) (sym own) (subst (AllZip NamesEach ctors) (sym rows) (by_kind k head.kind head.ctors ctors (substitute (args_of e)) (spelled (suc k) head ctors at names)))

-- where each constructor and each field has a name, the shapes of sorts have as many constructors and fields as these have
module _ (heads : List Head) (spellings : List (List Spelling)) (each : Expression → Type 0) (named_each : (e : Expression) → each e → AllZip NamesEach (spelling_of spellings e) (fields_of heads e)) where
  pub count_ctors : (es : List Expression) → ((i : ℕ) (e : Expression) → slice_get es i ≡ Some e → each e) → length (all_ctors (map (shape_of heads spellings) es)) ≡ ctor_count heads es
  count_ctors [] all = refl
  count_ctors (e ∷ es) all =
      let counted : ctor_count heads (e ∷ es) ≡ length (fields_of heads e) + ctor_count heads es = sum-more (λ x. length (fields_of heads x)) e es in
      let whole : length (all_ctors (map (shape_of heads spellings) (e ∷ es))) ≡ length (ctor_shapes (spelling_of spellings e) (fields_of heads e) ++ all_ctors (map (shape_of heads spellings) es)) = refl in
      omega (arith, counted, whole, length-append (ctor_shapes (spelling_of spellings e) (fields_of heads e)) (all_ctors (map (shape_of heads spellings) es)), length-ctor_shapes (spelling_of spellings e) (fields_of heads e) (named_each e (all 0 e refl)), count_ctors es (λ i f at. all (suc i) f at))

  pub count_sels : (es : List Expression) → ((i : ℕ) (e : Expression) → slice_get es i ≡ Some e → each e) → length (all_fields (all_ctors (map (shape_of heads spellings) es))) ≡ sel_count heads es
  count_sels [] all = refl
  count_sels (e ∷ es) all =
      let counted : sel_count heads (e ∷ es) ≡ length (field_sorts heads e) + sel_count heads es = sum-more (λ x. length (field_sorts heads x)) e es in
      let whole : length (all_fields (all_ctors (map (shape_of heads spellings) (e ∷ es)))) ≡ length (all_fields (ctor_shapes (spelling_of spellings e) (fields_of heads e) ++ all_ctors (map (shape_of heads spellings) es))) = refl in
      omega (
        arith,
        counted,
        whole,
        ap length (flat_map-append (λ (c : CtorShape). c.fields) (ctor_shapes (spelling_of spellings e) (fields_of heads e)) (all_ctors (map (shape_of heads spellings) es))),
        length-append (all_fields (ctor_shapes (spelling_of spellings e) (fields_of heads e))) (all_fields (all_ctors (map (shape_of heads spellings) es))),
        length-fields (spelling_of spellings e) (fields_of heads e) (named_each e (all 0 e refl)),
        count_sels es (λ i f at. all (suc i) f at),
      )

-- a field of a constructor has one of the sorts
field_shapes-sort : (names : List (List ℕ)) (es : List Expression) (j : ℕ) (f : FieldShape) → slice_get (field_shapes names es) j ≡ Some f → slice_get es j ≡ Some f.sort
field_shapes-sort [] es j f at = absurd (none-some _ at)
field_shapes-sort (name ∷ names) [] j f at = absurd (none-some _ at)
field_shapes-sort (name ∷ names) (e ∷ es) zero f at = ap (λ (g : FieldShape). Some g.sort) (same_Some _ _ at)
field_shapes-sort (name ∷ names) (e ∷ es) (suc j) f at = field_shapes-sort names es j f at

ctor_shapes-row : (ctors : List Spelling) (rows : List (List Expression)) (i : ℕ) (t : CtorShape) → slice_get (ctor_shapes ctors rows) i ≡ Some t → (row : List Expression) × (slice_get rows i ≡ Some row) × ((j : ℕ) (f : FieldShape) → slice_get t.fields j ≡ Some f → slice_get row j ≡ Some f.sort)
ctor_shapes-row [] rows i t at = absurd (none-some _ at)
ctor_shapes-row (s ∷ ctors) [] i t at = absurd (none-some _ at)
ctor_shapes-row (s ∷ ctors) (row ∷ rows) zero t at =
    let same = same_Some _ _ at in
    (row, refl, λ j f at_f. field_shapes-sort s.fields row j f (ap (λ (u : CtorShape). slice_get u.fields j) same ∙ at_f))
ctor_shapes-row (s ∷ ctors) (row ∷ rows) (suc i) t at = ctor_shapes-row ctors rows i t at

-- the sort of a field of a sort is among the sorts of its fields
pub field_among : (heads : List Head) (spellings : List (List Spelling)) (e : Expression) (i j : ℕ) (t : CtorShape) (f : FieldShape) → slice_get (shape_of heads spellings e).ctors i ≡ Some t → slice_get t.fields j ≡ Some f → (k : ℕ) × (slice_get (field_sorts heads e) k ≡ Some f.sort)
field_among heads spellings e i j t f at_t at_f =
    let row = ctor_shapes-row (spelling_of spellings e) (fields_of heads e) i t at_t in
    slice_get-flat_map (λ (r : List Expression). r) (fields_of heads e) i j row.0 f.sort row.1 (row.2 j f at_f)

-- each row has a constructor, whose fields have its sorts
pub shape_row : (ctors : List Spelling) (rows : List (List Expression)) (i : ℕ) (row : List Expression) → AllZip NamesEach ctors rows → slice_get rows i ≡ Some row → (t : CtorShape) × (slice_get (ctor_shapes ctors rows) i ≡ Some t) × ((j : ℕ) (f : FieldShape) → slice_get t.fields j ≡ Some f → slice_get row j ≡ Some f.sort)
shape_row [] [] i row all at = absurd (none-some _ at)
shape_row [] (r ∷ rows) i row all at = absurd all
shape_row (c ∷ ctors) [] i row all at = absurd all
shape_row (c ∷ ctors) (r ∷ rows) zero row all at =
    (record { name = c.name; fields = field_shapes c.fields r }, refl, λ j f at_f. subst (λ (x : List Expression). slice_get x j ≡ Some f.sort) (same_Some _ _ at) (field_shapes-sort c.fields r j f at_f))
shape_row (c ∷ ctors) (r ∷ rows) (suc i) row all at = shape_row ctors rows i row all.1 at
