-- Each sort but Bool has the constructors and selectors of what it is: by its number, the index of the constructor and that of the
-- field.
use Rattle.std.proofs.Common.{◌≡◌, ℕ, suc, ◌+◌, ◌<◌, List, length, map, drop, slice_get, Some, refl, sym, ◌∙◌, ap, subst, arith}
use Rattle.std.proofs.lemmas.List.FromFn.{length-map-range_with_len}
use Rattle.std.proofs.lemmas.Option.{slice_get_within}
use Rattle.ct_lemmas.proofs.Lists.{slice_get-map_at}
use Rattle.ct_generics.specs.Expression.{Expression}
use Rattle.ct_sorts.specs.declared.ids.SortId.{SortId}
use Rattle.ct_sorts.specs.declared.ids.CtorId.{CtorId}
use Rattle.ct_sorts.specs.declared.ids.SelId.{SelId}
use Rattle.ct_sorts.specs.Declarations.{Declarations, Sort, Constructor, Selector, ctor_ids, sel_ids}
use Rattle.ct_sorts.specs.Origins.{AreOrigins}
use Rattle.ct_sorts.specs.Made.{new_sorts, new_ctors, new_sels, shapes_of}
use Rattle.ct_sorts.specs.MadeAt.{IsSelOf, IsCtorOf}
use Rattle.ct_sorts.specs.Same.{sort_among}
use Rattle.ct_sorts.specs.Shapes.{FieldShape, CtorShape, SortShape, kind_of_head, shape_of, all_ctors}
use Rattle.ct_sorts.specs.SortText.{sort_name}
use Rattle.ct_generics.specs.Declarations.{head_at}
use Rattle.ct_sorts.proofs.Lists.{slice_get-drop, range-slice_get}
use Rattle.ct_sorts.proofs.MadeIndices.{indexed}
use Rattle.ct_sorts.proofs.MadeLemmas.{made_sort}

module _ (d : Declarations) (origins : AreOrigins d) where
  shapes : List SortShape
  shapes = shapes_of d (drop 1 d.origins)

  pub ctor_of_sort : (s : ℕ) (e : Expression) → slice_get d.origins (1 + s) ≡ Some e → (i : ℕ) (t : CtorShape) → slice_get (shape_of d.declared.heads d.spellings e).ctors i ≡ Some t → IsCtorOf d (1 + s) i t
  ctor_of_sort s e at_s i t at_t =
      let at_shape : slice_get (shapes_of d (drop 1 d.origins)) s ≡ Some (shape_of d.declared.heads d.spellings e) = slice_get-map_at (shape_of d.declared.heads d.spellings) (drop 1 d.origins) s e (slice_get-drop 1 d.origins s ∙ at_s) in
      let found = indexed (sort_among d.origins) (shapes_of d (drop 1 d.origins)) s i (shape_of d.declared.heads d.spellings e) t at_shape at_t in
      let sort = found.2.sort 2 in
      let ctor = found.2.ctor 1 0 in
      let number : 2 + found.0 + i ≡ 2 + (found.0 + i) = omega arith in
      let plus : (j : ℕ) → 0 + found.1 + j ≡ found.1 + j = λ j. omega arith in
      record {
        sort = sort.0;
        id = record { 0 = 2 + found.0 + i };
        ctor = ctor.0;
        sort_at = sym (slice_get-drop 1 d.sorts s) ∙ ap (λ (xs : List Sort). slice_get xs s) origins.sorts_made ∙ sort.1;
        at = ap (λ (cs : List CtorId). slice_get cs i) sort.2 ∙ range-slice_get (λ n. record { 0 = n }) (2 + found.0) (length (shape_of d.declared.heads d.spellings e).ctors) i (slice_get_within (shape_of d.declared.heads d.spellings e).ctors i t at_t);
        there = ap (slice_get d.ctors) number ∙ sym (slice_get-drop 2 d.ctors (found.0 + i)) ∙ ap (λ (xs : List Constructor). slice_get xs (found.0 + i)) origins.ctors_made ∙ ctor.1;
        name_is = ctor.3;
        sort_is = ctor.4;
        sels_long = ap length ctor.2 ∙ length-map-range_with_len (λ n. record { 0 = n }) (0 + found.1) (length t.fields);
        sels = λ j f at_f.
            let made = found.2.sel 2 j f at_f in
            record {
              id = record { 0 = 0 + found.1 + j };
              sel = made.0;
              at = ap (λ (ss : List SelId). slice_get ss j) ctor.2 ∙ range-slice_get (λ n. record { 0 = n }) (0 + found.1) (length t.fields) j (slice_get_within t.fields j f at_f);
              there = ap (λ (xs : List Selector). slice_get xs (0 + found.1 + j)) origins.sels_made ∙ ap (slice_get (new_sels (sort_among d.origins) 2 (all_ctors (shapes_of d (drop 1 d.origins))))) (plus j) ∙ made.1;
              sort_is = made.2;
              name_is = made.3;
            };
      }

  -- its kind and its name
  pub sort_is_made : (s : ℕ) (e : Expression) → slice_get d.origins (1 + s) ≡ Some e → (sort : Sort) × (slice_get d.sorts (1 + s) ≡ Some sort) × (sort.kind ≡ kind_of_head (head_at d.declared.heads e)) × (sort.name ≡ sort_name d.declared.heads e) × (length sort.ctors ≡ length (shape_of d.declared.heads d.spellings e).ctors)
  sort_is_made s e at =
      let at_shape : slice_get (shapes_of d (drop 1 d.origins)) s ≡ Some (shape_of d.declared.heads d.spellings e) = slice_get-map_at (shape_of d.declared.heads d.spellings) (drop 1 d.origins) s e (slice_get-drop 1 d.origins s ∙ at) in
      let made = made_sort 2 (shapes_of d (drop 1 d.origins)) s (shape_of d.declared.heads d.spellings e) at_shape in
      (made.0, sym (slice_get-drop 1 d.sorts s) ∙ ap (λ (xs : List Sort). slice_get xs s) origins.sorts_made ∙ made.1, made.2, made.3, made.4)

  pub kind_at : (s : ℕ) (e : Expression) → slice_get d.origins (1 + s) ≡ Some e → (sort : Sort) × (slice_get d.sorts (1 + s) ≡ Some sort) × (sort.kind ≡ kind_of_head (head_at d.declared.heads e))
  kind_at s e at = let made = sort_is_made s e at in (made.0, made.1, made.2)
