-- Where the constructors and fields of sorts stand among what the sorts add.
use Rattle.std.proofs.Common.{◌≡◌, ℕ, zero, suc, ◌+◌, List, [], ◌∷◌, ◌++◌, length, slice_get, Some, refl, sym, ◌∙◌, ap, subst, arith}
use Rattle.std.proofs.Math.Nat.{add-zero, zero-add}
use Rattle.std.proofs.lemmas.Option.{none-some, same_Some}
use Rattle.ct_lemmas.proofs.Lists.{slice_get-append_after, slice_get-append_left}
use Rattle.ct_sorts.specs.declared.ids.SortId.{SortId}
use Rattle.ct_generics.specs.Expression.{Expression}
use Rattle.ct_sorts.specs.Shapes.{FieldShape, CtorShape, SortShape, all_ctors, all_fields}
use Rattle.ct_sorts.specs.Declarations.{Sort, Constructor, Selector, ctor_ids, sel_ids}
use Rattle.ct_sorts.specs.Made.{new_sorts, new_ctors, new_sels, ctors_of_sort, sels_of_ctor}
use Rattle.ct_sorts.proofs.MadeLemmas.{new_sels-append, length-ctors_of_sort, length-sels_of_ctor, length-new_sels}

regroup : (e l m : ℕ) → e + l + m ≡ e + (l + m)
regroup e l m = omega arith

later : (s i : ℕ) → s + 1 + i ≡ s + suc i
later s i = omega arith

shift : (l m p k : ℕ) → k ≡ l → l + m + p ≡ k + (m + p)
shift l m p k e = omega arith

-- a field's selector has the field's sort and its name
pub field_at : (find : Expression → SortId) (c q : ℕ) (fields : List FieldShape) (p : ℕ) (f : FieldShape) → slice_get fields p ≡ Some f → (sel : Selector) × (slice_get (sels_of_ctor find c q fields) p ≡ Some sel) × (sel.sort ≡ find f.sort) × (sel.name ≡ f.name)
field_at find c q [] p f at = absurd (none-some _ at)
field_at find c q (g ∷ fields) zero f at = (record { name = g.name; ctor = record { 0 = c }; place = q; sort = find g.sort }, refl, ap (λ (h : FieldShape). find h.sort) (same_Some _ _ at), ap (λ (h : FieldShape). h.name) (same_Some _ _ at))
field_at find c q (g ∷ fields) (suc p) f at = field_at find c (q + 1) fields p f at

-- where the selectors of constructor j begin, and that they are its fields'
pub record IsCtorAt (find : Expression → SortId) (ctors : List CtorShape) (j : ℕ) (t : CtorShape) (m : ℕ) : Type 0 where
  pub ctor : (s e : ℕ) → (made : Constructor) × (slice_get (ctors_of_sort s e ctors) j ≡ Some made) × (made.sels ≡ sel_ids (e + m) (length t.fields)) × (made.name ≡ t.name) × (made.sort.0 ≡ s)
  pub sel : (c p : ℕ) (f : FieldShape) → slice_get t.fields p ≡ Some f → (made : Selector) × (slice_get (new_sels find c ctors) (m + p) ≡ Some made) × (made.sort ≡ find f.sort) × (made.name ≡ f.name)

pub ctor_at : (find : Expression → SortId) (ctors : List CtorShape) (j : ℕ) (t : CtorShape) → slice_get ctors j ≡ Some t → (m : ℕ) × IsCtorAt find ctors j t m
ctor_at find [] j t at = absurd (none-some _ at)
ctor_at find (u ∷ ctors) zero t at = (
  0,
  subst (λ v. IsCtorAt find (u ∷ ctors) 0 v 0) (same_Some _ _ at) (record {
    ctor = λ s e. (record { name = u.name; sort = record { 0 = s }; sels = sel_ids e (length u.fields) }, refl, ap (λ n. sel_ids n (length u.fields)) (sym (add-zero e)), refl, refl);
    sel = λ c p f at_f.
        let found = field_at find c 0 u.fields p f at_f in
        (found.0, ap (slice_get (new_sels find c (u ∷ ctors))) (zero-add p) ∙ slice_get-append_left (sels_of_ctor find c 0 u.fields) (new_sels find (c + 1) ctors) p found.0 found.1, found.2, found.3);
  }),
)
ctor_at find (u ∷ ctors) (suc j) t at =
    let rest = ctor_at find ctors j t at in
    let l = length u.fields in (
      l + rest.0,
      record {
        ctor = λ s e. let made = rest.1.ctor s (e + l) in (made.0, made.1, made.2 ∙ ap (λ n. sel_ids n (length t.fields)) (regroup e l rest.0), made.3, made.4);
        sel = λ c p f at_f.
            let made = rest.1.sel (c + 1) p f at_f in
            (made.0, ap (slice_get (new_sels find c (u ∷ ctors))) (shift l rest.0 p (length (sels_of_ctor find c 0 u.fields)) (length-sels_of_ctor find c 0 u.fields)) ∙ slice_get-append_after (sels_of_ctor find c 0 u.fields) (new_sels find (c + 1) ctors) (rest.0 + p) ∙ made.1, made.2, made.3);
      },
    )

-- the same of sorts: sort i has the constructors from k on, and the selectors of constructor j begin at m
pub record IsIndexed (find : Expression → SortId) (block : List SortShape) (i j : ℕ) (decl : SortShape) (t : CtorShape) (k m : ℕ) : Type 0 where
  pub sort : (a : ℕ) → (made : Sort) × (slice_get (new_sorts a block) i ≡ Some made) × (made.ctors ≡ ctor_ids (a + k) (length decl.ctors))
  pub ctor : (s e : ℕ) → (made : Constructor) × (slice_get (new_ctors s e block) (k + j) ≡ Some made) × (made.sels ≡ sel_ids (e + m) (length t.fields)) × (made.name ≡ t.name) × (made.sort.0 ≡ s + i)
  pub sel : (c p : ℕ) (f : FieldShape) → slice_get t.fields p ≡ Some f → (made : Selector) × (slice_get (new_sels find c (all_ctors block)) (m + p) ≡ Some made) × (made.sort ≡ find f.sort) × (made.name ≡ f.name)

pub indexed : (find : Expression → SortId) (block : List SortShape) (i j : ℕ) (decl : SortShape) (t : CtorShape) → slice_get block i ≡ Some decl → slice_get decl.ctors j ≡ Some t → (k : ℕ) × (m : ℕ) × IsIndexed find block i j decl t k m
indexed find [] i j decl t at_i at_j = absurd (none-some _ at_i)
indexed find (d ∷ block) zero j decl t at_i at_j =
    let found = ctor_at find d.ctors j t (subst (λ (e : SortShape). slice_get e.ctors j ≡ Some t) (sym (same_Some _ _ at_i)) at_j) in (
      0,
      found.0,
      subst (λ e. IsIndexed find (d ∷ block) 0 j e t 0 found.0) (same_Some _ _ at_i) (record {
        sort = λ a. (record { name = d.name; kind = d.kind; ctors = ctor_ids a (length d.ctors) }, refl, ap (λ n. ctor_ids n (length d.ctors)) (sym (add-zero a)));
        ctor = λ s e.
            let made = found.1.ctor s e in
            (made.0, ap (slice_get (new_ctors s e (d ∷ block))) (zero-add j) ∙ slice_get-append_left (ctors_of_sort s e d.ctors) (new_ctors (s + 1) (e + length (all_fields d.ctors)) block) j made.0 made.1, made.2, made.3, made.4 ∙ sym (add-zero s));
        sel = λ c p f at_f.
            let made = found.1.sel c p f at_f in
            (made.0, ap (λ xs. slice_get xs (found.0 + p)) (new_sels-append find c d.ctors (all_ctors block)) ∙ slice_get-append_left (new_sels find c d.ctors) (new_sels find (c + length d.ctors) (all_ctors block)) (found.0 + p) made.0 made.1, made.2, made.3);
      }),
    )
indexed find (d ∷ block) (suc i) j decl t at_i at_j =
    let rest = indexed find block i j decl t at_i at_j in
    let l = length d.ctors in
    let n = length (all_fields d.ctors) in (
      l + rest.0,
      n + rest.1,
      record {
        sort = λ a. let made = rest.2.sort (a + l) in (made.0, made.1, made.2 ∙ ap (λ q. ctor_ids q (length decl.ctors)) (regroup a l rest.0));
        ctor = λ s e.
            let made = rest.2.ctor (s + 1) (e + n) in
            (made.0, ap (slice_get (new_ctors s e (d ∷ block))) (shift l rest.0 j (length (ctors_of_sort s e d.ctors)) (length-ctors_of_sort s e d.ctors)) ∙ slice_get-append_after (ctors_of_sort s e d.ctors) (new_ctors (s + 1) (e + n) block) (rest.0 + j) ∙ made.1, made.2 ∙ ap (λ q. sel_ids q (length t.fields)) (regroup e n rest.1), made.3, made.4 ∙ later s i);
        sel = λ c p f at_f.
            let made = rest.2.sel (c + l) p f at_f in
            (made.0, ap (λ xs. slice_get xs (n + rest.1 + p)) (new_sels-append find c d.ctors (all_ctors block)) ∙ ap (slice_get (new_sels find c d.ctors ++ new_sels find (c + l) (all_ctors block))) (shift n rest.1 p (length (new_sels find c d.ctors)) (length-new_sels find c d.ctors)) ∙ slice_get-append_after (new_sels find c d.ctors) (new_sels find (c + l) (all_ctors block)) (rest.1 + p) ∙ made.1, made.2, made.3);
      },
    )
