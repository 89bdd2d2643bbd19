-- What sorts add to the lists of declarations.
use Rattle.std.proofs.Common.{◌≡◌, ℕ, zero, suc, ◌+◌, List, [], ◌∷◌, ◌++◌, length, map, replicate, slice_get, Some, ⊎_elim, refl, sym, ◌∙◌, ap, arith, length-append}
use Rattle.std.proofs.lemmas.List.{append_assoc, map-append, length-map}
use Rattle.std.proofs.lemmas.Option.{none-some, same_Some}
use Rattle.std.proofs.lemmas.List.Concat.{flat_map-append}
use Rattle.std.proofs.lemmas.List.FromFn.{length-map-range_with_len}
use Rattle.std.specs.List.{flat_map, range_with_len}
use Rattle.ct_lemmas.proofs.Lists.{slice_get-append_cases}
use Rattle.ct_sorts.specs.declared.ids.SortId.{SortId}
use Rattle.ct_sorts.specs.declared.ids.SelId.{SelId}
use Rattle.ct_generics.specs.Expression.{Expression}
use Rattle.ct_sorts.specs.Shapes.{FieldShape, CtorShape, SortShape, all_ctors, all_fields}
use Rattle.ct_sorts.specs.Declarations.{Sort, Constructor, Selector, ctor_ids, sel_ids}
use Rattle.ct_sorts.specs.Consistent.{owners, indices}
use Rattle.ct_sorts.proofs.Lists.{range-append, owners-append}
use Rattle.ct_sorts.specs.Made.{new_sorts, new_ctors, new_sels, ctors_of_sort, sels_of_ctor}

-- the selectors of two rows of constructors
pub new_sels-append : (number : Expression → SortId) (k : ℕ) (xs ys : List CtorShape) → new_sels number k (xs ++ ys) ≡ new_sels number k xs ++ new_sels number (k + length xs) ys
new_sels-append number k [] ys = let e : k + 0 ≡ k = omega arith in rw e refl
new_sels-append number k (x ∷ xs) ys =
    let e : k + suc (length xs) ≡ k + 1 + length xs = omega arith in
    rw (e, new_sels-append number (k + 1) xs ys) (sym (append_assoc (sels_of_ctor number k 0 x.fields) (new_sels number (k + 1) xs) (new_sels number (k + 1 + length xs) ys)))

-- the names that they add
pub names-new_sorts : (k : ℕ) (block : List SortShape) → map (λ (s : Sort). s.name) (new_sorts k block) ≡ map (λ (s : SortShape). s.name) block
names-new_sorts k [] = refl
names-new_sorts k (s ∷ block) = ap (λ ns. s.name ∷ ns) (names-new_sorts (k + length s.ctors) block)

pub names-ctors_of_sort : (s k : ℕ) (ctors : List CtorShape) → map (λ (c : Constructor). c.name) (ctors_of_sort s k ctors) ≡ map (λ (c : CtorShape). c.name) ctors
names-ctors_of_sort s k [] = refl
names-ctors_of_sort s k (c ∷ ctors) = ap (λ ns. c.name ∷ ns) (names-ctors_of_sort s (k + length c.fields) ctors)

pub names-new_ctors : (s k : ℕ) (block : List SortShape) → map (λ (c : Constructor). c.name) (new_ctors s k block) ≡ map (λ (c : CtorShape). c.name) (all_ctors block)
names-new_ctors s k [] = refl
names-new_ctors s k (d ∷ block) =
    map-append (λ (c : Constructor). c.name) (ctors_of_sort s k d.ctors) (new_ctors (s + 1) (k + length (all_fields d.ctors)) block)
    ∙ ap (λ ns. ns ++ map (λ (c : Constructor). c.name) (new_ctors (s + 1) (k + length (all_fields d.ctors)) block)) (names-ctors_of_sort s k d.ctors)
    ∙ ap (λ ns. map (λ (c : CtorShape). c.name) d.ctors ++ ns) (names-new_ctors (s + 1) (k + length (all_fields d.ctors)) block)
    ∙ sym (map-append (λ (c : CtorShape). c.name) d.ctors (all_ctors block))

pub names-sels_of_ctor : (number : Expression → SortId) (c p : ℕ) (fields : List FieldShape) → map (λ (s : Selector). s.name) (sels_of_ctor number c p fields) ≡ map (λ (f : FieldShape). f.name) fields
names-sels_of_ctor number c p [] = refl
names-sels_of_ctor number c p (f ∷ fields) = ap (λ ns. f.name ∷ ns) (names-sels_of_ctor number c (p + 1) fields)

pub names-new_sels : (number : Expression → SortId) (c : ℕ) (ctors : List CtorShape) → map (λ (s : Selector). s.name) (new_sels number c ctors) ≡ map (λ (f : FieldShape). f.name) (all_fields ctors)
names-new_sels number c [] = refl
names-new_sels number c (t ∷ ctors) =
    map-append (λ (s : Selector). s.name) (sels_of_ctor number c 0 t.fields) (new_sels number (c + 1) ctors)
    ∙ ap (λ ns. ns ++ map (λ (s : Selector). s.name) (new_sels number (c + 1) ctors)) (names-sels_of_ctor number c 0 t.fields)
    ∙ ap (λ ns. map (λ (f : FieldShape). f.name) t.fields ++ ns) (names-new_sels number (c + 1) ctors)
    ∙ sym (map-append (λ (f : FieldShape). f.name) t.fields (all_fields ctors))

-- how many they add
pub length-new_sorts : (k : ℕ) (block : List SortShape) → length (new_sorts k block) ≡ length block
length-new_sorts k [] = refl
length-new_sorts k (s ∷ block) = ap suc (length-new_sorts (k + length s.ctors) block)

pub length-ctors_of_sort : (s k : ℕ) (ctors : List CtorShape) → length (ctors_of_sort s k ctors) ≡ length ctors
length-ctors_of_sort s k [] = refl
length-ctors_of_sort s k (c ∷ ctors) = ap suc (length-ctors_of_sort s (k + length c.fields) ctors)

pub length-new_ctors : (s k : ℕ) (block : List SortShape) → length (new_ctors s k block) ≡ length (all_ctors block)
length-new_ctors s k [] = refl
length-new_ctors s k (d ∷ block) =
    omega (arith, length-append (ctors_of_sort s k d.ctors) (new_ctors (s + 1) (k + length (all_fields d.ctors)) block), length-ctors_of_sort s k d.ctors, length-new_ctors (s + 1) (k + length (all_fields d.ctors)) block, length-append d.ctors (all_ctors block))

pub length-sels_of_ctor : (number : Expression → SortId) (c p : ℕ) (fields : List FieldShape) → length (sels_of_ctor number c p fields) ≡ length fields
length-sels_of_ctor number c p [] = refl
length-sels_of_ctor number c p (f ∷ fields) = ap suc (length-sels_of_ctor number c (p + 1) fields)

pub length-new_sels : (number : Expression → SortId) (c : ℕ) (ctors : List CtorShape) → length (new_sels number c ctors) ≡ length (all_fields ctors)
length-new_sels number c [] = refl
length-new_sels number c (t ∷ ctors) =
    omega (arith, length-append (sels_of_ctor number c 0 t.fields) (new_sels number (c + 1) ctors), length-sels_of_ctor number c 0 t.fields, length-new_sels number (c + 1) ctors, length-append t.fields (all_fields ctors))

-- the constructors of the new sorts are the next in a row
pub ctors-new_sorts : (k : ℕ) (block : List SortShape) → flat_map (λ (s : Sort). s.ctors) (new_sorts k block) ≡ ctor_ids k (length (all_ctors block))
ctors-new_sorts k [] = refl
ctors-new_sorts k (s ∷ block) =
    ap (λ ids. ctor_ids k (length s.ctors) ++ ids) (ctors-new_sorts (k + length s.ctors) block)
    ∙ range-append (λ n. record { 0 = n }) k (length s.ctors) (length (all_ctors block))
    ∙ ap (ctor_ids k) (sym (length-append s.ctors (all_ctors block)))

-- each new constructor is of its sort
pub owners-ctors_of_sort : (s k : ℕ) (ctors : List CtorShape) → map (λ (c : Constructor). c.sort.0) (ctors_of_sort s k ctors) ≡ replicate (length ctors) s
owners-ctors_of_sort s k [] = refl
owners-ctors_of_sort s k (c ∷ ctors) = ap (λ ns. s ∷ ns) (owners-ctors_of_sort s (k + length c.fields) ctors)

pub owners-new_ctors : (s k j : ℕ) (block : List SortShape) → map (λ (c : Constructor). c.sort.0) (new_ctors s k block) ≡ owners s (map (λ (t : Sort). t.ctors) (new_sorts j block))
owners-new_ctors s k j [] = refl
owners-new_ctors s k j (d ∷ block) =
    let rest = new_ctors (s + 1) (k + length (all_fields d.ctors)) block in
    map-append (λ (c : Constructor). c.sort.0) (ctors_of_sort s k d.ctors) rest
    ∙ ap (λ ns. ns ++ map (λ (c : Constructor). c.sort.0) rest) (owners-ctors_of_sort s k d.ctors ∙ ap (λ n. replicate n s) (sym (length-map-range_with_len (λ n. record { 0 = n }) j (length d.ctors))))
    ∙ ap (λ ns. replicate (length (ctor_ids j (length d.ctors))) s ++ ns) (owners-new_ctors (s + 1) (k + length (all_fields d.ctors)) (j + length d.ctors) block)

-- the selectors of the new constructors are the next in a row
pub sels-ctors_of_sort : (s k : ℕ) (ctors : List CtorShape) → flat_map (λ (c : Constructor). c.sels) (ctors_of_sort s k ctors) ≡ sel_ids k (length (all_fields ctors))
sels-ctors_of_sort s k [] = refl
sels-ctors_of_sort s k (c ∷ ctors) =
    ap (λ ids. sel_ids k (length c.fields) ++ ids) (sels-ctors_of_sort s (k + length c.fields) ctors)
    ∙ range-append (λ n. record { 0 = n }) k (length c.fields) (length (all_fields ctors))
    ∙ ap (sel_ids k) (sym (length-append c.fields (all_fields ctors)))

pub sels-new_ctors : (s k : ℕ) (block : List SortShape) → flat_map (λ (c : Constructor). c.sels) (new_ctors s k block) ≡ sel_ids k (length (all_fields (all_ctors block)))
sels-new_ctors s k [] = refl
sels-new_ctors s k (d ∷ block) =
    let n = length (all_fields d.ctors) in
    flat_map-append (λ (c : Constructor). c.sels) (ctors_of_sort s k d.ctors) (new_ctors (s + 1) (k + n) block)
    ∙ ap (λ ids. ids ++ flat_map (λ (c : Constructor). c.sels) (new_ctors (s + 1) (k + n) block)) (sels-ctors_of_sort s k d.ctors)
    ∙ ap (λ ids. sel_ids k n ++ ids) (sels-new_ctors (s + 1) (k + n) block)
    ∙ range-append (λ n. record { 0 = n }) k n (length (all_fields (all_ctors block)))
    ∙ ap (sel_ids k) (sym (length-append (all_fields d.ctors) (all_fields (all_ctors block))) ∙ ap length (sym (flat_map-append (λ (c : CtorShape). c.fields) d.ctors (all_ctors block))))

-- each new selector is of its constructor and its place
pub owners-sels_of_ctor : (number : Expression → SortId) (c p : ℕ) (fields : List FieldShape) → map (λ (s : Selector). s.ctor.0) (sels_of_ctor number c p fields) ≡ replicate (length fields) c
owners-sels_of_ctor number c p [] = refl
owners-sels_of_ctor number c p (f ∷ fields) = ap (λ ns. c ∷ ns) (owners-sels_of_ctor number c (p + 1) fields)

pub indices-sels_of_ctor : (number : Expression → SortId) (c p : ℕ) (fields : List FieldShape) → map (λ (s : Selector). s.place) (sels_of_ctor number c p fields) ≡ range_with_len p (length fields)
indices-sels_of_ctor number c p [] = refl
indices-sels_of_ctor number c p (f ∷ fields) = ap (λ ns. p ∷ ns) (indices-sels_of_ctor number c (p + 1) fields)

pub owners-new_sels-sort : (number : Expression → SortId) (c s k : ℕ) (ctors : List CtorShape) → map (λ (t : Selector). t.ctor.0) (new_sels number c ctors) ≡ owners c (map (λ (t : Constructor). t.sels) (ctors_of_sort s k ctors))
owners-new_sels-sort number c s k [] = refl
owners-new_sels-sort number c s k (t ∷ ctors) =
    map-append (λ (u : Selector). u.ctor.0) (sels_of_ctor number c 0 t.fields) (new_sels number (c + 1) ctors)
    ∙ ap (λ ns. ns ++ map (λ (u : Selector). u.ctor.0) (new_sels number (c + 1) ctors)) (owners-sels_of_ctor number c 0 t.fields ∙ ap (λ n. replicate n c) (sym (length-map-range_with_len (λ n. record { 0 = n }) k (length t.fields))))
    ∙ ap (λ ns. replicate (length (sel_ids k (length t.fields))) c ++ ns) (owners-new_sels-sort number (c + 1) s (k + length t.fields) ctors)

pub owners-new_sels : (number : Expression → SortId) (c s k : ℕ) (block : List SortShape) → map (λ (t : Selector). t.ctor.0) (new_sels number c (all_ctors block)) ≡ owners c (map (λ (t : Constructor). t.sels) (new_ctors s k block))
owners-new_sels number c s k [] = refl
owners-new_sels number c s k (d ∷ block) =
    let n = length (all_fields d.ctors) in
    let groups = map (λ (t : Constructor). t.sels) (ctors_of_sort s k d.ctors) in
    let count : length d.ctors ≡ length groups = sym (length-map (ctors_of_sort s k d.ctors) (λ (t : Constructor). t.sels) ∙ length-ctors_of_sort s k d.ctors) in
    ap (map (λ (t : Selector). t.ctor.0)) (new_sels-append number c d.ctors (all_ctors block))
    ∙ map-append (λ (t : Selector). t.ctor.0) (new_sels number c d.ctors) (new_sels number (c + length d.ctors) (all_ctors block))
    ∙ ap (λ ns. ns ++ map (λ (t : Selector). t.ctor.0) (new_sels number (c + length d.ctors) (all_ctors block))) (owners-new_sels-sort number c s k d.ctors)
    ∙ ap (λ ns. owners c groups ++ ns) (owners-new_sels number (c + length d.ctors) (s + 1) (k + n) block ∙ ap (λ m. owners (c + m) (map (λ (t : Constructor). t.sels) (new_ctors (s + 1) (k + n) block))) count)
    ∙ sym (owners-append c groups (map (λ (t : Constructor). t.sels) (new_ctors (s + 1) (k + n) block)))
    ∙ ap (owners c) (sym (map-append (λ (t : Constructor). t.sels) (ctors_of_sort s k d.ctors) (new_ctors (s + 1) (k + n) block)))

pub indices-new_sels-sort : (number : Expression → SortId) (c s k : ℕ) (ctors : List CtorShape) → map (λ (t : Selector). t.place) (new_sels number c ctors) ≡ indices (map (λ (t : Constructor). t.sels) (ctors_of_sort s k ctors))
indices-new_sels-sort number c s k [] = refl
indices-new_sels-sort number c s k (t ∷ ctors) =
    map-append (λ (u : Selector). u.place) (sels_of_ctor number c 0 t.fields) (new_sels number (c + 1) ctors)
    ∙ ap (λ ns. ns ++ map (λ (u : Selector). u.place) (new_sels number (c + 1) ctors)) (indices-sels_of_ctor number c 0 t.fields ∙ ap (range_with_len 0) (sym (length-map-range_with_len (λ n. record { 0 = n }) k (length t.fields))))
    ∙ ap (λ ns. range_with_len 0 (length (sel_ids k (length t.fields))) ++ ns) (indices-new_sels-sort number (c + 1) s (k + length t.fields) ctors)

pub indices-new_sels : (number : Expression → SortId) (c s k : ℕ) (block : List SortShape) → map (λ (t : Selector). t.place) (new_sels number c (all_ctors block)) ≡ indices (map (λ (t : Constructor). t.sels) (new_ctors s k block))
indices-new_sels number c s k [] = refl
indices-new_sels number c s k (d ∷ block) =
    let n = length (all_fields d.ctors) in
    let groups = map (λ (t : Constructor). t.sels) (ctors_of_sort s k d.ctors) in
    ap (map (λ (t : Selector). t.place)) (new_sels-append number c d.ctors (all_ctors block))
    ∙ map-append (λ (t : Selector). t.place) (new_sels number c d.ctors) (new_sels number (c + length d.ctors) (all_ctors block))
    ∙ ap (λ ns. ns ++ map (λ (t : Selector). t.place) (new_sels number (c + length d.ctors) (all_ctors block))) (indices-new_sels-sort number c s k d.ctors)
    ∙ ap (λ ns. indices groups ++ ns) (indices-new_sels number (c + length d.ctors) (s + 1) (k + n) block)
    ∙ sym (flat_map-append (λ (g : List SelId). range_with_len 0 (length g)) groups (map (λ (t : Constructor). t.sels) (new_ctors (s + 1) (k + n) block)))
    ∙ ap indices (sym (map-append (λ (t : Constructor). t.sels) (ctors_of_sort s k d.ctors) (new_ctors (s + 1) (k + n) block)))

-- each new sort has the kind and as many constructors as its shape
pub kinds-new_sorts : (k : ℕ) (block : List SortShape) (i : ℕ) (sort : Sort) → slice_get (new_sorts k block) i ≡ Some sort → (shape : SortShape) × (slice_get block i ≡ Some shape) × (sort.kind ≡ shape.kind) × (length sort.ctors ≡ length shape.ctors)
kinds-new_sorts k [] i sort at = absurd (none-some _ at)
kinds-new_sorts k (s ∷ block) zero sort at =
    let is = same_Some _ _ at in
    (s, refl, ap (λ (t : Sort). t.kind) (sym is), ap (λ (t : Sort). length t.ctors) (sym is) ∙ length-map-range_with_len (λ n. record { 0 = n }) k (length s.ctors))
kinds-new_sorts k (s ∷ block) (suc i) sort at = kinds-new_sorts (k + length s.ctors) block i sort at

-- each new selector has the sort of a field
pub sorts-sels_of_ctor : (number : Expression → SortId) (c p : ℕ) (fields : List FieldShape) (i : ℕ) (sel : Selector) → slice_get (sels_of_ctor number c p fields) i ≡ Some sel → (e : Expression) × (sel.sort ≡ number e)
sorts-sels_of_ctor number c p [] i sel at = absurd (none-some _ at)
sorts-sels_of_ctor number c p (f ∷ fields) zero sel at = (f.sort, ap (λ (t : Selector). t.sort) (sym (same_Some _ _ at)))
sorts-sels_of_ctor number c p (f ∷ fields) (suc i) sel at = sorts-sels_of_ctor number c (p + 1) fields i sel at

pub sorts-new_sels : (number : Expression → SortId) (c : ℕ) (ctors : List CtorShape) (i : ℕ) (sel : Selector) → slice_get (new_sels number c ctors) i ≡ Some sel → (e : Expression) × (sel.sort ≡ number e)
sorts-new_sels number c [] i sel at = absurd (none-some _ at)
sorts-new_sels number c (t ∷ ctors) i sel at =
    ⊎_elim (λ h. sorts-sels_of_ctor number c 0 t.fields i sel h) (λ h. sorts-new_sels number (c + 1) ctors h.0 sel h.2) (slice_get-append_cases (sels_of_ctor number c 0 t.fields) (new_sels number (c + 1) ctors) i sel at)

-- what sorts add, in two parts
pub new_sorts-append : (k : ℕ) (xs ys : List SortShape) → new_sorts k (xs ++ ys) ≡ new_sorts k xs ++ new_sorts (k + length (all_ctors xs)) ys
new_sorts-append k [] ys = let e : k + 0 ≡ k = omega arith in rw e refl
new_sorts-append k (x ∷ xs) ys =
    let e : k + length (all_ctors (x ∷ xs)) ≡ k + length x.ctors + length (all_ctors xs) = omega (arith, length-append x.ctors (all_ctors xs)) in
    rw (e, new_sorts-append (k + length x.ctors) xs ys) refl

pub new_ctors-append : (s k : ℕ) (xs ys : List SortShape) → new_ctors s k (xs ++ ys) ≡ new_ctors s k xs ++ new_ctors (s + length xs) (k + length (all_fields (all_ctors xs))) ys
new_ctors-append s k [] ys = let e : s + 0 ≡ s = omega arith in let f : k + 0 ≡ k = omega arith in rw (e, f) refl
new_ctors-append s k (x ∷ xs) ys =
    let n = length (all_fields x.ctors) in
    let e : s + suc (length xs) ≡ s + 1 + length xs = omega arith in
    let f : k + length (all_fields (all_ctors (x ∷ xs))) ≡ k + n + length (all_fields (all_ctors xs)) = omega (arith, ap length (flat_map-append (λ (c : CtorShape). c.fields) x.ctors (all_ctors xs)), length-append (all_fields x.ctors) (all_fields (all_ctors xs))) in
    rw (e, f, new_ctors-append (s + 1) (k + n) xs ys) (sym (append_assoc (ctors_of_sort s k x.ctors) (new_ctors (s + 1) (k + n) xs) (new_ctors (s + 1 + length xs) (k + n + length (all_fields (all_ctors xs))) ys)))

-- selectors whose fields' sorts have the same numbers are the same
pub sels_of_ctor-same : (number other : Expression → SortId) (c p : ℕ) (fields : List FieldShape) → ((j : ℕ) (f : FieldShape) → slice_get fields j ≡ Some f → other f.sort ≡ number f.sort) → sels_of_ctor other c p fields ≡ sels_of_ctor number c p fields
sels_of_ctor-same number other c p [] same = refl
sels_of_ctor-same number other c p (f ∷ fields) same =
    λ i. record { name = f.name; ctor = record { 0 = c }; place = p; sort = same 0 f refl i } ∷ sels_of_ctor-same number other c (p + 1) fields (λ j g at. same (suc j) g at) i

pub new_sels-same : (number other : Expression → SortId) (c : ℕ) (ctors : List CtorShape) → ((i j : ℕ) (t : CtorShape) (f : FieldShape) → slice_get ctors i ≡ Some t → slice_get t.fields j ≡ Some f → other f.sort ≡ number f.sort) → new_sels other c ctors ≡ new_sels number c ctors
new_sels-same number other c [] same = refl
new_sels-same number other c (t ∷ ctors) same =
    λ i. sels_of_ctor-same number other c 0 t.fields (λ j f at. same 0 j t f refl at) i ++ new_sels-same number other (c + 1) ctors (λ k j u f at_u at. same (suc k) j u f at_u at) i

-- each new selector has the sort of a field of one of the constructors
pub source-sels_of_ctor : (number : Expression → SortId) (c p : ℕ) (fields : List FieldShape) (i : ℕ) (sel : Selector) → slice_get (sels_of_ctor number c p fields) i ≡ Some sel → (j : ℕ) × (f : FieldShape) × (slice_get fields j ≡ Some f) × (sel.sort ≡ number f.sort) × (sel.name ≡ f.name)
source-sels_of_ctor number c p [] i sel at = absurd (none-some _ at)
source-sels_of_ctor number c p (f ∷ fields) zero sel at = let same = sym (same_Some _ _ at) in (0, f, refl, ap (λ (t : Selector). t.sort) same, ap (λ (t : Selector). t.name) same)
source-sels_of_ctor number c p (f ∷ fields) (suc i) sel at = let rest = source-sels_of_ctor number c (p + 1) fields i sel at in (suc rest.0, rest.1, rest.2, rest.3, rest.4)

pub source-new_sels : (number : Expression → SortId) (c : ℕ) (ctors : List CtorShape) (i : ℕ) (sel : Selector) → slice_get (new_sels number c ctors) i ≡ Some sel → (k j : ℕ) × (t : CtorShape) × (f : FieldShape) × (slice_get ctors k ≡ Some t) × (slice_get t.fields j ≡ Some f) × (sel.sort ≡ number f.sort) × (sel.name ≡ f.name)
source-new_sels number c [] i sel at = absurd (none-some _ at)
source-new_sels number c (t ∷ ctors) i sel at =
    ⊎_elim
    (λ h. let here = source-sels_of_ctor number c 0 t.fields i sel h in (0, here.0, t, here.1, refl, here.2, here.3, here.4))
    (λ h. let rest = source-new_sels number (c + 1) ctors h.0 sel h.2 in (suc rest.0, rest.1, rest.2, rest.3, rest.4, rest.5, rest.6, rest.7))
    (slice_get-append_cases (sels_of_ctor number c 0 t.fields) (new_sels number (c + 1) ctors) i sel at)

-- the sort of a shape
pub made_sort : (k : ℕ) (shapes : List SortShape) (s : ℕ) (shape : SortShape) → slice_get shapes s ≡ Some shape → (made : Sort) × (slice_get (new_sorts k shapes) s ≡ Some made) × (made.kind ≡ shape.kind) × (made.name ≡ shape.name) × (length made.ctors ≡ length shape.ctors)
made_sort k [] s shape at = absurd (none-some _ at)
made_sort k (x ∷ shapes) zero shape at =
    let same = same_Some _ _ at in
    (record { name = x.name; kind = x.kind; ctors = ctor_ids k (length x.ctors) }, refl, ap (λ (y : SortShape). y.kind) same, ap (λ (y : SortShape). y.name) same, length-map-range_with_len (λ n. record { 0 = n }) k (length x.ctors) ∙ ap (λ (y : SortShape). length y.ctors) same)
made_sort k (x ∷ shapes) (suc s) shape at = made_sort (k + length x.ctors) shapes s shape at
