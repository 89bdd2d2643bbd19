-- The sorts and generics of a block that is accepted: they are as they were written, and their names are free.
use Rattle.std.proofs.Common.{◌≡◌, ℕ, zero, suc, ◌+◌, ◌<◌, ◌≤◌, ◌⊎◌, ◌==◌, Bool, true, false, if◌then◌else◌, List, [], ◌∷◌, ◌++◌, length, map, drop, slice_get, Option, Some, Ok, Err, refl, sym, ◌∙◌, ap, ap₂, subst, inl, inr, ⊎_elim, arith, length-append}
use Rattle.std.specs.List.{AllZip, flat_map, list_any}
use Rattle.std.proofs.lemmas.List.{append_assoc, append-nil, length-map, map-append}
use Rattle.std.proofs.lemmas.List.Concat.{flat_map-append}
use Rattle.std.proofs.lemmas.Option.{none-some, same_Some}
use Rattle.ct_generics.specs.declared.kind.Kind.{Kind as HeadKind}
use Rattle.ct_generics.specs.declared.decl.Field.{Field}
use Rattle.ct_generics.specs.declared.decl.CtorDecl.{CtorDecl}
use Rattle.ct_generics.specs.declared.decl.SortDecl.{SortDecl}
use Rattle.ct_generics.specs.Expression.{Expression}
use Rattle.ct_generics.specs.Declarations.{Declared, Head}
use Rattle.ct_generics.specs.Outcome.{Outcome, and_then, each}
use Rattle.ct_generics.specs.Resolved.{resolved}
use Rattle.ct_generics.specs.Block.{fields_in, head_in, heads_in, with_names}
use Rattle.ct_sorts.specs.declared.spelling.Spelling.{Spelling}
use Rattle.ct_sorts.specs.Availability.{IsListed, HasRefused}
use Rattle.ct_sorts.specs.Block.{block_ctors, block_names, block_spellings, ctor_symbols, params_of, spelling}
use Rattle.ct_sorts.specs.Declarations.{spelled, head_symbols}
use Rattle.ct_sorts.specs.Heads.{NamesEach}
use Rattle.ct_sorts.specs.Limits.{generic_count, generic_ctors, generic_sels}
use Rattle.ct_sorts.specs.Lookup.{AreDistinct}
use Rattle.ct_sorts.specs.Room.{decl_fields}
use Rattle.ct_sorts.proofs.ConsistentLemmas.{once-between}
use Rattle.ct_sorts.proofs.Counts.{occurrences, occurrences-append, AreDistinct-once, AreOnce-distinct}

-- ---- what comes of each

ok_parts : {X Y : Type 0} (x : Outcome X) (next : X → Outcome Y) (y : Y) → and_then x next ≡ Ok y → (v : X) × (x ≡ Ok v) × (next v ≡ Ok y)
ok_parts (Ok v) next y e = (v, refl, e)
ok_parts (Err n) next y e = absurd (let same = e in cc)

same_ok : {X : Type 0} (x y : X) → ◌≡◌ {A = Outcome X} (Ok x) (Ok y) → x ≡ y
same_ok x y e = cc

each_parts : {X Y : Type 0} (f : X → Outcome Y) (x : X) (xs : List X) (ys : List Y) → each f (x ∷ xs) ≡ Ok ys → (v : Y) × (vs : List Y) × (f x ≡ Ok v) × (each f xs ≡ Ok vs) × (v ∷ vs ≡ ys)
each_parts f x xs ys e =
    let first = ok_parts (f x) _ ys e in
    let rest = ok_parts (each f xs) _ ys first.2 in
    (first.0, rest.0, first.1, rest.1, same_ok (first.0 ∷ rest.0) ys rest.2)

pub each_zip : {X Y : Type 0} (step : X → Outcome Y) (R : X → Y → Type 0) → ((x : X) (y : Y) → step x ≡ Ok y → R x y) → (xs : List X) (ys : List Y) → each step xs ≡ Ok ys → AllZip R xs ys
each_zip step R tells [] ys e = subst (AllZip R []) (same_ok [] ys e) tt
each_zip step R tells (x ∷ xs) ys e =
    let parts = each_parts step x xs ys e in
    subst (AllZip R (x ∷ xs)) parts.4 (tells x parts.0 parts.2, each_zip step R tells xs parts.1 parts.3)

each_long : {X Y : Type 0} (step : X → Outcome Y) (xs : List X) (ys : List Y) → each step xs ≡ Ok ys → length ys ≡ length xs
each_long step [] ys e = ap length (sym (same_ok [] ys e))
each_long step (x ∷ xs) ys e =
    let parts = each_parts step x xs ys e in
    ap length (sym parts.4) ∙ ap suc (each_long step xs parts.1 parts.3)

-- ---- a sort or generic of the block

-- each constructor has as many fields as were written
HasFields : CtorDecl → List Expression → Type 0
HasFields ctor row = length row ≡ length ctor.fields

-- it is as it was written
pub record IsHeadOf (kind : HeadKind) (decl : SortDecl) (head : Head) : Type 0 where
  pub name_is : head.name ≡ decl.name
  pub kind_is : head.kind ≡ kind
  pub params_are : head.params ≡ decl.params
  pub named_each : AllZip NamesEach (map spelling decl.ctors) head.ctors

names_rows : (ctors : List CtorDecl) (rows : List (List Expression)) → AllZip HasFields ctors rows → AllZip NamesEach (map spelling ctors) rows
unfolding HasFields
names_rows [] [] all = all
names_rows [] (row ∷ rows) all = absurd all
names_rows (c ∷ ctors) [] all = absurd all
names_rows (c ∷ ctors) (row ∷ rows) all = (length-map c.fields (λ (f : Field). f.name) ∙ sym all.0, names_rows ctors rows all.1)

head_of_decl : (names : Declared) (kind : HeadKind) (decl : SortDecl) (head : Head) → head_in names kind decl ≡ Ok head → IsHeadOf kind decl head
unfolding HasFields
head_of_decl names kind decl head e =
    let parts = ok_parts (each (fields_in names) decl.ctors) _ head e in
    let same : record { name = decl.name; kind = kind; params = decl.params; ctors = parts.0 } ≡ head = same_ok _ head parts.2 in
    let rows = names_rows decl.ctors parts.0 (each_zip (fields_in names) HasFields (λ c row e_row. each_long (λ (f : Field). resolved names f.sort) c.fields row e_row) decl.ctors parts.0 parts.1) in
    subst (IsHeadOf kind decl) same (record { name_is = refl; kind_is = refl; params_are = refl; named_each = rows })

pub heads_of_block : (d : Declared) (kind : HeadKind) (block : List SortDecl) (own : List Head) → heads_in d kind block ≡ Ok own → AllZip (IsHeadOf kind) block own
heads_of_block d kind block own e = each_zip (head_in (with_names d kind block) kind) (IsHeadOf kind) (head_of_decl (with_names d kind block) kind) block own e

-- ---- their names, numbers of parameters, constructors and fields

pub names_of_own : (kind : HeadKind) (block : List SortDecl) (own : List Head) → AllZip (IsHeadOf kind) block own → map (λ (h : Head). h.name) own ≡ block_names block
names_of_own kind [] [] all = refl
names_of_own kind [] (h ∷ own) all = absurd all
names_of_own kind (s ∷ block) [] all = absurd all
names_of_own kind (s ∷ block) (h ∷ own) all = λ i. all.0.name_is i ∷ names_of_own kind block own all.1 i

pub params_of_own : (kind : HeadKind) (block : List SortDecl) (own : List Head) → AllZip (IsHeadOf kind) block own → map (λ (h : Head). h.params) own ≡ params_of block
params_of_own kind [] [] all = refl
params_of_own kind [] (h ∷ own) all = absurd all
params_of_own kind (s ∷ block) [] all = absurd all
params_of_own kind (s ∷ block) (h ∷ own) all = λ i. all.0.params_are i ∷ params_of_own kind block own all.1 i

pub own_long : (kind : HeadKind) (block : List SortDecl) (own : List Head) → AllZip (IsHeadOf kind) block own → length own ≡ length block
own_long kind [] [] all = refl
own_long kind [] (h ∷ own) all = absurd all
own_long kind (s ∷ block) [] all = absurd all
own_long kind (s ∷ block) (h ∷ own) all = ap suc (own_long kind block own all.1)

-- the names of the constructors and fields are those that were written
pub spelled_ctors : (ctors : List CtorDecl) → spelled (map spelling ctors) ≡ ctor_symbols ctors
spelled_ctors [] = refl
spelled_ctors (c ∷ ctors) = ap (λ ns. c.name ∷ (map (λ (f : Field). f.name) c.fields ++ ns)) (spelled_ctors ctors)

pub spelled_block : (block : List SortDecl) → head_symbols (block_spellings block) ≡ ctor_symbols (block_ctors block)
spelled_block [] = refl
spelled_block (s ∷ block) =
    ap₂ (λ xs ys. xs ++ ys) (spelled_ctors s.ctors) (spelled_block block) ∙ sym (flat_map-append (λ (c : CtorDecl). c.name ∷ map (λ (f : Field). f.name) c.fields) s.ctors (block_ctors block))

-- ---- they are at most so many

pub generic_count-le : (own : List Head) → generic_count own ≤ length own
generic_count-le [] = omega arith
generic_count-le (head ∷ own) = by (head.params == 0) (generic_count-le own)
  where
    by : (b : Bool) → generic_count own ≤ length own → (if b then generic_count own else 1 + generic_count own) ≤ suc (length own)
    by true h = omega (arith, h)
    by false h = omega (arith, h)

pub generic_count-append : (heads own : List Head) → generic_count (heads ++ own) ≡ generic_count heads + generic_count own
generic_count-append [] own = omega arith
generic_count-append (head ∷ heads) own = by (head.params == 0) (generic_count-append heads own)
  where
    by : (b : Bool) → generic_count (heads ++ own) ≡ generic_count heads + generic_count own → (if b then generic_count (heads ++ own) else 1 + generic_count (heads ++ own)) ≡ (if b then generic_count heads else 1 + generic_count heads) + generic_count own
    by true h = h
    by false h = omega (arith, h)

pub generic_ctors-append : (heads own : List Head) (spellings extra : List (List Spelling)) → length heads ≡ length spellings → generic_ctors (heads ++ own) (spellings ++ extra) ≡ generic_ctors heads spellings + generic_ctors own extra
generic_ctors-append [] own [] extra same = omega arith
generic_ctors-append [] own (ss ∷ spellings) extra same = absurd (omega (arith, same))
generic_ctors-append (head ∷ heads) own [] extra same = absurd (omega (arith, same))
generic_ctors-append (head ∷ heads) own (ss ∷ spellings) extra same = omega (arith, generic_ctors-append heads own spellings extra (omega (arith, same)))

pub generic_sels-append : (heads own : List Head) (spellings extra : List (List Spelling)) → length heads ≡ length spellings → generic_sels (heads ++ own) (spellings ++ extra) ≡ generic_sels heads spellings + generic_sels own extra
generic_sels-append [] own [] extra same = omega arith
generic_sels-append [] own (ss ∷ spellings) extra same = absurd (omega (arith, same))
generic_sels-append (head ∷ heads) own [] extra same = absurd (omega (arith, same))
generic_sels-append (head ∷ heads) own (ss ∷ spellings) extra same = omega (arith, generic_sels-append heads own spellings extra (omega (arith, same)))

pub generic_ctors-le : (own : List Head) (block : List SortDecl) → generic_ctors own (block_spellings block) ≤ length (block_ctors block)
generic_ctors-le [] block = omega arith
generic_ctors-le (head ∷ own) [] = omega arith
generic_ctors-le (head ∷ own) (s ∷ block) = by (head.params == 0) (generic_ctors-le own block)
  where
    by : (b : Bool) → generic_ctors own (block_spellings block) ≤ length (block_ctors block) → (if b then 0 else length (map spelling s.ctors)) + generic_ctors own (block_spellings block) ≤ length (s.ctors ++ block_ctors block)
    by true h = omega (arith, h, length-append s.ctors (block_ctors block))
    by false h = omega (arith, h, length-append s.ctors (block_ctors block), length-map s.ctors spelling)

-- as many fields are named as were written
pub fields_named : (ctors : List CtorDecl) → length (flat_map (λ (c : Spelling). c.fields) (map spelling ctors)) ≡ length (decl_fields ctors)
fields_named [] = refl
fields_named (c ∷ ctors) =
    omega (
      arith,
      length-append (map (λ (f : Field). f.name) c.fields) (flat_map (λ (s : Spelling). s.fields) (map spelling ctors)),
      length-map c.fields (λ (f : Field). f.name),
      length-append c.fields (decl_fields ctors),
      fields_named ctors,
    )

pub fields_in_all : (ctors rest : List CtorDecl) → length (decl_fields (ctors ++ rest)) ≡ length (decl_fields ctors) + length (decl_fields rest)
fields_in_all ctors rest = ap length (flat_map-append (λ (c : CtorDecl). c.fields) ctors rest) ∙ length-append (decl_fields ctors) (decl_fields rest)

pub generic_sels-le : (own : List Head) (block : List SortDecl) → generic_sels own (block_spellings block) ≤ length (decl_fields (block_ctors block))
generic_sels-le [] block = omega arith
generic_sels-le (head ∷ own) [] = omega arith
generic_sels-le (head ∷ own) (s ∷ block) = by (head.params == 0) (generic_sels-le own block)
  where
    by : (b : Bool) → generic_sels own (block_spellings block) ≤ length (decl_fields (block_ctors block)) → (if b then 0 else length (flat_map (λ (c : Spelling). c.fields) (map spelling s.ctors))) + generic_sels own (block_spellings block) ≤ length (decl_fields (s.ctors ++ block_ctors block))
    by true h = omega (arith, h, fields_in_all s.ctors (block_ctors block))
    by false h = omega (arith, h, fields_in_all s.ctors (block_ctors block), fields_named s.ctors)

-- ---- names that were not refused

module _ (R : List (List ℕ) → List ℕ → Type 0) (taken : (declared : List (List ℕ)) (name : List ℕ) → IsListed declared name → R declared name) where
  -- differ from those that were declared and from each other
  pub distinct_after : (declared xs : List (List ℕ)) → AreDistinct declared → (HasRefused R declared xs → ⊥) → AreDistinct (declared ++ xs)
  distinct_after declared [] distinct free = subst AreDistinct (sym (append-nil declared)) distinct
  distinct_after declared (x ∷ xs) distinct free =
      let one = once-between declared [] x (subst AreDistinct (sym (append-nil declared)) distinct) (λ h. free (inl (taken declared x (subst (λ ys. IsListed ys x) (append-nil declared) h)))) in
      subst AreDistinct (append_assoc declared (x ∷ []) xs) (distinct_after (declared ++ x ∷ []) xs one (λ h. free (inr h)))

module _ (R : List (List ℕ) → List ℕ → Type 0) (Unfit : List ℕ → Type 0) (unfit : (declared : List (List ℕ)) (name : List ℕ) → Unfit name → R declared name) where
  -- and may be declared
  pub fit_after : (declared xs : List (List ℕ)) → (HasRefused R declared xs → ⊥) → (i : ℕ) (name : List ℕ) → slice_get xs i ≡ Some name → Unfit name → ⊥
  fit_after declared [] free i name at h = none-some _ at
  fit_after declared (x ∷ xs) free zero name at h = free (inl (unfit declared x (subst Unfit (sym (same_Some _ _ at)) h)))
  fit_after declared (x ∷ xs) free (suc i) name at h = fit_after (declared ++ x ∷ []) xs (λ r. free (inr r)) i name at h

-- names that differ do so in another order
pub distinct_swapped : (xs ys zs : List (List ℕ)) → AreDistinct ((xs ++ ys) ++ zs) → AreDistinct ((xs ++ zs) ++ ys)
distinct_swapped xs ys zs distinct =
    AreDistinct-once ((xs ++ zs) ++ ys) (λ name.
    omega (
      arith,
      AreOnce-distinct ((xs ++ ys) ++ zs) distinct name,
      occurrences-append name (xs ++ ys) zs,
      occurrences-append name xs ys,
      occurrences-append name (xs ++ zs) ys,
      occurrences-append name xs zs,
    ))
