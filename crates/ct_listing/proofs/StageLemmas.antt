-- The listable sorts by stages: a sort is listable at a stage where the sorts of its fields are listable at the stage before.
-- As many stages as there are sorts find all of them.
use Rattle.std.proofs.Common.{◌≡◌, ℕ, zero, suc, ◌+◌, ◌-◌, ◌<◌, ◌≤◌, Bool, true, false, not, ◌&&◌, List, [], ◌∷◌, length, map, Option, Some, None, slice_get, Contains, refl, sym, ◌∙◌, ap, subst, inl, inr, arith, true≢false}
use Rattle.std.specs.List.{list_all}
use Rattle.std.proofs.lemmas.Bool.{false≢true}
use Rattle.std.proofs.lemmas.Option.{slice_get_within}
use Rattle.ct_lemmas.proofs.Booleans.{both_parts, both_true}
use Rattle.ct_lemmas.proofs.Contained.{Contains-first, Contains-rest, Contains-cons, Contains-none}
use Rattle.ct_lemmas.proofs.Numbers.{last_or_before}
use Rattle.ct_sorts.specs.declared.ids.CtorId.{CtorId}
use Rattle.ct_sorts.specs.declared.ids.SortId.{SortId}
use Rattle.ct_sorts.specs.declared.ids.Kind.{Kind}
use Rattle.ct_sorts.specs.declared.ids.Kind.TheVariants.{Bool as BoolKind, Free, Data, Codata}
use Rattle.ct_sorts.specs.Declarations.{Declarations, Sort}
use Rattle.ct_values.proofs.SettleLemmas.{In, settles}
use Rattle.ct_listing.specs.Listable.{field_sorts, IsListableSet, IsListable, is_made, fields_in, stage, is_listable}

made : (k : Kind) → (k ≡ Free → ⊥) → is_made k ≡ true
made BoolKind h = refl
made Free h = absurd (h refl)
made Data h = refl
made Codata h = refl

not_free : (k : Kind) → is_made k ≡ true → k ≡ Free → ⊥
not_free k h e = true≢false (sym h ∙ ap is_made e)

module _ {X : Type 0} (test : X → Bool) where
  all_from : (xs : List X) → ((x : X) → Contains xs x → test x ≡ true) → list_all test xs ≡ true
  all_from [] h = refl
  all_from (x ∷ xs) h = both_true (test x) (list_all test xs) (h x (Contains-first x xs)) (all_from xs (λ y at. h y (Contains-rest x xs y at)))

  all_at : (xs : List X) (x : X) → list_all test xs ≡ true → Contains xs x → test x ≡ true
  all_at [] x h at = absurd (Contains-none x at)
  all_at (y ∷ ys) x h at =
      let parts = both_parts (test y) (list_all test ys) h in
      elim (Contains-cons y ys x at) [ inl e ↦ subst (λ z. test z ≡ true) e parts.0 | inr later ↦ all_at ys x parts.1 later ]

-- the sort is not uninterpreted, and its constructors have only fields of sorts of the set
abbrev pub HasFieldsIn : Declarations → (ℕ → Bool) → ℕ → Type 0
HasFieldsIn d set s =
    (sort : Sort) × (slice_get d.sorts s ≡ Some sort) × (sort.kind ≡ Free → ⊥)
    × ((c : CtorId) (field : SortId) → Contains sort.ctors c → Contains (field_sorts d c) field → set field.0 ≡ true)

module _ (d : Declarations) (set : ℕ → Bool) where
  tested : (s : ℕ) → HasFieldsIn d set s → fields_in d set (slice_get d.sorts s) ≡ true
  tested s (sort, at, kind, each) =
      subst (λ o. fields_in d set o ≡ true) (sym at)
      (both_true _ _ (made sort.kind kind) (all_from _ sort.ctors (λ c inside. all_from _ (field_sorts d c) (λ field within. each c field inside within))))

  found : (o : Option Sort) → fields_in d set o ≡ true → (sort : Sort) × (o ≡ Some sort) × (sort.kind ≡ Free → ⊥) × ((c : CtorId) (field : SortId) → Contains sort.ctors c → Contains (field_sorts d c) field → set field.0 ≡ true)
  found None h = absurd (false≢true h)
  found (Some sort) h =
      let parts = both_parts (is_made sort.kind) _ h in (
        sort,
        refl,
        not_free sort.kind parts.0,
        λ c field inside within.
            all_at (λ (field : SortId). set field.0) (field_sorts d c) field (all_at (λ c. list_all (λ (field : SortId). set field.0) (field_sorts d c)) sort.ctors c parts.1 inside) within,
      )

module _ (d : Declarations) where
  pub stage_parts : (n s : ℕ) → stage d (suc n) s ≡ true → HasFieldsIn d (stage d n) s
  unfolding stage
  stage_parts n s h = found d (stage d n) (slice_get d.sorts s) h

  pub stage_next : (n s : ℕ) → HasFieldsIn d (stage d n) s → stage d (suc n) s ≡ true
  unfolding stage
  stage_next n s h = tested d (stage d n) s h

  pub stage_zero : (s : ℕ) → stage d 0 s ≡ true → ⊥
  unfolding stage
  stage_zero s h = false≢true h

  -- a sort that is listable at a stage is so at each later one
  stage_rises : (n s : ℕ) → stage d n s ≡ true → stage d (suc n) s ≡ true
  stage_rises zero s h = absurd (stage_zero s h)
  stage_rises (suc n) s h =
      let parts = stage_parts n s h in
      stage_next (suc n) s (parts.0, parts.1, parts.2, λ c field inside within. stage_rises n field.0 (parts.3 c field inside within))

  pub stage_later : (n more s : ℕ) → stage d n s ≡ true → stage d (n + more) s ≡ true
  stage_later n zero s h = subst (λ k. stage d k s ≡ true) (omega arith) h
  stage_later n (suc more) s h = subst (λ k. stage d k s ≡ true) (omega arith) (stage_rises (n + more) s (stage_later n more s h))

  -- a sort that is listable at a stage is listable
  pub stage_listable : (n : ℕ) (s : SortId) → stage d n s.0 ≡ true → IsListable d s
  stage_listable zero s h set closed = absurd (stage_zero s.0 h)
  stage_listable (suc n) s h set closed =
      let parts = stage_parts n s.0 h in
      closed s.0 parts.0 parts.1 parts.2 (λ c field inside within. stage_listable n field (parts.3 c field inside within) set closed)

  -- at some stage that is at most the number of sorts nothing changes
  numbers : ℕ → List ℕ
  numbers zero = []
  numbers (suc n) = n ∷ numbers n

  length-numbers : (n : ℕ) → length (numbers n) ≡ n
  unfolding numbers
  length-numbers zero = refl
  length-numbers (suc n) = ap suc (length-numbers n)

  in_numbers : (n k : ℕ) → k < n → In k (numbers n)
  unfolding numbers
  in_numbers zero k h = absurd (omega arith)
  in_numbers (suc n) k h =
      elim (last_or_before k n (omega arith)) [ inl before ↦ inr (in_numbers n k before) | inr last ↦ inl last ]

  outside : ℕ → ℕ → Bool
  outside n s = not (stage d n s)

  outside_falls : (n s : ℕ) → outside (suc n) s ≡ true → outside n s ≡ true
  unfolding outside
  outside_falls n s h = by (stage d n s) refl
    where
      by : (b : Bool) → stage d n s ≡ b → not (stage d n s) ≡ true
      by true e = absurd (false≢true (ap not (sym (stage_rises n s e)) ∙ h))
      by false e = ap not e

  settled : (n : ℕ) × (n ≤ length d.sorts) × ((s : ℕ) → stage d (suc n) s ≡ true → stage d n s ≡ true)
  unfolding outside
  settled =
      let steady = settles outside outside_falls (numbers (length d.sorts)) in
      (steady.0, omega (arith, steady.1, length-numbers (length d.sorts)), λ s h. by steady.0 steady.2 s h (stage d steady.0 s) refl)
    where
      by : (n : ℕ) → ((x : ℕ) → In x (numbers (length d.sorts)) → not (stage d n x) ≡ true → not (stage d (suc n) x) ≡ true) → (s : ℕ) → stage d (suc n) s ≡ true → (b : Bool) → stage d n s ≡ b → stage d n s ≡ true
      by n steady s h true e = e
      by n steady s h false e =
          let parts = stage_parts n s h in
          absurd (false≢true (ap not (sym h) ∙ steady s (in_numbers (length d.sorts) s (slice_get_within d.sorts s parts.0 parts.1)) (ap not e)))

  -- so each listable sort is listable at the stage that has the number of sorts
  pub listable_stage : (s : SortId) → IsListable d s → stage d (length d.sorts) s.0 ≡ true
  listable_stage s h =
      let last = settled in
      let there : stage d last.0 s.0 ≡ true = h (stage d last.0) (λ k sort at kind each. last.2 k (stage_next last.0 k (sort, at, kind, each))) in
      let later = stage_later last.0 (length d.sorts - last.0) s.0 there in
      subst (λ n. stage d n s.0 ≡ true) (omega (arith, last.1)) later

  -- what a listable sort is made of
  pub listable_parts : (s : SortId) → IsListable d s → (sort : Sort) × (slice_get d.sorts s.0 ≡ Some sort) × (sort.kind ≡ Free → ⊥) × ((c : CtorId) (field : SortId) → Contains sort.ctors c → Contains (field_sorts d c) field → IsListable d field)
  listable_parts s h = by (length d.sorts) (listable_stage s h)
    where
      by : (n : ℕ) → stage d n s.0 ≡ true → (sort : Sort) × (slice_get d.sorts s.0 ≡ Some sort) × (sort.kind ≡ Free → ⊥) × ((c : CtorId) (field : SortId) → Contains sort.ctors c → Contains (field_sorts d c) field → IsListable d field)
      by zero at = absurd (stage_zero s.0 at)
      by (suc n) at =
          let parts = stage_parts n s.0 at in
          (parts.0, parts.1, parts.2, λ c field inside within. stage_listable n field (parts.3 c field inside within))
