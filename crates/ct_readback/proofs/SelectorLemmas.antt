-- The tables of selectors, one after the other, and the whole model.
use Rattle.std.proofs.Common.{◌≡◌, ℕ, zero, suc, ◌+◌, ◌<◌, ◌≤◌, ◌⊎◌, Bool, true, false, List, [], ◌∷◌, ◌++◌, length, length-append, cond, Some, slice_get, refl, sym, ap, subst, ◌∙◌, arith, inl, inr, true≢false, append-nil}
use Rattle.std.specs.List.{filter, range_with_len}
use Rattle.std.proofs.lemmas.Option.{none-some, slice_get_within}
use Rattle.std.proofs.lemmas.List.Elements.{filter-append}
use Rattle.ct_lemmas.proofs.Lists.{slice_get-push_cases}
use Rattle.ct_sorts.specs.Declarations.{Declarations, Selector}
use Rattle.ct_sexpr.specs.Expression.{Expression}
use Rattle.ct_values.specs.Graph.{Nodes, IsClosed}
use Rattle.ct_card.specs.Sizes.{Table as Sizes}
use Rattle.ct_eval.specs.declared.interp.Table.{Table}
use Rattle.ct_model.specs.ModelText.{can_miss}
use Rattle.ct_model.proofs.ListLemmas.{range-more}
use Rattle.ct_readback.specs.ItemText.{Due, due_off}
use Rattle.ct_readback.specs.Progress.{IsReadAt, IsOtherTable, AreSelectors, first_offs}
use Rattle.ct_readback.proofs.DefaultLemmas.{other_longer}
use Rattle.ct_readback.proofs.ModelLemmas.{read_longer}

-- one number more, which passes the test or does not
offs_step : (d : Declarations) (count : ℕ) → first_offs d (count + 1) ≡ first_offs d count ++ cond (can_miss d count) (count ∷ []) []
offs_step d count = ap (filter (can_miss d)) (range-more count) ∙ filter-append (can_miss d) (range_with_len 0 count) (count ∷ [])

pub offs_more : (d : Declarations) (count : ℕ) → can_miss d count ≡ true → first_offs d (count + 1) ≡ first_offs d count ++ count ∷ []
offs_more d count e = offs_step d count ∙ ap (λ (b : Bool). first_offs d count ++ cond b (count ∷ []) []) e

pub offs_same : (d : Declarations) (count : ℕ) → can_miss d count ≡ false → first_offs d (count + 1) ≡ first_offs d count
offs_same d count e = offs_step d count ∙ ap (λ (b : Bool). first_offs d count ++ cond b (count ∷ []) []) e ∙ append-nil (first_offs d count)

-- the first numbers that pass are below their bound
below_by : (d : Declarations) (count : ℕ) → ((k s : ℕ) → slice_get (first_offs d count) k ≡ Some s → s < count) → (b : Bool) → can_miss d count ≡ b → (k s : ℕ) → slice_get (first_offs d (count + 1)) k ≡ Some s → s < count + 1
below_by d count before true e k s at =
    elim (slice_get-push_cases (first_offs d count) count s k (ap (λ ns. slice_get ns k) (sym (offs_more d count e)) ∙ at)) [
      | inl h ↦ let less = before k s h in omega (arith, less)
      | inr h ↦ let is = h.1 in omega (arith, is)
    ]
below_by d count before false e k s at =
    let less = before k s (ap (λ ns. slice_get ns k) (sym (offs_same d count e)) ∙ at) in
    omega (arith, less)

pub offs_below : (d : Declarations) (count k s : ℕ) → slice_get (first_offs d count) k ≡ Some s → s < count
offs_below d zero k s at = absurd (none-some s at)
offs_below d (suc count) k s at =
    let one : suc count ≡ count + 1 = omega arith in
    let less : s < count + 1 = below_by d count (offs_below d count) (can_miss d count) refl k s (ap (λ n. slice_get (first_offs d n) k) (sym one) ∙ at) in
    omega (arith, less)

-- there are no more of them than numbers
few_by : (d : Declarations) (count : ℕ) (b : Bool) → can_miss d count ≡ b → length (first_offs d count) ≤ count → length (first_offs d (count + 1)) ≤ count + 1
few_by d count true e few = let long = ap length (offs_more d count e) ∙ length-append (first_offs d count) (count ∷ []) in omega (arith, long, few)
few_by d count false e few = let long = ap length (offs_same d count e) in omega (arith, long, few)

pub offs_few : (d : Declarations) (count : ℕ) → length (first_offs d count) ≤ count
offs_few d zero = omega arith
offs_few d (suc count) =
    let one : count + 1 ≡ suc count = omega arith in
    let few = few_by d count (can_miss d count) refl (offs_few d count) in
    subst (λ n. length (first_offs d n) ≤ n) one few

module _ (d : Declarations) (sizes : Sizes) (items : List Expression) (first : ℕ) where
  pub selectors_start : (g : Nodes) → AreSelectors d sizes g items first 0 []
  selectors_start g = record {
    long = refl;
    offs = λ k s due table at at_due at_table. absurd (none-some table at_table);
    others = λ s selector table never at at_table. absurd (none-some table at_table);
  }

  pub selectors_longer : (g more : Nodes) (count : ℕ) (tables : List Table) → IsClosed g → AreSelectors d sizes g items first count tables → AreSelectors d sizes (g ++ more) items first count tables
  selectors_longer g more count tables closed h = record {
    long = h.long;
    offs = λ k s due table at at_due at_table. read_longer d g more items due (first + k) table closed (h.offs k s due table at at_due at_table);
    others = λ s selector table never at at_table. other_longer d sizes g more selector.sort table (h.others s selector table never at at_table);
  }

  -- a table that was there, or the new one
  old_or_new : (count : ℕ) (tables : List Table) (table other : Table) (s : ℕ) → length tables ≡ count → slice_get (tables ++ table ∷ []) s ≡ Some other → (slice_get tables s ≡ Some other) ⊎ ((s ≡ count) × (table ≡ other))
  old_or_new count tables table other s long at =
      elim (slice_get-push_cases tables table other s at) [ inl h ↦ inl h | inr h ↦ inr (h.0 ∙ long, h.1) ]

  pub selectors_off : (g : Nodes) (count : ℕ) (tables : List Table) (table : Table) → AreSelectors d sizes g items first count tables → can_miss d count ≡ true
      → ((due : Due) → due_off d count ≡ Some due → IsReadAt d g items due (first + length (first_offs d count)) table) → AreSelectors d sizes g items first (count + 1) (tables ++ table ∷ [])
  selectors_off g count tables table h misses read = record {
    long = let long = h.long in omega (arith, long, length-append tables (table ∷ []));
    offs = λ k s due other at at_due at_table.
        elim (slice_get-push_cases (first_offs d count) count s k (ap (λ ns. slice_get ns k) (sym (offs_more d count misses)) ∙ at)) [
          | inl before ↦
              elim (old_or_new count tables table other s h.long at_table) [
                | inl old ↦ h.offs k s due other before at_due old
                | inr new ↦ let less = offs_below d count k s before in let is = new.0 in absurd (omega (arith, less, is))
              ]
          | inr new ↦
              elim (old_or_new count tables table other s h.long at_table) [
                | inl old ↦
                    let within = slice_get_within tables s other old in
                    let long = h.long in
                    let is = new.1 in
                    absurd (omega (arith, within, long, is))
                | inr same ↦
                    subst (λ (t : Table). IsReadAt d g items due (first + k) t) same.1
                    (subst (λ n. IsReadAt d g items due (first + n) table) (sym new.0) (read due (ap (due_off d) new.1 ∙ at_due)))
              ]
        ];
    others = λ s selector other never at at_table.
        elim (old_or_new count tables table other s h.long at_table) [
          | inl old ↦ h.others s selector other never at old
          | inr same ↦ absurd (true≢false (sym misses ∙ ap (can_miss d) (sym same.0) ∙ never))
        ];
  }

  pub selectors_other : (g : Nodes) (count : ℕ) (tables : List Table) (table : Table) → AreSelectors d sizes g items first count tables → can_miss d count ≡ false
      → ((selector : Selector) → slice_get d.sels count ≡ Some selector → IsOtherTable d sizes g selector.sort table)
      → AreSelectors d sizes g items first (count + 1) (tables ++ table ∷ [])
  selectors_other g count tables table h no_miss is_other = record {
    long = let long = h.long in omega (arith, long, length-append tables (table ∷ []));
    offs = λ k s due other at at_due at_table.
        let before = ap (λ ns. slice_get ns k) (sym (offs_same d count no_miss)) ∙ at in
        elim (old_or_new count tables table other s h.long at_table) [
          | inl old ↦ h.offs k s due other before at_due old
          | inr new ↦ let less = offs_below d count k s before in let is = new.0 in absurd (omega (arith, less, is))
        ];
    others = λ s selector other never at at_table.
        elim (old_or_new count tables table other s h.long at_table) [
          | inl old ↦ h.others s selector other never at old
          | inr same ↦ subst (λ (t : Table). IsOtherTable d sizes g selector.sort t) same.1 (is_other selector (ap (slice_get d.sels) (sym same.0) ∙ at))
        ];
  }
