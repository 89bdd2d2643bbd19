-- Equality steps and the ends of theory lines that are written are read back.
use Rattle.std.proofs.Common.{◌≡◌, ℕ, ◌≤◌, true, ◌&&◌, nat_lt, List, [], ◌∷◌, Some, refl, ap, ap₂}
use Rattle.std.specs.List.{list_all}
use Rattle.ct_lemmas.proofs.Booleans.{both_parts}
use Rattle.ct_terms.specs.Terms.{most_terms}
use Rattle.ct_log.specs.declared.rules.Entry.{Entry}
use Rattle.ct_log.specs.declared.rules.Entry.TheVariants as entries
use Rattle.ct_log.specs.declared.rules.Pair.{Pair}
use Rattle.ct_log.specs.declared.rules.Hop.{Hop}
use Rattle.ct_log.specs.declared.rules.EqStep.{EqStep}
use Rattle.ct_log.specs.declared.rules.EqStep.TheVariants.{Hyp, Refl, Sym, Trans, Cong, Inject, Sel, Test, Expand, EqualIn, EqualOut, Neg, Single, Unique}
use Rattle.ct_log.specs.declared.rules.Close.{Close}
use Rattle.ct_log.specs.declared.rules.Close.TheVariants.{Clash, Cycle}
use Rattle.ct_log_lines.specs.Forms.{number_bound}
use Rattle.ct_log_lines.specs.Equalities.{entry_in, pair_in, hop_in, step_in, close_in}
use Rattle.ct_log_text.specs.Fitting.{is_term, has_terms_pair, has_terms_step, has_terms_close}
use Rattle.ct_log_text.specs.Written.{items_as, entry_item, pair_item, hop_item, step_item, close_item}
use Rattle.ct_log_text.specs.Writable.{is_short, are_short}
use Rattle.ct_log_text.proofs.NumbersBack.{number_back, numbers_back, numbered_back, term_back, literal_back, each_back}

-- an entry of a pair
pub entry_back : (entry : Entry) → true ≡ true → is_short (entry_item entry) ≡ true → entry_in (entry_item entry) ≡ Some entry
entry_back (entries.Step i) fits short = rw (number_back i short) refl
entry_back (entries.Pair k i j) fits short =
    let first = both_parts (nat_lt k number_bound) (nat_lt i number_bound && (nat_lt j number_bound && true)) short in
    let second = both_parts (nat_lt i number_bound) (nat_lt j number_bound && true) first.1 in
    let third = both_parts (nat_lt j number_bound) true second.1 in
    rw (number_back k first.0, number_back i second.0, number_back j third.0) refl

entries_fit : (es : List Entry) → list_all (λ e. true) es ≡ true
entries_fit [] = refl
entries_fit (e ∷ es) = entries_fit es

module _ (count : ℕ) (few : count ≤ most_terms) where
  -- a pair
  pub pair_back : (pair : Pair) → has_terms_pair count pair ≡ true → is_short (pair_item pair) ≡ true → pair_in (pair_item pair) ≡ Some pair
  pair_back pair fits short =
      let sides = both_parts (is_term count pair.left) (is_term count pair.right) fits in
      let first = both_parts (nat_lt pair.left.0 number_bound) (nat_lt pair.right.0 number_bound && are_short (items_as entry_item pair.entries)) short in
      let second = both_parts (nat_lt pair.right.0 number_bound) (are_short (items_as entry_item pair.entries)) first.1 in
      rw (term_back count pair.left few sides.0, term_back count pair.right few sides.1, each_back entry_in entry_item (λ e. true) entry_back pair.entries (entries_fit pair.entries) second.1) refl

  -- a constructor term of a cycle
  pub hop_back : (hop : Hop) → is_term count hop.con ≡ true → is_short (hop_item hop) ≡ true → hop_in (hop_item hop) ≡ Some hop
  hop_back hop fits short =
      let first = both_parts (nat_lt hop.con.0 number_bound) (nat_lt hop.place number_bound && (nat_lt hop.step number_bound && true)) short in
      let second = both_parts (nat_lt hop.place number_bound) (nat_lt hop.step number_bound && true) first.1 in
      let third = both_parts (nat_lt hop.step number_bound) true second.1 in
      rw (number_back hop.con.0 first.0, number_back hop.place second.0, number_back hop.step third.0)
      (ap (λ t. Some (record { con = t; place = hop.place; step = hop.step })) (numbered_back count hop.con few fits))

  -- an equality step
  pub step_back : (step : EqStep) → has_terms_step count step ≡ true → is_short (step_item step) ≡ true → step_in (step_item step) ≡ Some step
  step_back (Hyp l) fits short = rw (literal_back count l few fits) refl
  step_back (Refl t) fits short = rw (numbers_back (t.0 ∷ []) short) (ap (λ u. Some (Refl u)) (numbered_back count t few fits))
  step_back (Sym i) fits short = rw (numbers_back (i ∷ []) short) refl
  step_back (Trans i j) fits short = rw (numbers_back (i ∷ (j ∷ [])) short) refl
  step_back (Cong t u is) fits short =
      let sides = both_parts (is_term count t) (is_term count u) fits in
      rw (numbers_back (t.0 ∷ (u.0 ∷ is)) short) (ap₂ (λ x y. Some (Cong x y is)) (numbered_back count t few sides.0) (numbered_back count u few sides.1))
  step_back (Inject i k) fits short = rw (numbers_back (i ∷ (k ∷ [])) short) refl
  step_back (Sel t i) fits short = rw (numbers_back (t.0 ∷ (i ∷ [])) short) (ap (λ u. Some (Sel u i)) (numbered_back count t few fits))
  step_back (Test t i) fits short = rw (numbers_back (t.0 ∷ (i ∷ [])) short) (ap (λ u. Some (Test u i)) (numbered_back count t few fits))
  step_back (Expand i c) fits short = rw (numbers_back (i ∷ (c.0 ∷ [])) short) (ap (λ u. Some (Expand i u)) (numbered_back count c few fits))
  step_back (EqualIn t i) fits short = rw (numbers_back (t.0 ∷ (i ∷ [])) short) (ap (λ u. Some (EqualIn u i)) (numbered_back count t few fits))
  step_back (EqualOut i) fits short = rw (numbers_back (i ∷ []) short) refl
  step_back (Neg t i) fits short = rw (numbers_back (t.0 ∷ (i ∷ [])) short) (ap (λ u. Some (Neg u i)) (numbered_back count t few fits))
  step_back (Single x y) fits short =
      let sides = both_parts (is_term count x) (is_term count y) fits in
      rw (numbers_back (x.0 ∷ (y.0 ∷ [])) short) (ap₂ (λ u v. Some (Single u v)) (numbered_back count x few sides.0) (numbered_back count y few sides.1))
  step_back (Unique p pairs) fits short =
      let parts = both_parts (nat_lt p number_bound) (are_short (items_as pair_item pairs)) short in
      rw (number_back p parts.0, each_back pair_in pair_item (has_terms_pair count) pair_back pairs fits parts.1) refl

  -- the end of a theory line
  pub close_back : (close : Close) → has_terms_close count close ≡ true → is_short (close_item close) ≡ true → close_in (close_item close) ≡ Some close
  close_back (Clash i) fits short = let part = both_parts (nat_lt i number_bound) true short in rw (number_back i part.0) refl
  close_back (Cycle hops) fits short = rw (each_back hop_in hop_item (λ hop. is_term count hop.con) hop_back hops fits short) refl
