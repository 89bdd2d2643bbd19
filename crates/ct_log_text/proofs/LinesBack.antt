-- Lines that are written are read back.
use Rattle.std.proofs.Common.{◌≡◌, ℕ, ◌+◌, ◌≤◌, Bool, true, false, ◌&&◌, ◌||◌, ◌==◌, nat_lt, List, [], ◌∷◌, ◌++◌, length, Some, Ok, option_and_then, refl, sym, ap, ◌∙◌, append_assoc, append-nil, length-append, arith}
use Rattle.std.proofs.lemmas.Bool.{eqb-true, eq-eqb}
use Rattle.std.specs.List.{list_all}
use Rattle.ct_lemmas.proofs.Booleans.{both_parts}
use Rattle.ct_sexpr.specs.Expression.{none, more, word}
use Rattle.ct_terms.specs.declared.ids.TermId.{TermId}
use Rattle.ct_terms.specs.Terms.{Terms, most_terms}
use Rattle.ct_log.specs.declared.rules.Gate.{Gate}
use Rattle.ct_log.specs.declared.rules.Gate.TheVariants.{True, False, AndPos, AndNeg, OrPos, OrNeg, Iff1, Iff2, Iff3, Iff4, Ite1, Ite2, Ite3, Ite4, Then, Else}
use Rattle.ct_log.specs.declared.line.Line.{Line}
use Rattle.ct_log.specs.declared.line.Step.{Step}
use Rattle.ct_log.specs.declared.line.Step.TheVariants as steps
use Rattle.ct_log_lines.specs.Forms.{number_bound, first_with_rest, term_numbered}
use Rattle.ct_log_lines.specs.Gates.{gate_name, gate_in, gate_over, has_term, has_place}
use Rattle.ct_log_lines.specs.Equalities.{literal_in, step_in}
use Rattle.ct_log_lines.specs.Lines.{rule_step, line_in, is_end, not_zero, header_in}
use Rattle.ct_log_text.specs.Fitting.{is_term, has_terms_step, has_terms_close, has_terms_rule, has_terms, has_stripped}
use Rattle.ct_log_text.specs.Reading.{read_lines}
use Rattle.ct_log_text.specs.Written.{items_as, literal, step_item, close_item, gate_numbers, rule_parts, line_item, header_item, end_item, line_items}
use Rattle.ct_log_text.specs.Writable.{is_bare, is_writable, is_short, are_short}
use Rattle.ct_log_text.proofs.NumbersBack.{number_back, numbers_back, numbered_back, term_back, literal_back, each_back}
use Rattle.ct_log_text.proofs.StepsBack.{step_back, close_back}

-- a number is itself
same_number : (n : ℕ) → (n == n) ≡ true
same_number n = eq-eqb n n refl

-- the name of a gate
gate_name_back : (gate : Gate) → gate_in (word (gate_name gate)) ≡ Some gate
gate_name_back True = refl
gate_name_back False = refl
gate_name_back AndPos = refl
gate_name_back AndNeg = refl
gate_name_back OrPos = refl
gate_name_back OrNeg = refl
gate_name_back Iff1 = refl
gate_name_back Iff2 = refl
gate_name_back Iff3 = refl
gate_name_back Iff4 = refl
gate_name_back Ite1 = refl
gate_name_back Ite2 = refl
gate_name_back Ite3 = refl
gate_name_back Ite4 = refl
gate_name_back Then = refl
gate_name_back Else = refl

-- the numbers of a gate
gate_over_back : (gate : Gate) (t : TermId) (place : ℕ) (at of : Bool) → has_place gate ≡ at → has_term gate ≡ of → term_numbered t.0 ≡ t
    → (of || t.0 == 0) ≡ true → (at || place == 0) ≡ true → gate_over gate (gate_numbers gate t place) ≡ Some (steps.Gate gate t place)
gate_over_back gate t place true of p q same term_bare place_bare = rw p (rw p (ap (λ u. Some (steps.Gate gate u place)) same))
gate_over_back gate t place false true p q same term_bare place_bare =
    rw (p, q) (rw (q, p) (rw (eqb-true place 0 place_bare) (ap (λ u. Some (steps.Gate gate u 0)) same)))
gate_over_back gate t place false false p q same term_bare place_bare =
    let zero_term : t ≡ record { 0 = 0 } = ap (λ n. record { 0 = n }) (eqb-true t.0 0 term_bare) in
    rw (p, q) (rw q (rw (eqb-true place 0 place_bare) (ap (λ u. Some (steps.Gate gate u 0)) (sym zero_term))))

module _ (count : ℕ) (few : count ≤ most_terms) where
  gate_back : (gate : Gate) (t : TermId) (place : ℕ) → is_term count t ≡ true → is_bare (steps.Gate gate t place) ≡ true → are_short (rule_parts (steps.Gate gate t place)) ≡ true
      → option_and_then rule_step (first_with_rest (rule_parts (steps.Gate gate t place))) ≡ Some (steps.Gate gate t place)
  gate_back gate t place fits bare short =
      let parts = both_parts (has_term gate || t.0 == 0) (has_place gate || place == 0) bare in
      rw (gate_name_back gate, numbers_back (gate_numbers gate t place) short)
      (gate_over_back gate t place (has_place gate) (has_term gate) refl refl (numbered_back count t few fits) parts.0 parts.1)

  -- the rule of a line
  pub rule_back : (step : Step) → has_terms_rule count step ≡ true → is_bare step ≡ true → are_short (rule_parts step) ≡ true
      → option_and_then rule_step (first_with_rest (rule_parts step)) ≡ Some step
  rule_back (steps.Input t) fits bare short = rw (term_back count t few fits) refl
  rule_back (steps.Gate gate t place) fits bare short = gate_back gate t place fits bare short
  rule_back (steps.Exhaust t) fits bare short = rw (term_back count t few fits) refl
  rule_back (steps.Theory all close) fits bare short =
      let terms = both_parts (list_all (has_terms_step count) all) (has_terms_close count close) fits in
      let first = both_parts (are_short (items_as step_item all)) (is_short (close_item close) && true) short in
      let second = both_parts (is_short (close_item close)) true first.1 in
      rw (each_back step_in step_item (has_terms_step count) (step_back count few) all terms.0 first.0, close_back count few close terms.1 second.0) refl
  rule_back (steps.Learn hints) fits bare short = rw (numbers_back hints short) refl

  -- a line
  pub line_back : (n : ℕ) (line : Line) → has_terms count line ≡ true → is_bare line.step ≡ true → is_short (line_item n line) ≡ true → line_in n (line_item n line) ≡ Some line
  line_back n line fits bare short =
      let terms = both_parts (list_all (λ l. is_term count l.term) line.clause) (has_terms_rule count line.step) fits in
      let first = both_parts (nat_lt n number_bound) (are_short (items_as literal line.clause) && are_short (rule_parts line.step)) short in
      let second = both_parts (are_short (items_as literal line.clause)) (are_short (rule_parts line.step)) first.1 in
      rw (number_back n first.0, same_number n)
      (rw (each_back literal_in literal (λ l. is_term count l.term) (λ l good _. literal_back count l few good) line.clause terms.0 second.0, rule_back line.step terms.1 bare second.1) refl)

-- the last item
end_back : (m : ℕ) → nat_lt m number_bound ≡ true → is_end m (end_item m) ≡ true
end_back m short = rw (number_back m short, same_number m) refl

-- the first item
not_zero_of : (k : ℕ) (zero_too : Bool) → (k == 0) ≡ zero_too → 1 ≤ k → not_zero k ≡ Some k
not_zero_of k true is some = absurd (omega (arith, eqb-true k 0 is, some))
not_zero_of k false is some = rw is refl

pub header_back : (k : ℕ) → 1 ≤ k → nat_lt k number_bound ≡ true → header_in (header_item k) ≡ Some k
header_back k some short = rw (number_back k short) (not_zero_of k (k == 0) refl some)

-- lines after others, and the end
pub lines_back : (terms : Terms) → length terms ≤ most_terms → (place : ℕ) (done : List Line) (n : ℕ) (lines : List Line) (m : ℕ)
    → length done + 1 ≡ n → length done + length lines ≡ m → list_all (is_writable terms) lines ≡ true
    → are_short (line_items n lines (more (end_item m) none)) ≡ true
    → read_lines place terms done (line_items n lines (more (end_item m) none)) ≡ Ok (record { terms = terms; lines = done ++ lines })
lines_back terms few place done n [] m next count writable short =
    let all : length done ≡ m = omega (arith, count) in
    let parts = both_parts (nat_lt m number_bound && true) true short in
    let inner = both_parts (nat_lt m number_bound) true parts.0 in
    rw (all, end_back m inner.0) (ap (λ ls. Ok (record { terms = terms; lines = ls })) (sym (append-nil done)))
lines_back terms few place done n (line ∷ lines) m next count writable short =
    let good = both_parts (is_writable terms line) (list_all (is_writable terms) lines) writable in
    let fits = both_parts (has_terms (length terms) line) (has_stripped terms line && is_bare line.step) good.0 in
    let other = both_parts (has_stripped terms line) (is_bare line.step) fits.1 in
    let items = line_items (n + 1) lines (more (end_item m) none) in
    let parts = both_parts (is_short (line_item n line)) (are_short items) short in
    let longer : length (done ++ line ∷ []) ≡ length done + 1 = length-append done (line ∷ []) in
    let next_number : length (done ++ line ∷ []) + 1 ≡ n + 1 = omega (arith, longer, next) in
    let whole : length (done ++ line ∷ []) + length lines ≡ m = omega (arith, longer, count) in
    rw next (rw (line_back (length terms) few n line fits.0 other.1 parts.0)
    (rw (fits.0, other.0)
    (lines_back terms few (place + 1) (done ++ line ∷ []) (n + 1) lines m next_number whole good.1 parts.1
    ∙ ap (λ ls. Ok (record { terms = terms; lines = ls })) (append_assoc done (line ∷ []) lines))))
