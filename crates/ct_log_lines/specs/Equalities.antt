-- The equality steps of a theory line, `(RULE ..)`, and how the line ends.
use Rattle.std.specs.Prelude.{ℕ, Bool, true, false, List, [], ◌∷◌, Option, Some, None, option_map, option_and_then, if◌then◌else◌, codes}
use Rattle.std.specs.Option.{option_or}
use Rattle.ct_sexpr.specs.Expression.{Expression, Expressions}
use Rattle.ct_terms.specs.declared.ids.TermId.{TermId}
use Rattle.ct_terms.specs.declared.ids.Lit.{Lit}
use Rattle.ct_log.specs.declared.rules.Entry.{Entry}
use Rattle.ct_log.specs.declared.rules.Entry.TheVariants as entries
use Rattle.ct_log.specs.declared.rules.Pair.{Pair}
use Rattle.ct_log.specs.declared.rules.Hop.{Hop}
use Rattle.ct_log.specs.declared.rules.EqStep.{EqStep}
use Rattle.ct_log.specs.declared.rules.EqStep.TheVariants.{Hyp, Refl, Sym, Trans, Cong, Inject, Sel, Test, Expand, EqualIn, EqualOut, Neg, Single, Unique}
use Rattle.ct_log.specs.declared.rules.Close.{Close}
use Rattle.ct_log.specs.declared.rules.Close.TheVariants.{Clash, Cycle}
use Rattle.ct_log_lines.specs.Forms.{option_both, is_word, list_items, parts_after, first_with_rest, one_of, three_of, number_in, numbers_in, term_in, term_numbered, each}

-- a literal is `n` or `(not n)`
abbrev pub literal_over : Bool → TermId → Lit
literal_over positive term = record { term = term; positive = positive }

abbrev pub negated_in : Expression → Option TermId
negated_in e = option_and_then term_in (option_and_then one_of (parts_after (codes "not") e))

abbrev pub literal_in : Expression → Option Lit
literal_in e = option_or (option_map (literal_over true) (term_in e)) (option_map (literal_over false) (negated_in e))

-- three numbers
abbrev pub numbers_of_three : Expression × Expression × Expression → Option (ℕ × ℕ × ℕ)
numbers_of_three es = option_both (λ a (others : ℕ × ℕ). (a, others.0, others.1)) (number_in es.0) (option_both (λ b c. (b, c)) (number_in es.1) (number_in es.2))

abbrev pub three_numbers_in : Expressions → Option (ℕ × ℕ × ℕ)
three_numbers_in es = option_and_then numbers_of_three (three_of es)

-- an entry of a pair is the number of a step or `(pair k i j)`
abbrev pub entry_of_pair : ℕ × ℕ × ℕ → Entry
entry_of_pair numbers = entries.Pair numbers.0 numbers.1 numbers.2

abbrev pub entry_in : Expression → Option Entry
entry_in e =
    option_or (option_map (λ i. entries.Step i) (number_in e))
    (option_map entry_of_pair (option_and_then three_numbers_in (parts_after (codes "pair") e)))

-- a pair is `(l r e ..)`
abbrev pub pair_of_right : TermId → Expression × Expressions → Option Pair
pair_of_right left parts = option_both (λ right all. record { left = left; right = right; entries = all }) (term_in parts.0) (each entry_in parts.1)

abbrev pub pair_of_left : Expression × Expressions → Option Pair
pair_of_left parts = option_and_then (λ left. option_and_then (pair_of_right left) (first_with_rest parts.1)) (term_in parts.0)

abbrev pub pair_in : Expression → Option Pair
pair_in e = option_and_then pair_of_left (option_and_then first_with_rest (list_items e))

-- a constructor term of a cycle is `(c k i)`
abbrev pub hop_of : ℕ × ℕ × ℕ → Hop
hop_of numbers = record { con = term_numbered numbers.0; place = numbers.1; step = numbers.2 }

abbrev pub hop_in : Expression → Option Hop
hop_in e = option_map hop_of (option_and_then three_numbers_in (list_items e))

-- the rules with one number
abbrev pub step_over_one : Expression → ℕ → Option EqStep
step_over_one head a =
    if is_word (codes "refl") head then Some (Refl (term_numbered a)) else
    (if is_word (codes "sym") head then Some (Sym a) else
    (if is_word (codes "equal-out") head then Some (EqualOut a) else None))

-- the rules with two numbers
abbrev pub step_over_two : Expression → ℕ → ℕ → Option EqStep
step_over_two head a b =
    if is_word (codes "trans") head then Some (Trans a b) else
    (if is_word (codes "inject") head then Some (Inject a b) else
    (if is_word (codes "sel") head then Some (Sel (term_numbered a) b) else
    (if is_word (codes "test") head then Some (Test (term_numbered a) b) else
    (if is_word (codes "expand") head then Some (Expand a (term_numbered b)) else
    (if is_word (codes "equal-in") head then Some (EqualIn (term_numbered a) b) else
    (if is_word (codes "neg") head then Some (Neg (term_numbered a) b) else
    (if is_word (codes "single") head then Some (Single (term_numbered a) (term_numbered b)) else None)))))))

-- congruence has two terms and then any numbers of steps
abbrev pub congruence_over : List ℕ → Option EqStep
congruence_over [] = None
congruence_over (t ∷ []) = None
congruence_over (t ∷ (u ∷ ns)) = Some (Cong (term_numbered t) (term_numbered u) ns)

-- the rules other than congruence, by how many numbers they have
abbrev pub step_by_count : Expression → List ℕ → Option EqStep
step_by_count head [] = None
step_by_count head (a ∷ []) = step_over_one head a
step_by_count head (a ∷ (b ∷ [])) = step_over_two head a b
step_by_count head (a ∷ (b ∷ (n ∷ ns))) = None

-- the rules that have numbers alone
abbrev pub step_over : Expression → List ℕ → Option EqStep
step_over head ns = if is_word (codes "cong") head then congruence_over ns else step_by_count head ns

-- a hypothesis has a literal
abbrev pub hypothesis_in : Expressions → Option EqStep
hypothesis_in parts = option_map (λ literal. Hyp literal) (option_and_then literal_in (one_of parts))

-- uniqueness has the number of a pair and then any pairs
abbrev pub uniqueness_of : Expression × Expressions → Option EqStep
uniqueness_of parts = option_both (λ chosen pairs. Unique chosen pairs) (number_in parts.0) (each pair_in parts.1)

abbrev pub uniqueness_in : Expressions → Option EqStep
uniqueness_in parts = option_and_then uniqueness_of (first_with_rest parts)

-- an equality step, by its rule and what stands after it
abbrev pub step_of_rule : Expression × Expressions → Option EqStep
step_of_rule parts =
    if is_word (codes "hyp") parts.0 then hypothesis_in parts.1 else
    (if is_word (codes "unique") parts.0 then uniqueness_in parts.1 else option_and_then (step_over parts.0) (numbers_in parts.1))

abbrev pub step_in : Expression → Option EqStep
step_in e = option_and_then step_of_rule (option_and_then first_with_rest (list_items e))

-- how a theory line ends: `(clash i)` or `(cycle (c k i) ..)`
abbrev pub clash_in : Expressions → Option Close
clash_in parts = option_map (λ step. Clash step) (option_and_then number_in (one_of parts))

abbrev pub cycle_in : Expressions → Option Close
cycle_in parts = option_map (λ hops. Cycle hops) (each hop_in parts)

abbrev pub close_of_rule : Expression × Expressions → Option Close
close_of_rule parts =
    if is_word (codes "clash") parts.0 then clash_in parts.1 else
    (if is_word (codes "cycle") parts.0 then cycle_in parts.1 else None)

abbrev pub close_in : Expression → Option Close
close_in e = option_and_then close_of_rule (option_and_then first_with_rest (list_items e))
