-- Lines, `(s N (l ..) RULE)`, and the items around the lines and the terms.
use Rattle.std.specs.Prelude.{ℕ, Bool, false, ◌==◌, is_none, List, Option, Some, None, option_map, option_and_then, if◌then◌else◌, codes}
use Rattle.ct_sexpr.specs.Expression.{Expression, Expressions}
use Rattle.ct_terms.specs.declared.ids.TermId.{TermId}
use Rattle.ct_terms.specs.declared.ids.Lit.{Lit}
use Rattle.ct_log.specs.declared.rules.EqStep.{EqStep}
use Rattle.ct_log.specs.declared.line.Line.{Line}
use Rattle.ct_log.specs.declared.line.Step.{Step}
use Rattle.ct_log.specs.declared.line.Step.TheVariants.{Input, Exhaust, Theory, Learn}
use Rattle.ct_log_lines.specs.Forms.{option_both, is_word, list_items, parts_after, parts_numbered, first_with_rest, one_of, two_of, number_in, numbers_in, term_in, each}
use Rattle.ct_log_lines.specs.Gates.{gate_step}
use Rattle.ct_log_lines.specs.Equalities.{literal_in, step_in, close_in}

-- the clause of a line is a list of literals
abbrev pub clause_in : Expression → Option (List Lit)
clause_in e = option_and_then (each literal_in) (list_items e)

-- the equality steps of a theory line
abbrev pub steps_in : Expression → Option (List EqStep)
steps_in e = option_and_then (each step_in) (list_items e)

-- an assertion and a split have one term
abbrev pub one_term_in : Expressions → Option TermId
one_term_in parts = option_and_then term_in (one_of parts)

-- a theory line has a list of steps and its end
abbrev pub theory_of : Expression × Expression → Option Step
theory_of parts = option_both (λ all end. Theory all end) (steps_in parts.0) (close_in parts.1)

abbrev pub theory_step : Expressions → Option Step
theory_step parts = option_and_then theory_of (two_of parts)

-- the step of a line, by the word of its rule and what stands after it
abbrev pub rule_step : Expression × Expressions → Option Step
rule_step parts =
    if is_word (codes "input") parts.0 then option_map (λ t. Input t) (one_term_in parts.1) else
    (if is_word (codes "gate") parts.0 then gate_step parts.1 else
    (if is_word (codes "exhaust") parts.0 then option_map (λ t. Exhaust t) (one_term_in parts.1) else
    (if is_word (codes "theory") parts.0 then theory_step parts.1 else
    (if is_word (codes "learn") parts.0 then option_map (λ hints. Learn hints) (numbers_in parts.1) else None))))

-- the line with this clause and what stands after it
abbrev pub line_after_clause : Expression × Expressions → Option Line
line_after_clause parts =
    option_both (λ literals step. record { clause = literals; step = step }) (clause_in parts.0) (option_and_then rule_step (first_with_rest parts.1))

-- the line with the number n that the expression is
abbrev pub line_in : ℕ → Expression → Option Line
line_in n e = option_and_then line_after_clause (option_and_then first_with_rest (parts_numbered (codes "s") n e))

-- there is nothing
abbrev pub is_nothing : Option Expressions → Bool
is_nothing None = false
is_nothing (Some es) = is_none (first_with_rest es)

-- the item that ends a derivation of so many lines, `(end M)`
abbrev pub is_end : ℕ → Expression → Bool
is_end n e = is_nothing (parts_numbered (codes "end") n e)

-- the number of the item that a derivation begins with, `(cosmt-derivation K)`, which is not 0
abbrev pub not_zero : ℕ → Option ℕ
not_zero n = if n == 0 then None else Some n

abbrev pub header_in : Expression → Option ℕ
header_in e = option_and_then not_zero (option_and_then number_in (option_and_then one_of (parts_after (codes "cosmt-derivation") e)))
