-- Lines of gates, `gate NAME`, `gate NAME t` and `gate NAME t k`.
use Rattle.std.specs.Prelude.{ℕ, Bool, true, false, not, ◌&&◌, List, [], ◌∷◌, Option, Some, None, find, option_and_then, if◌then◌else◌, codes}
use Rattle.ct_sexpr.specs.Expression.{Expression, Expressions}
use Rattle.ct_log.specs.declared.rules.Gate.{Gate}
use Rattle.ct_log.specs.declared.rules.Gate.TheVariants.{True, False, AndPos, AndNeg, OrPos, OrNeg, Iff1, Iff2, Iff3, Iff4, Ite1, Ite2, Ite3, Ite4, Then, Else}
use Rattle.ct_log.specs.declared.line.Step.{Step}
use Rattle.ct_log.specs.declared.line.Step.TheVariants as steps
use Rattle.ct_log_lines.specs.Forms.{is_word, first_with_rest, numbers_in, term_numbered}

-- the gates, and the name of each
abbrev pub gates : List Gate
gates = True ∷ (False ∷ (AndPos ∷ (AndNeg ∷ (OrPos ∷ (OrNeg ∷ (Iff1 ∷ (Iff2 ∷ (Iff3 ∷ (Iff4 ∷ (Ite1 ∷ (Ite2 ∷ (Ite3 ∷ (Ite4 ∷ (Then ∷ (Else ∷ [])))))))))))))))

abbrev pub gate_name : Gate → List ℕ
gate_name True = codes "true"
gate_name False = codes "false"
gate_name AndPos = codes "and-pos"
gate_name AndNeg = codes "and-neg"
gate_name OrPos = codes "or-pos"
gate_name OrNeg = codes "or-neg"
gate_name Iff1 = codes "iff-1"
gate_name Iff2 = codes "iff-2"
gate_name Iff3 = codes "iff-3"
gate_name Iff4 = codes "iff-4"
gate_name Ite1 = codes "ite-1"
gate_name Ite2 = codes "ite-2"
gate_name Ite3 = codes "ite-3"
gate_name Ite4 = codes "ite-4"
gate_name Then = codes "then"
gate_name Else = codes "else"

-- the gate with this name
abbrev pub gate_in : Expression → Option Gate
gate_in e = find (λ gate. is_word (gate_name gate) e) gates

-- the gate is of a term
abbrev pub has_term : Gate → Bool
has_term True = false
has_term False = false
has_term _ = true

-- the gate is of an argument of its term, at a place
abbrev pub has_place : Gate → Bool
has_place AndPos = true
has_place OrNeg = true
has_place _ = false

-- the step of a gate with these numbers; a term or a place that is not written is 0
abbrev pub gate_over : Gate → List ℕ → Option Step
gate_over gate [] = if has_term gate then None else Some (steps.Gate gate (term_numbered 0) 0)
gate_over gate (t ∷ []) = if has_term gate && not (has_place gate) then Some (steps.Gate gate (term_numbered t) 0) else None
gate_over gate (t ∷ (k ∷ [])) = if has_place gate then Some (steps.Gate gate (term_numbered t) k) else None
gate_over gate (t ∷ (k ∷ (n ∷ ns))) = None

-- the step of a gate, whose name stands first
abbrev pub gate_after_name : Expression × Expressions → Option Step
gate_after_name parts = option_and_then (λ gate. option_and_then (gate_over gate) (numbers_in parts.1)) (gate_in parts.0)

abbrev pub gate_step : Expressions → Option Step
gate_step parts = option_and_then gate_after_name (first_with_rest parts)
