-- Whether the term numbers of a line are those of terms, and its literals are over Boolean terms that are no negations.
use Rattle.std.specs.Prelude.{ℕ, Bool, true, false, ◌&&◌, ◌==◌, nat_lt, Option, Some, None, slice_get}
use Rattle.std.specs.List.{list_all}
use Rattle.ct_sorts.specs.declared.ids.SortId.{SortId}
use Rattle.ct_terms.specs.declared.ids.TermId.{TermId}
use Rattle.ct_terms.specs.declared.ids.Lit.{Lit}
use Rattle.ct_terms.specs.declared.term.Core.{Core}
use Rattle.ct_terms.specs.declared.term.Core.TheVariants.{Not}
use Rattle.ct_terms.specs.Terms.{Terms}
use Rattle.ct_log.specs.declared.rules.Pair.{Pair}
use Rattle.ct_log.specs.declared.rules.EqStep.{EqStep}
use Rattle.ct_log.specs.declared.rules.EqStep.TheVariants.{Hyp, Refl, Sym, Trans, Cong, Inject, Sel, Test, Expand, EqualIn, EqualOut, Neg, Single, Unique}
use Rattle.ct_log.specs.declared.rules.Close.{Close}
use Rattle.ct_log.specs.declared.rules.Close.TheVariants.{Clash, Cycle}
use Rattle.ct_log.specs.declared.line.Line.{Line}
use Rattle.ct_log.specs.declared.line.Step.{Step}
use Rattle.ct_log.specs.declared.line.Step.TheVariants.{Input, Gate, Exhaust, Theory, Learn}

-- the number is below that of the terms
abbrev pub is_term : ℕ → TermId → Bool
is_term n t = nat_lt t.0 n

-- so are the numbers of a pair, of a step of a cycle, and of an equality step
abbrev pub has_terms_pair : ℕ → Pair → Bool
has_terms_pair n pair = is_term n pair.left && is_term n pair.right

abbrev pub has_terms_step : ℕ → EqStep → Bool
has_terms_step n (Hyp l) = is_term n l.term
has_terms_step n (Refl t) = is_term n t
has_terms_step n (Sym i) = true
has_terms_step n (Trans i j) = true
has_terms_step n (Cong t u is) = is_term n t && is_term n u
has_terms_step n (Inject i k) = true
has_terms_step n (Sel t i) = is_term n t
has_terms_step n (Test t i) = is_term n t
has_terms_step n (Expand i c) = is_term n c
has_terms_step n (EqualIn t i) = is_term n t
has_terms_step n (EqualOut i) = true
has_terms_step n (Neg t i) = is_term n t
has_terms_step n (Single x y) = is_term n x && is_term n y
has_terms_step n (Unique p pairs) = list_all (has_terms_pair n) pairs

abbrev pub has_terms_close : ℕ → Close → Bool
has_terms_close n (Clash i) = true
has_terms_close n (Cycle hops) = list_all (λ hop. is_term n hop.con) hops

-- every term number of a rule, and of a line, is that of a term
abbrev pub has_terms_rule : ℕ → Step → Bool
has_terms_rule n (Input t) = is_term n t
has_terms_rule n (Gate gate t place) = is_term n t
has_terms_rule n (Exhaust t) = is_term n t
has_terms_rule n (Theory steps close) = list_all (has_terms_step n) steps && has_terms_close n close
has_terms_rule n (Learn hints) = true

abbrev pub has_terms : ℕ → Line → Bool
has_terms n line = list_all (λ l. is_term n l.term) line.clause && has_terms_rule n line.step

-- what stands there is a Boolean term that is no negation
abbrev pub is_stripped_entry : Option (Core × SortId) → Bool
is_stripped_entry None = false
is_stripped_entry (Some (Not t, s)) = false
is_stripped_entry (Some (core, s)) = s.0 == 0

-- the literal is over a Boolean term that is no negation
abbrev pub is_stripped : Terms → Lit → Bool
is_stripped terms l = is_stripped_entry (slice_get terms l.term.0)

-- the literal of a hypothesis is, and there is none in another step
abbrev pub has_stripped_step : Terms → EqStep → Bool
has_stripped_step terms (Hyp l) = is_stripped terms l
has_stripped_step terms _ = true

abbrev pub has_stripped_rule : Terms → Step → Bool
has_stripped_rule terms (Theory steps close) = list_all (has_stripped_step terms) steps
has_stripped_rule terms _ = true

-- every literal of the line is over a Boolean term that is no negation
abbrev pub has_stripped : Terms → Line → Bool
has_stripped terms line = list_all (is_stripped terms) line.clause && has_stripped_rule terms line.step
