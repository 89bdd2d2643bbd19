use Rattle.ct_explain.proofs.ReasonLemmas.{negation_known}
use Rattle.ct_terms.specs.declared.term.Core.TheVariants as core
use Rattle.ct_explain.proofs.ReasonLemmas.{negation_premise}
use Rattle.ct_explain.proofs.premises.negation.Goals as goal

pub returns-in-Some-clause-enough : goal.returns-in-Some-clause-enough
returns-in-Some-clause-enough c = negation_premise c.args.table.now c.args.t c.in-Some.a c.args.value c.other_truth-other.result c.other_truth-other.ensures.of_true c.other_truth-other.ensures.of_false (rw c.in-Some.is at c.argument.ensures.under)

pub returns-in-None-clause-none : goal.returns-in-None-clause-none
returns-in-None-clause-none c = let none = rw c.in-None.is at c.argument.ensures.none in λ u has. none (core.Not u) has tt

pub returns-in-Some-clause-known : goal.returns-in-Some-clause-known
returns-in-Some-clause-known c = negation_known c.args.table.now c.args.t c.in-Some.a c.args.value c.other_truth-other.result c.other_truth-other.ensures.of_true c.other_truth-other.ensures.of_false (rw c.in-Some.is at c.argument.ensures.under)

pub returns-in-Some-clause-sides : goal.returns-in-Some-clause-sides
returns-in-Some-clause-sides c = let over = rw c.in-Some.is at c.argument.ensures.under in (over, c.other_truth-other.ensures.of_true, c.other_truth-other.ensures.of_false)
