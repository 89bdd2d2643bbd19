use Rattle.std.proofs.Common.{refl}
use Rattle.ct_explain.proofs.ReasonLemmas.{selection_known}
use Rattle.ct_terms.specs.declared.term.Core.TheVariants as core
use Rattle.ct_explain.proofs.ReasonLemmas.{selection_premise}
use Rattle.ct_explain.proofs.premises.selection.Goals as goal

pub returns-in-Some-clause-enough : goal.returns-in-Some-clause-enough
returns-in-Some-clause-enough c = selection_premise c.args.table.now c.args.t c.args.c c.in-Some.u (rw c.in-Some.is at c.argument.ensures.under)

pub returns-in-None-clause-none : goal.returns-in-None-clause-none
returns-in-None-clause-none c = let none = rw c.in-None.is at c.argument.ensures.none in λ s u has. none (core.Sel s u) has tt

pub returns-in-Some-clause-known : goal.returns-in-Some-clause-known
returns-in-Some-clause-known c = selection_known c.args.table.now c.args.t c.args.c c.in-Some.u (rw c.in-Some.is at c.argument.ensures.under)

pub returns-in-Some-clause-sides : goal.returns-in-Some-clause-sides
returns-in-Some-clause-sides c = let over = rw c.in-Some.is at c.argument.ensures.under in λ r. (over, refl)
