use Rattle.std.proofs.Common.{true, refl}
use Rattle.ct_rules.specs.Rules.{truth_term}
use Rattle.ct_congr.proofs.AtTermLemmas.{HasCon-equal, rep_inside}
use Rattle.ct_congr.proofs.at_term.equal_out_at.Goals as goal

pub is_true-requires-clause-own : goal.is_true-requires-clause-own
is_true-requires-clause-own c = rep_inside c.args.table.now c.args.reps.now c.args.cons.now c.requires.grouped c.args.t

pub returns-clause-waits : goal.returns-clause-waits
returns-clause-waits c = λ d.
    c.in_ok-let_wait.ensures.waits d c.args.table.now
    (record { term = c.args.t; stands = c.requires.stands; holds = HasCon-equal c.args.table.now c.args.reps.now c.args.cons.now c.requires.grouped c.args.t (truth_term true) (rw c.if-not-is_true.false at c.is_true.ensures.value) }, refl)
    tt
