use Rattle.std.proofs.Common.{sym, ◌∙◌}
use Rattle.ct_trial.proofs.SameCopyLemmas.{one_list}
use Rattle.ct_trial.proofs.same.are_nodes.Goals as goal

pub returns : goal.returns
returns c = record { same = λ yes. one_list c.args.nodes.now c.args.others.now (sym c.eq-same.ensures ∙ yes) }
