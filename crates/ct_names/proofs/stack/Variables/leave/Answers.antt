use Rattle.std.proofs.Common.{drop, ap, ◌∙◌}
use Rattle.std.proofs.lemmas.List.{drop-drop}
use Rattle.ct_names.proofs.stack.Variables.leave.Goals as goal

pub loop-preserved : goal.loop-preserved
loop-preserved c = c.pop.ensures.rest ∙ ap (λ scope. drop 1 scope) c.loop.invariant ∙ drop-drop 1 c.loop.counter c.args.self.now
