use Rattle.std.proofs.Common.{◌≤◌}
use Rattle.ct_card.specs.Ruled.{AreSeveralRules}
use Rattle.ct_card.proofs.several.several_rules.Given as goal

abbrev pub invariant-loop-s : goal.invariant-loop-s
invariant-loop-s l = record { from : l.first ≤ l.s; rules : AreSeveralRules l.sig l.first l.s l.rules.items }
