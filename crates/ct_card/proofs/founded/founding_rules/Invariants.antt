use Rattle.std.proofs.Common.{◌≤◌}
use Rattle.ct_card.specs.Founding.{AreFoundingRules}
use Rattle.ct_card.proofs.founded.founding_rules.Given as goal

abbrev pub invariant-loop-s : goal.invariant-loop-s
invariant-loop-s l = record { from : l.first ≤ l.s; rules : AreFoundingRules l.sig l.first l.s l.rules.items }
