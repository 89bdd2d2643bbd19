use Rattle.std.proofs.Common.{◌≡◌}
use Rattle.ct_sorts.proofs.OwnPushLemmas.{ArePushedOwn}
use Rattle.ct_sorts.proofs.block.push_own.Given as goal

abbrev pub invariant-loop-decl : goal.invariant-loop-decl
invariant-loop-decl l = ArePushedOwn l.fn.table l.table l.fn.first_head l.block l.given.items l.head l.decl-index
