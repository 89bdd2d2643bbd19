use Rattle.std.proofs.Common.{arith}
use Rattle.ct_stack.specs.Held.{level_in}
use Rattle.ct_stack.proofs.MarkLemmas.{levels_are}
use Rattle.ct_stack.proofs.stack.AssertionStack.levels.Goals as goal

pub returns : goal.returns
returns c =
    let s = c.self.inside in
    record { count = omega (arith, c.len.ensures, s.levels.ok.0, levels_are (level_in s.scope s.asserts.items) s.levels.items c.args.self.now c.self.view_is) }
