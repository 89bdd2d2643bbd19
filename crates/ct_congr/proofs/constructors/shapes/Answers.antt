use Rattle.std.proofs.Common.{◌≡◌, length, subst, arith}
use Rattle.ct_congr.specs.Rules.{AreShapes}
use Rattle.ct_congr.proofs.constructors.shapes.Goals as goal

pub returns-clause-shapes : goal.returns-clause-shapes
returns-clause-shapes c =
    let e : c.loop-t.t ≡ length c.args.table.now = omega (arith, c.len-t-end.ensures.count, c.loop-t-test.false) in
    subst (λ n. AreShapes c.args.table.now c.args.reps.now n c.loop-t.shapes.items) e c.loop-t.invariant.shapes
