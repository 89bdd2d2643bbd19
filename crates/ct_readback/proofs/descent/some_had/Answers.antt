use Rattle.std.proofs.Common.{arith}
use Rattle.ct_sexpr.specs.View.{expressions_of}
use Rattle.ct_readback.specs.Nodes.{CanHave}
use Rattle.ct_readback.proofs.DescentLemmas.{on_false}
use Rattle.ct_readback.proofs.NodeSortLemmas.{said_sorts, said_heads}
use Rattle.ct_readback.proofs.SortSteps.{keeps_self, keeps_trans, can_declared, none_more}
use Rattle.ct_readback.proofs.descent.some_had.Goals as goal

pub loop-s-init : goal.loop-s-init
loop-s-init c = (keeps_self c.args.known.now.items, c.requires.known, λ t less. absurd (omega (arith, less)))

pub returns-in_err-can_have-clause-keeps : goal.returns-in_err-can_have-clause-keeps
returns-in_err-can_have-clause-keeps c = keeps_trans c.args.known.now.items c.loop-s.known.items c.can_have.new.known.items c.loop-s.invariant.0 c.in_err-can_have.ensures.keeps

pub returns-then-branch-clause-keeps : goal.returns-then-branch-clause-keeps
returns-then-branch-clause-keeps c = keeps_trans c.args.known.now.items c.loop-s.known.items c.can_have.new.known.items c.loop-s.invariant.0 c.in_ok-can_have.ensures.keeps

pub loop-s-preserved : goal.loop-s-preserved
loop-s-preserved c =
    let d = c.args.sig.now in
    let rows = expressions_of c.args.rows.now in
    let i = c.args.i in
    let s = c.loop-s.s in
    let done = c.in_ok-can_have.ensures in (
      keeps_trans c.args.known.now.items c.loop-s.known.items c.can_have.new.known.items c.loop-s.invariant.0 done.keeps,
      done.known,
      none_more d rows i s c.loop-s.invariant.2 (on_false c.in_ok-can_have.field-0 (CanHave d rows i (record { 0 = s }) → ⊥) c.if-branch.false done.cannot),
    )

pub returns-clause-sort : goal.returns-clause-sort
returns-clause-sort c =
    let d = c.args.sig.now in
    let rows = expressions_of c.args.rows.now in
    let consistent = c.sorts-s-end.ensures.consistent in
    λ t can.
    let declared = can_declared d consistent (said_sorts d consistent) (said_heads d consistent) rows c.args.i t can in
    c.loop-s.invariant.2 t (omega (arith, declared, c.loop-s-test.false, c.sorts-s-end.ensures.count)) can
