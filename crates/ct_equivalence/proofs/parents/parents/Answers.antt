use Rattle.std.proofs.Common.{◌≡◌, ◌∙◌, length, subst, arith}
use Rattle.ct_equivalence.specs.Parents.{AreParents}
use Rattle.ct_equivalence.proofs.ParentLemmas.{AreParents-none, AreParents-more}
use Rattle.ct_equivalence.proofs.parents.parents.Goals as goal

pub loop-t-init : goal.loop-t-init
loop-t-init c = AreParents-none c.args.table.now c.in_ok-rows.rows (c.in_ok-rows.ensures.long ∙ c.len.ensures.count) c.in_ok-rows.ensures.empty

pub loop-t-preserved : goal.loop-t-preserved
loop-t-preserved c =
    AreParents-more c.args.table.now c.core.result.now (record { 0 = c.loop-t.t }) c.loop-t.rows c.add_parent.new.rows c.core.ensures.value c.in_ok-add_parent.ensures.added c.loop-t.invariant

pub returns : goal.returns
returns c =
    let e : c.loop-t.t ≡ length c.args.table.now = omega arith in
    record { parents = subst (λ n. AreParents c.args.table.now n c.loop-t.rows) e c.loop-t.invariant }
