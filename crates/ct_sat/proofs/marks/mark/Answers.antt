use Rattle.std.proofs.Common.{get_or, take, false}
use Rattle.std.proofs.lemmas.List.{take_more}
use Rattle.ct_terms.specs.declared.ids.Lit.{Lit}
use Rattle.ct_sat.proofs.AnalysisLemmas.{MarksClause-more}
use Rattle.ct_sat.proofs.marks.mark.Goals as goal

pub loop-literal-preserved : goal.loop-literal-preserved
loop-literal-preserved c =
    let d : Lit = record { term = record { 0 = 0 }; positive = false } in
    rw (take_more c.args.clause.now c.loop-literal.literal-index d c.loop-literal-test.true)
    (MarksClause-more c.args.trail.now.literals (take c.loop-literal.literal-index c.args.clause.now) (get_or c.args.clause.now c.loop-literal.literal-index d) c.args.marks.now.items c.loop-literal.marks.items c.mark_variable.new.marks.items c.loop-literal.invariant c.mark_variable.ensures.marked)
