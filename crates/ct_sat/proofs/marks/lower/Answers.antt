use Rattle.std.proofs.Common.{get_or, take, false}
use Rattle.std.proofs.lemmas.List.{take_more}
use Rattle.ct_terms.specs.declared.ids.Lit.{Lit}
use Rattle.ct_sat.proofs.AnalysisLemmas.{Lowers-more}
use Rattle.ct_sat.proofs.marks.lower.Goals as goal

pub loop-literal-preserved : goal.loop-literal-preserved
loop-literal-preserved c =
    let d : Lit = record { term = record { 0 = 0 }; positive = false } in
    rw (take_more c.args.clause.now c.loop-literal.literal-index d c.loop-literal-test.true)
    (Lowers-more c.args.trail.now.literals (take c.loop-literal.literal-index c.args.clause.now) (get_or c.args.clause.now c.loop-literal.literal-index d) c.args.start c.args.index c.loop-literal.lowest c.lower_to-lowest.result c.loop-literal.invariant c.lower_to-lowest.ensures.lowers)
