use Rattle.std.proofs.Common.{◌+◌, arith}
use Rattle.ct_sat.proofs.AnalysisLemmas.{Leads-skip, Leads-explain, HasNoMark-more}
use Rattle.ct_sat.proofs.ClauseLemmas.{unmarked_here}
use Rattle.ct_sat.proofs.analysis.explain_one.Goals as goal

pub returns-then-not-index-clause-down : goal.returns-then-not-index-clause-down
returns-then-not-index-clause-down c = λ put conflict leads.
    Leads-skip c.args.clauses.now c.args.trail.now.literals c.args.marks.now.items c.args.hints.now.items (c.args.index + 1) c.args.index put conflict
    (unmarked_here c.args.marks.now.items c.args.index c.index.result.now (omega (arith, c.requires.long)) c.index.ensures c.if-not-index.true) leads

pub returns-clause-down : goal.returns-clause-down
returns-clause-down c = λ put conflict leads.
    let marks = rw c.as_slice.ensures.value at c.mark.ensures.marked in
    rw c.in_ok-push.ensures.items (Leads-explain c.args.clauses.now c.args.trail.now.literals c.args.marks.now.items c.mark.new.marks.items c.args.hints.now.items c.args.index put conflict c.reason_of-clause.result.now c.reason_of-clause.ensures.whole.consistent c.reason_of-clause.ensures.reason marks leads)

pub returns-clause-unmarked : goal.returns-clause-unmarked
returns-clause-unmarked c = λ unmarked.
    let marks = rw c.as_slice.ensures.value at c.mark.ensures.marked in
    let lowers = rw c.as_slice-2.ensures.value at c.lower.ensures.lowers in
    HasNoMark-more c.args.trail.now.literals c.reason_of-clause.result.now.literals c.args.marks.now.items c.mark.new.marks.items c.args.start c.args.lowest c.lower.result marks lowers unmarked
