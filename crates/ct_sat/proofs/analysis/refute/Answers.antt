use Rattle.ct_sat.proofs.ClauseLemmas.{false_at, listed_at, refuted}
use Rattle.ct_sat.proofs.analysis.refute.Goals as goal

pub returns : goal.returns
returns c =
    let marks = rw c.as_slice.ensures.value at c.mark.ensures.marked in
    let down = rw c.new-hints.ensures.items at c.in_ok-explain.ensures.down in
    record {
      follows = rw c.in_ok-finish.ensures.hints
          (refuted c.args.clauses.now c.args.trail.now.literals c.in_ok-marks.marks.items c.mark.new.marks.items c.explain.new.marks.items c.explain.new.hints.items c.len-2.result c.index-clauses-conflict.result
          (listed_at c.args.clauses.now c.args.trail.now.literals c.args.conflict c.index-clauses-conflict.result c.requires.conflict c.index-clauses-conflict.is)
          (false_at c.args.clauses.now c.args.trail.now.literals c.args.conflict c.index-clauses-conflict.result c.requires.conflict c.index-clauses-conflict.is)
          marks c.len-2.ensures.count down);
    }
