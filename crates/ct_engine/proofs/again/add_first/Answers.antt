use Rattle.std.proofs.Common.{◌≡◌, ℕ, ◌+◌, ◌<◌, ◌≤◌, ◌∷◌, ◌++◌, List, [], length, sym, ap, subst, ◌∙◌, arith}
use Rattle.ct_engine.specs.declared.verdict.Move.{Move}
use Rattle.ct_engine.specs.declared.verdict.Move.TheVariants as move
use Rattle.ct_engine.specs.Progress.{AreUpTo}
use Rattle.ct_engine.specs.Keeping.{HasFirst}
use Rattle.ct_engine.proofs.TaskLemmas.{IsOfOneTask-itself, IsOfOneTask-then, IsOfOneClosure-task}
use Rattle.ct_engine.proofs.KeepingLemmas.{HasFirst-then, adds_more, adds_whole}
use Rattle.ct_engine.proofs.again.add_first.Goals as goal

pub lines-init : goal.lines-init
lines-init c =
    let course = c.args.course.now in
    let same : course.initial ≡ course.initial + 0 = omega arith in
    record {
      under_way = c.requires.under_way;
      same = IsOfOneTask-itself course;
      start = c.requires.start;
      up_to = subst (AreUpTo course.search.clauses) same c.requires.up_to;
      moves = c.requires.moves;
    }

pub lines-preserved : goal.lines-preserved
lines-preserved c =
    let at = c.lines in
    let old = c.args.course.now in
    let added = c.in_ok-add_line.ensures in
    let next : old.initial + at.index + 1 ≡ old.initial + (at.index + 1) = omega arith in
    record {
      under_way = added.under_way;
      same = IsOfOneTask-then old at.course c.add_line.new.course at.invariant.same added.same;
      start = added.start;
      up_to = subst (AreUpTo c.add_line.new.course.search.clauses) next added.up_to;
      moves =
          added.added (at.invariant.same.recorded ∙ c.requires.recorded)
          ∙ (ap (λ (ms : List Move). ms ++ move.Add (old.initial + at.index + 1) ∷ []) at.invariant.moves ∙ sym (adds_more old.initial at.index));
    }

pub add_line-requires-clause-before : goal.add_line-requires-clause-before
add_line-requires-clause-before c =
    let last = c.args.course.now.initial + c.lines.index in
    let below : last < last + 1 = omega arith in
    (last, below, c.lines.invariant.up_to)
