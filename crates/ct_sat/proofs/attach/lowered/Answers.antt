use Rattle.std.proofs.Common.{inl, inr, arith}
use Rattle.ct_sat.proofs.AttachLemmas.{lowered-none, lowered-at, none_after}
use Rattle.ct_sat.proofs.attach.lowered.Goals as goal

pub returns-in-None : goal.returns-in-None
returns-in-None c = record { lowered = lowered-none c.args.trail.now.literals c.args.trail.now.decided c.args.low c.args.l c.in-None.ensures.found }

pub returns-then-low-index : goal.returns-then-low-index
returns-then-low-index c = record {
  lowered = lowered-at c.args.trail.now.literals c.args.trail.now.decided c.args.low c.args.low c.in-Some.index c.args.l c.in-Some.ensures.found.0
      c.in-Some.ensures.whole.consistent c.in-Some.ensures.found.1 c.in-Some.ensures.found.2 (omega arith) (inl c.if-low-index.true);
}

pub returns-then-last_index-index : goal.returns-then-last_index-index
returns-then-last_index-index c = record {
  lowered = lowered-at c.args.trail.now.literals c.args.trail.now.decided c.args.low c.args.low c.in-Some.index c.args.l c.in-Some.ensures.found.0
      c.in-Some.ensures.whole.consistent c.in-Some.ensures.found.1 c.in-Some.ensures.found.2 (omega arith)
      (inr (none_after c.args.trail.now.decided c.last_index.result c.in-Some.index c.last_index.ensures.last c.if-last_index-index.true));
}

pub returns-else-last_index-index : goal.returns-else-last_index-index
returns-else-last_index-index c =
    let below = c.if-low-index.false in
    record {
      lowered = lowered-at c.args.trail.now.literals c.args.trail.now.decided c.args.low c.in-Some.index c.in-Some.index c.args.l c.in-Some.ensures.found.0
          c.in-Some.ensures.whole.consistent c.in-Some.ensures.found.1 c.in-Some.ensures.found.2 (omega arith) (inl (omega arith));
    }
