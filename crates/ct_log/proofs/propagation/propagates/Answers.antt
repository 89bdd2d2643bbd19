use Rattle.std.proofs.Common.{◌++◌, ◌∷◌, [], ◌∙◌, arith}
use Rattle.ct_log.specs.Acceptance.{clauses_of}
use Rattle.ct_log.proofs.PropagatedLemmas.{Propagates-next, Propagates-stop, Propagates-end}
use Rattle.ct_log.proofs.propagation.propagates.Goals as goal

pub returns-in-None-clause-settles : goal.returns-in-None-clause-settles
returns-in-None-clause-settles c = λ before marked after all.
    let h = c.loop-hint.invariant.settled before marked in
    Propagates-stop (clauses_of c.args.lines.now) c.args.hints.now c.loop-hint.hint-index c.loop-hint-test.true h.0 before after (c.in-None.ensures.unit h.0 h.1) (h.2 after) all

pub mark-requires : goal.mark-requires
mark-requires c = record { room = λ past. omega (arith, c.requires.room, c.loop-hint.invariant.few, c.loop-hint.invariant.room, c.loop-hint-test.true) }

pub loop-hint-preserved : goal.loop-hint-preserved
loop-hint-preserved c = record {
  settled = λ before marked.
      let h = c.loop-hint.invariant.settled before marked in (
        h.0 ++ c.in-Some.l ∷ [],
        c.mark.ensures.marked h.0 h.1,
        λ after. Propagates-next (clauses_of c.args.lines.now) c.args.hints.now c.loop-hint.hint-index c.loop-hint-test.true h.0 c.in-Some.l before after (c.in-Some.ensures.unit h.0 h.1) (h.2 after),
      );
  few = omega (arith, c.mark.ensures.others, c.loop-hint.invariant.few);
  stamps = c.mark.ensures.stamps ∙ c.loop-hint.invariant.stamps;
  room = c.mark.ensures.room ∙ c.loop-hint.invariant.room;
}

pub returns-clause-settles : goal.returns-clause-settles
returns-clause-settles c = λ before marked.
    let h = c.loop-hint.invariant.settled before marked in
    (h.0, Propagates-end (clauses_of c.args.lines.now) c.args.hints.now c.loop-hint.hint-index h.0 before c.loop-hint-test.false h.2, h.1)
