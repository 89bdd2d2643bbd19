use Rattle.std.proofs.Common.{◌<◌, subst}
use Rattle.std.proofs.lemmas.Option.{slice_get-get_or}
use Rattle.ct_explain.proofs.WritingLemmas.{IsGrown-then, AreDone-later}
use Rattle.ct_explain.proofs.StepLemmas.{ToldEach-next}
use Rattle.ct_explain.proofs.merges.write_each.Goals as goal

pub loop-i-preserved : goal.loop-i-preserved
loop-i-preserved c =
    let state = c.args.classes.now in
    record {
      grown = IsGrown-then state c.args.writer.now c.loop-i.writer c.write_premise.new.writer c.loop-i.invariant.grown c.in_ok-n.ensures.grown;
      done = AreDone-later state c.loop-i.writer c.write_premise.new.writer state.merges c.args.done.now c.in_ok-n.ensures.grown c.loop-i.invariant.done;
      told = ToldEach-next state c.loop-i.writer c.write_premise.new.writer c.loop-i.numbers.items c.push.new.self.items c.args.xs.now c.args.ys.now c.loop-i.i c.in_ok-n.n
          (record { 0 = 0 }) (record { 0 = 0 }) c.in_ok-n.ensures.grown c.loop-i-test.true c.requires.long c.in_ok-push.ensures.items c.loop-i.invariant.told c.in_ok-n.ensures.told;
    }

pub write_premise-requires-clause-ready : goal.write_premise-requires-clause-ready
write_premise-requires-clause-ready c =
    c.requires.ready c.loop-i.i _ _ (slice_get-get_or c.args.xs.now c.loop-i.i (record { 0 = 0 }) c.loop-i-test.true)
    (slice_get-get_or c.args.ys.now c.loop-i.i (record { 0 = 0 }) (subst (λ n. c.loop-i.i < n) c.requires.long c.loop-i-test.true))
