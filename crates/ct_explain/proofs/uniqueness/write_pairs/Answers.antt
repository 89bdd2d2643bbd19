use Rattle.std.proofs.lemmas.List.Elements.{Contains-get_or}
use Rattle.ct_rules.specs.declared.equation.Equation.{Equation}
use Rattle.ct_explain.proofs.WritingLemmas.{IsGrown-then, AreDone-later}
use Rattle.ct_explain.proofs.PairLemmas.{ArePairsTold-next}
use Rattle.ct_explain.proofs.uniqueness.write_pairs.Goals as goal

abbrev zeroth : Equation
zeroth = record { left = record { 0 = 0 }; right = record { 0 = 0 } }

pub write_pair-requires-clause-matched : goal.write_pair-requires-clause-matched
write_pair-requires-clause-matched c = c.requires.all _ (Contains-get_or c.args.equations.now c.loop-e.e-index zeroth c.loop-e-test.true)

pub loop-e-preserved : goal.loop-e-preserved
loop-e-preserved c =
    let state = c.args.classes.now in
    record {
      grown = IsGrown-then state c.args.writer.now c.loop-e.writer c.write_pair.new.writer c.loop-e.invariant.grown c.in_ok-pair.ensures.grown;
      done = AreDone-later state c.loop-e.writer c.write_pair.new.writer state.merges c.args.done.now c.in_ok-pair.ensures.grown c.loop-e.invariant.done;
      told = ArePairsTold-next state state.terms c.loop-e.writer c.write_pair.new.writer c.args.equations.now c.loop-e.pairs.items c.push.new.self.items c.loop-e.e-index c.in_ok-pair.pair
          zeroth c.in_ok-pair.ensures.grown c.loop-e-test.true c.in_ok-push.ensures.items c.loop-e.invariant.told c.in_ok-pair.ensures.pair;
    }

pub write_pair-requires-clause-paved : goal.write_pair-requires-clause-paved
write_pair-requires-clause-paved c = c.requires.paved _ (Contains-get_or c.args.equations.now c.loop-e.e-index zeroth c.loop-e-test.true)
