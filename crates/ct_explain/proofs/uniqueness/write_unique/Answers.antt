use Rattle.ct_explain.proofs.WritingLemmas.{IsGrown-then}
use Rattle.ct_explain.proofs.PairLemmas.{uniqueness_step}
use Rattle.ct_explain.proofs.uniqueness.write_unique.Goals as goal

pub returns-clause-grown : goal.returns-clause-grown
returns-clause-grown c =
    IsGrown-then c.args.classes.now c.args.writer.now c.write_pairs.new.writer c.write.new.self c.in_ok-pairs.ensures.grown
    (c.in_ok-number-in-Some.ensures.grown c.args.classes.now
    (uniqueness_step c.args.classes.now c.write_pairs.new.writer c.args.equations.now c.in_ok-pairs.pairs.items c.new.result c.in-Some.place c.args.sides.0 c.args.sides.1
    c.in_ok-pairs.ensures.pairs (rw c.in-Some.is at c.place_of.ensures.found) c.new.ensures.value))

pub unreachable-requires : goal.unreachable-requires
unreachable-requires c = let none = rw c.in-None.is at c.place_of.ensures.none in none c.requires.reason.0
