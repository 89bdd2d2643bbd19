use Rattle.std.proofs.Common.{take}
use Rattle.ct_congr.specs.Merges.{AreConnected}
use Rattle.ct_explain.specs.Resting.{HasNumber}
use Rattle.ct_explain.proofs.WritingLemmas.{Told-later, AreDone-later}
use Rattle.ct_explain.proofs.RestLemmas.{matching_of, first_ready, second_ready, alone_ready}
use Rattle.ct_explain.proofs.uniqueness.write_entry.Goals as goal

pub write_premise-requires-clause-ready : goal.write_premise-requires-clause-ready
write_premise-requires-clause-ready c =
    let answer = rw c.in-Some.is at c.detour.ensures.answer in
    first_ready c.args.classes.now.terms c.args.forest.now.links (AreConnected (take c.args.bound c.args.classes.now.merges)) (HasNumber c.args.done.now) c.args.equations.now c.args.x c.args.y (c.in-Some.place, c.in-Some.e) c.requires.entry c.requires.paved (answer c.args.classes.now.merges (matching_of c.args.classes.now c.args.forest.now.links c.args.bound c.args.equations.now c.args.x c.args.y c.requires.forest c.requires.all c.requires.entry))

pub write_premise-requires-in-Some-clause-ready : goal.write_premise-requires-in-Some-clause-ready
write_premise-requires-in-Some-clause-ready c =
    let answer = rw c.in-Some.is at c.detour.ensures.answer in
    second_ready c.args.classes.now.terms c.args.forest.now.links (AreConnected (take c.args.bound c.args.classes.now.merges)) (HasNumber c.args.done.now) c.args.equations.now c.args.x c.args.y (c.in-Some.place, c.in-Some.e) c.requires.all c.requires.paved (answer c.args.classes.now.merges (matching_of c.args.classes.now c.args.forest.now.links c.args.bound c.args.equations.now c.args.x c.args.y c.requires.forest c.requires.all c.requires.entry))

pub write_premise-requires-in-None-clause-ready : goal.write_premise-requires-in-None-clause-ready
write_premise-requires-in-None-clause-ready c =
    let answer = rw c.in-None.is at c.detour.ensures.answer in
    alone_ready c.args.classes.now.terms c.args.forest.now.links (AreConnected (take c.args.bound c.args.classes.now.merges)) (HasNumber c.args.done.now) c.args.equations.now c.args.x c.args.y c.requires.entry c.requires.paved (answer c.args.classes.now.merges (matching_of c.args.classes.now c.args.forest.now.links c.args.bound c.args.equations.now c.args.x c.args.y c.requires.forest c.requires.all c.requires.entry))

pub write_premise-requires-in-Some-clause-done : goal.write_premise-requires-in-Some-clause-done
write_premise-requires-in-Some-clause-done c =
    AreDone-later c.args.classes.now c.args.writer.now c.write_premise.new.writer c.args.classes.now.merges c.args.done.now c.in_ok-i-in-Some.ensures.grown c.requires.done

pub returns-in_ok-j-in-Some-clause-entry : goal.returns-in_ok-j-in-Some-clause-entry
returns-in_ok-j-in-Some-clause-entry c =
    let answer = rw c.in-Some.is at c.detour.ensures.answer in (
      c.in-Some.e,
      (answer c.args.classes.now.merges (matching_of c.args.classes.now c.args.forest.now.links c.args.bound c.args.equations.now c.args.x c.args.y c.requires.forest c.requires.all c.requires.entry)).1.at,
      Told-later c.args.classes.now c.write_premise.new.writer c.write_premise-in-Some.new.writer c.in_ok-i-in-Some.i c.args.x c.in-Some.e.left c.in_ok-j-in-Some.ensures.grown c.in_ok-i-in-Some.ensures.told,
      c.in_ok-j-in-Some.ensures.told,
    )
