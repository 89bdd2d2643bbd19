use Rattle.ct_congr.proofs.JoinedLemmas.{WaitsOn-trans}
use Rattle.ct_congr.proofs.AddingLemmas.{IsTaken-join}
use Rattle.ct_congr.proofs.SpreadLemmas.{first_of, loser_inside}
use Rattle.ct_congr.proofs.spreading.spread.Goals as goal

pub move_uses-requires-clause-taken : goal.move_uses-requires-clause-taken
move_uses-requires-clause-taken c = λ was earlier is. IsTaken-join was c.args.parts.now.now c.args.union.winner c.args.union.loser (c.requires.join was earlier is)

pub move_uses-requires-clause-inside : goal.move_uses-requires-clause-inside
move_uses-requires-clause-inside c =
    let b = first_of c.args.parts.now.past c.requires.past in
    loser_inside c.args.table.now b.0 c.args.parts.now.now c.args.union.winner c.args.union.loser (c.requires.join b.0 b.1 b.2) c.requires.groupings.now.long

pub returns-clause-waits : goal.returns-clause-waits
returns-clause-waits c = WaitsOn-trans c.args.sig.now c.args.table.now c.args.parts.now.now.reps c.args.waiting.now.items c.move_uses.new.waiting.items c.meet_cons.new.waiting.items c.in_ok-move_uses.ensures.waits c.in_ok-answer.ensures.waits

pub returns-clause-spread : goal.returns-clause-spread
returns-clause-spread c = λ was earlier is. c.in_ok-answer.ensures.met was earlier c.move_uses.new.keys is (c.in_ok-move_uses.ensures.done was earlier is)
