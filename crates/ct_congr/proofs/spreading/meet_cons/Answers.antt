use Rattle.std.proofs.Common.{◌≡◌, slice_get, Some, None, sym, ap, ◌∙◌, arith}
use Rattle.std.proofs.lemmas.Option.{same_Some}
use Rattle.ct_congr.specs.Joined.{AreJoined}
use Rattle.ct_congr.proofs.JoinedLemmas.{AreJoined-more}
use Rattle.ct_congr.proofs.AddingLemmas.{IsGrouped-past, IsTaken-join}
use Rattle.ct_congr.proofs.SpreadLemmas.{IsMovedDone-wider, first_of, winner_inside, loser_inside, winner_own, IsSpread-none, IsSpread-gained}
use Rattle.ct_congr.proofs.spreading.meet_cons.Goals as goal

pub con_of-requires : goal.con_of-requires
con_of-requires c =
    let parts = c.args.parts.now in
    let b = first_of parts.past c.requires.past in
    record { inside = omega (arith, winner_inside c.args.table.now b.0 parts.now c.args.union.winner c.args.union.loser (c.requires.join b.0 b.1 b.2) c.requires.groupings.now.long, c.requires.groupings.now.long) }

pub taken_con-requires : goal.taken_con-requires
taken_con-requires c =
    let parts = c.args.parts.now in
    let b = first_of parts.past c.requires.past in
    record { inside = omega (arith, loser_inside c.args.table.now b.0 parts.now c.args.union.winner c.args.union.loser (c.requires.join b.0 b.1 b.2) c.requires.groupings.now.long, c.requires.groupings.now.long) }

pub at_class-requires-clause-own : goal.at_class-requires-clause-own
at_class-requires-clause-own c =
    let parts = c.args.parts.now in
    let b = first_of parts.past c.requires.past in
    winner_own c.args.table.now b.0 parts.now c.args.union.winner c.args.union.loser (c.requires.join b.0 b.1 b.2) c.requires.groupings.now.long

pub meet_taken-requires-clause-con : goal.meet_taken-requires-clause-con
meet_taken-requires-clause-con c =
    let parts = c.args.parts.now in
    let b = first_of parts.past c.requires.past in
    let own = winner_own c.args.table.now b.0 parts.now c.args.union.winner c.args.union.loser (c.requires.join b.0 b.1 b.2) c.requires.groupings.now.long in
    c.con_of.ensures.value c.args.union.winner own ∙ ap Some c.in-Some.is

pub meet_taken-requires-clause-other : goal.meet_taken-requires-clause-other
meet_taken-requires-clause-other c = λ at.
    let apart = rw c.if-is_same.false at c.is_same.ensures.value in
    apart (same_Some c.taken_con.result (Some c.in-Some.con) (sym c.taken_con.ensures.value ∙ at))

pub returns-in_default-clause-met : goal.returns-in_default-clause-met
returns-in_default-clause-met c = λ was earlier keys is done.
    let parts = c.args.parts.now in
    let terms = c.args.table.now in
    let winner = c.args.union.winner in
    let loser = c.args.union.loser in
    let put = c.requires.join was earlier is in
    let own = winner_own terms was parts.now winner loser put c.requires.groupings.now.long in
    let none : slice_get parts.now.cons winner.0 ≡ Some None = c.con_of.ensures.value winner own ∙ ap Some c.in_default.is in
    let grouped = IsGrouped-past terms parts was earlier is c.unions.ensures.whole c.requires.groupings in
    IsSpread-none c.args.sig.now terms was parts.now winner loser put grouped keys (AreJoined parts.now.reps c.args.waiting.now.items) none done

pub returns-then-is_same-clause-met : goal.returns-then-is_same-clause-met
returns-then-is_same-clause-met c = λ was earlier keys is done.
    let d = c.args.sig.now in
    let parts = c.args.parts.now in
    let terms = c.args.table.now in
    let winner = c.args.union.winner in
    let loser = c.args.union.loser in
    let put = c.requires.join was earlier is in
    let own = winner_own terms was parts.now winner loser put c.requires.groupings.now.long in
    let at : slice_get parts.now.cons winner.0 ≡ Some (Some c.in-Some.con) = c.con_of.ensures.value winner own ∙ ap Some c.in-Some.is in
    let same = rw c.if-is_same.true at c.is_same.ensures.value in
    let taken : slice_get was.cons loser.0 ≡ Some (Some c.in-Some.con) = c.taken_con.ensures.con was earlier is (IsTaken-join was parts.now winner loser put) ∙ ap Some same in
    let grouped = IsGrouped-past terms parts was earlier is c.unions.ensures.whole c.requires.groupings in
    let before = c.args.waiting.now.items in
    let after = c.at_class.new.waiting.items in
    let wide = IsMovedDone-wider d terms was parts.now loser keys (AreJoined parts.now.reps before) (AreJoined parts.now.reps after) (AreJoined-more parts.now.reps before after c.in_ok-at_class.ensures.waits.still) done in
    IsSpread-gained d terms was parts.now winner loser put grouped keys (AreJoined parts.now.reps after) c.in-Some.con at taken wide c.in_ok-at_class.ensures.uses c.in_ok-at_class.ensures.truths

pub returns-clause-met : goal.returns-clause-met
returns-clause-met c = λ was earlier keys is done. c.in_ok-answer.ensures.met was earlier keys is done
