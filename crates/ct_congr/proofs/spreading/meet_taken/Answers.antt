use Rattle.std.proofs.Common.{◌≡◌, List, [], slice_get, Some, None, ap, subst, ◌∙◌, arith}
use Rattle.std.proofs.lemmas.Option.{none-some}
use Rattle.ct_terms.specs.declared.ids.TermId.{TermId}
use Rattle.ct_terms.specs.declared.term.Core.TheVariants.{Con}
use Rattle.ct_congr.specs.Partition.{InOneClass}
use Rattle.ct_congr.specs.Joined.{AreJoined, WaitsOn}
use Rattle.ct_congr.specs.Covered.{HasCon}
use Rattle.ct_congr.specs.Step.{IsPairing}
use Rattle.ct_congr.proofs.CoveredLemmas.{IsCoveredAt-wider}
use Rattle.ct_congr.proofs.TermLemmas.{Has-inside}
use Rattle.ct_congr.proofs.JoinedLemmas.{AreJoined-more, WaitsOn-trans}
use Rattle.ct_congr.proofs.AddingLemmas.{IsGrouped-now, IsGrouped-past, IsTaken-join}
use Rattle.ct_congr.proofs.SpreadLemmas.{IsMovedDone-wider, first_of, loser_inside, winner_own, IsSpread-kept, IsSpreading-paired, cons_equal}
use Rattle.ct_congr.proofs.spreading.meet_taken.Goals as goal

pub at_taken-requires-clause-taken : goal.at_taken-requires-clause-taken
at_taken-requires-clause-taken c = λ was earlier is. IsTaken-join was c.args.parts.now.now c.args.union.winner c.args.union.loser (c.requires.join was earlier is)

pub at_taken-requires-clause-inside : goal.at_taken-requires-clause-inside
at_taken-requires-clause-inside c =
    let parts = c.args.parts.now in
    let b = first_of parts.past c.requires.past in
    loser_inside c.args.table.now b.0 parts.now c.args.union.winner c.args.union.loser (c.requires.join b.0 b.1 b.2) c.requires.groupings.now.long

pub taken_con-requires : goal.taken_con-requires
taken_con-requires c =
    let parts = c.args.parts.now in
    let b = first_of parts.past c.requires.past in
    record { inside = omega (arith, loser_inside c.args.table.now b.0 parts.now c.args.union.winner c.args.union.loser (c.requires.join b.0 b.1 b.2) c.requires.groupings.now.long, c.requires.groupings.now.long) }

pub returns-in_default-clause-met : goal.returns-in_default-clause-met
returns-in_default-clause-met c = λ was earlier keys is done.
    let d = c.args.sig.now in
    let terms = c.args.table.now in
    let parts = c.args.parts.now in
    let winner = c.args.union.winner in
    let loser = c.args.union.loser in
    let put = c.requires.join was earlier is in
    let grouped = IsGrouped-past terms parts was earlier is c.unions.ensures.whole c.requires.groupings in
    let before = c.args.waiting.now.items in
    let after = c.at_taken.new.waiting.items in
    let wide = IsMovedDone-wider d terms was parts.now loser keys (AreJoined parts.now.reps before) (AreJoined parts.now.reps after) (AreJoined-more parts.now.reps before after c.in_ok-at_taken.ensures.waits.still) done in
    let had : slice_get was.cons loser.0 ≡ Some None = c.taken_con.ensures.con was earlier is (IsTaken-join was parts.now winner loser put) ∙ ap Some c.in_default.is in
    IsSpread-kept d terms was parts.now winner loser put grouped keys (AreJoined parts.now.reps after) c.args.con None c.requires.con had (λ e. none-some c.args.con e) wide (λ con t at. c.in_ok-at_taken.ensures.truths con was earlier is t at) (λ u e. absurd (none-some u e))

pub pair-requires-clause-long : goal.pair-requires-clause-long
pair-requires-clause-long c = rw c.reps.ensures.value c.requires.groupings.now.long

pub pair-requires-clause-left : goal.pair-requires-clause-left
pair-requires-clause-left c =
    let terms = c.args.table.now in
    let parts = c.args.parts.now in
    let b = first_of parts.past c.requires.past in
    let own = winner_own terms b.0 parts.now c.args.union.winner c.args.union.loser (c.requires.join b.0 b.1 b.2) c.requires.groupings.now.long in
    let built = (c.requires.groupings.now.cons c.args.union.winner (Some c.args.con) own c.requires.con).1 in
    Has-inside terms (Con built.0 built.1) c.args.con.0 built.2

pub pair-requires-clause-right : goal.pair-requires-clause-right
pair-requires-clause-right c =
    let terms = c.args.table.now in
    let parts = c.args.parts.now in
    let b = first_of parts.past c.requires.past in
    let put = c.requires.join b.0 b.1 b.2 in
    let grouped = IsGrouped-past terms parts b.0 b.1 b.2 c.unions.ensures.whole c.requires.groupings in
    let had : slice_get b.0.cons c.args.union.loser.0 ≡ Some (Some c.in-Some.taken) = c.taken_con.ensures.con b.0 b.1 b.2 (IsTaken-join b.0 parts.now c.args.union.winner c.args.union.loser put) ∙ ap Some c.in-Some.is in
    let built = (grouped.stored c.args.union.loser (Some c.in-Some.taken) put.loser_is had).1 in
    Has-inside terms (Con built.0 built.1) c.in-Some.taken.0 built.2

pub pair-requires-clause-equal : goal.pair-requires-clause-equal
pair-requires-clause-equal c =
    let terms = c.args.table.now in
    let parts = c.args.parts.now in
    let b = first_of parts.past c.requires.past in
    let put = c.requires.join b.0 b.1 b.2 in
    let grouped = IsGrouped-past terms parts b.0 b.1 b.2 c.unions.ensures.whole c.requires.groupings in
    let now = IsGrouped-now terms parts c.unions.ensures.whole c.requires.groupings in
    let had : slice_get b.0.cons c.args.union.loser.0 ≡ Some (Some c.in-Some.taken) = c.taken_con.ensures.con b.0 b.1 b.2 (IsTaken-join b.0 parts.now c.args.union.winner c.args.union.loser put) ∙ ap Some c.in-Some.is in
    rw c.reps.ensures.value (cons_equal c.args.sig.now terms b.0 parts.now c.args.union.winner c.args.union.loser put grouped [] (AreJoined parts.now.reps []) c.args.con c.in-Some.taken now c.requires.con had)

pub returns-clause-waits : goal.returns-clause-waits
returns-clause-waits c =
    let d = c.args.sig.now in
    let terms = c.args.table.now in
    let reps = c.args.parts.now.now.reps in
    let second = subst (λ (q : List TermId). WaitsOn d terms q c.at_taken.new.waiting.items c.pair.new.waiting.items) c.reps.ensures.value c.in_ok-answer.ensures.waits in
    WaitsOn-trans d terms reps c.args.waiting.now.items c.at_taken.new.waiting.items c.pair.new.waiting.items c.in_ok-at_taken.ensures.waits second

pub returns-clause-met : goal.returns-clause-met
returns-clause-met c = λ was earlier keys is done.
    let d = c.args.sig.now in
    let terms = c.args.table.now in
    let parts = c.args.parts.now in
    let reps = parts.now.reps in
    let winner = c.args.union.winner in
    let loser = c.args.union.loser in
    let put = c.requires.join was earlier is in
    let grouped = IsGrouped-past terms parts was earlier is c.unions.ensures.whole c.requires.groupings in
    let first = c.args.waiting.now.items in
    let second = c.at_taken.new.waiting.items in
    let third = c.pair.new.waiting.items in
    let on = c.in_ok-answer.ensures.waits.still in
    let more = AreJoined-more reps second third on in
    let wide = IsMovedDone-wider d terms was parts.now loser keys (AreJoined reps second) (AreJoined reps third) more (IsMovedDone-wider d terms was parts.now loser keys (AreJoined reps first) (AreJoined reps second) (AreJoined-more reps first second c.in_ok-at_taken.ensures.waits.still) done) in
    let had : slice_get was.cons loser.0 ≡ Some (Some c.in-Some.taken) = c.taken_con.ensures.con was earlier is (IsTaken-join was parts.now winner loser put) ∙ ap Some c.in-Some.is in
    let apart : Some c.in-Some.taken ≡ Some c.args.con → ⊥ = λ e. c.requires.other (c.taken_con.ensures.value ∙ (ap Some (c.in-Some.is ∙ e))) in
    let paired = subst (λ (q : List TermId). IsPairing terms q (AreJoined q third) c.args.con c.in-Some.taken c.in_ok-answer.answer) c.reps.ensures.value c.in_ok-answer.ensures.paired in
    IsSpreading-paired d terms was parts.now winner loser put grouped keys (AreJoined reps third) c.args.con c.in-Some.taken c.requires.con had apart wide
    (λ con t at. IsCoveredAt-wider d terms (InOneClass reps) (HasCon reps parts.now.cons) (AreJoined reps second) (AreJoined reps third) more t (c.in_ok-at_taken.ensures.truths con was earlier is t at))
    c.in_ok-answer.answer paired
