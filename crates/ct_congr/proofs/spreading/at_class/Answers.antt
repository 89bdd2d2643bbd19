use Rattle.std.proofs.Common.{List, [], subst}
use Rattle.std.proofs.lemmas.Option.{slice_get_within}
use Rattle.ct_terms.specs.declared.ids.TermId.{TermId}
use Rattle.ct_congr.specs.Partition.{InOneClass}
use Rattle.ct_congr.specs.Joined.{AreJoined, WaitsOn}
use Rattle.ct_congr.specs.Covered.{HasCon}
use Rattle.ct_congr.proofs.CoveredLemmas.{IsCoveredAt-wider}
use Rattle.ct_congr.proofs.JoinedLemmas.{AreJoined-more, WaitsOn-trans}
use Rattle.ct_congr.proofs.AddingLemmas.{IsGrouped-now}
use Rattle.ct_congr.proofs.SpreadLemmas.{uses_done, class_done, above_inside, member_inside}
use Rattle.ct_congr.proofs.spreading.at_class.Goals as goal

pub uses-uses-requires : goal.uses-uses-requires
uses-uses-requires c = record { inside = slice_get_within c.args.parts.now.now.reps c.args.winner.0 c.args.winner c.requires.own }

pub class-class-requires : goal.class-class-requires
class-class-requires c = record { inside = slice_get_within c.args.parts.now.now.reps c.args.winner.0 c.args.winner c.requires.own }

pub at_terms-requires-clause-grouped : goal.at_terms-requires-clause-grouped
at_terms-requires-clause-grouped c = rw (c.reps-reps.ensures.value, c.cons-cons.ensures.value) (IsGrouped-now c.args.table.now c.args.parts.now c.reps-reps.ensures.whole c.requires.groupings)

pub at_terms-requires-clause-inside : goal.at_terms-requires-clause-inside
at_terms-requires-clause-inside c = λ t has.
    let terms = c.args.table.now in
    let now = c.args.parts.now.now in
    above_inside terms now.reps c.args.winner t ((c.uses-uses.ensures.uses terms c.args.winner c.requires.groupings.now c.requires.own).only t has)

pub at_truths-requires-clause-grouped : goal.at_truths-requires-clause-grouped
at_truths-requires-clause-grouped c = rw (c.reps-reps.ensures.value, c.cons-cons.ensures.value) (IsGrouped-now c.args.table.now c.args.parts.now c.reps-reps.ensures.whole c.requires.groupings)

pub at_truths-requires-clause-inside : goal.at_truths-requires-clause-inside
at_truths-requires-clause-inside c = λ t has.
    member_inside c.args.table.now c.args.parts.now.now.reps c.args.winner t c.class-class.result.now c.requires.groupings.now.long (c.class-class.ensures.members c.args.winner c.requires.own) has

pub returns-clause-waits : goal.returns-clause-waits
returns-clause-waits c =
    let d = c.args.sig.now in
    let terms = c.args.table.now in
    let both = WaitsOn-trans d terms c.reps-reps.result.now c.args.waiting.now.items c.at_terms.new.waiting.items c.at_truths.new.waiting.items c.in_ok-at_terms.ensures.waits c.in_ok-at_truths.ensures.waits in
    subst (λ (reps : List TermId). WaitsOn d terms reps c.args.waiting.now.items c.at_truths.new.waiting.items) c.reps-reps.ensures.value both

pub returns-clause-uses : goal.returns-clause-uses
returns-clause-uses c = λ p u core stands above at.
    let d = c.args.sig.now in
    let terms = c.args.table.now in
    let now = c.args.parts.now.now in
    let first = c.at_terms.new.waiting.items in
    let second = c.at_truths.new.waiting.items in
    let done = uses_done d terms now now [] c.reps-reps.result.now c.cons-cons.result.now c.reps-reps.ensures.value c.cons-cons.ensures.value first c.uses-uses.result.now c.in_ok-at_terms.ensures.covered c.args.winner (c.uses-uses.ensures.uses terms c.args.winner c.requires.groupings.now c.requires.own) p u core stands above at in
    IsCoveredAt-wider d terms (InOneClass now.reps) (HasCon now.reps now.cons) (AreJoined now.reps first) (AreJoined now.reps second) (AreJoined-more now.reps first second c.in_ok-at_truths.ensures.waits.still) p done

pub returns-clause-truths : goal.returns-clause-truths
returns-clause-truths c = λ is t at.
    let now = c.args.parts.now.now in
    class_done c.args.sig.now c.args.table.now now now [] c.reps-reps.result.now c.cons-cons.result.now c.reps-reps.ensures.value c.cons-cons.ensures.value c.at_truths.new.waiting.items c.class-class.result.now (c.in_ok-at_truths.ensures.covered is) now.reps c.args.winner (c.class-class.ensures.members c.args.winner c.requires.own) t at
