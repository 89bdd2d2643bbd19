use Rattle.std.proofs.Common.{List, [], subst, arith}
use Rattle.ct_terms.specs.declared.ids.TermId.{TermId}
use Rattle.ct_congr.specs.Joined.{WaitsOn}
use Rattle.ct_congr.proofs.AddingLemmas.{IsGrouped-now, IsGroupingOf-past}
use Rattle.ct_congr.proofs.SpreadLemmas.{class_done, first_of, member_inside}
use Rattle.ct_congr.proofs.spreading.at_taken.Goals as goal

pub taken_class-class-requires : goal.taken_class-class-requires
taken_class-class-requires c = record { inside = omega (arith, c.requires.inside, c.requires.groupings.now.long) }

pub at_truths-requires-clause-grouped : goal.at_truths-requires-clause-grouped
at_truths-requires-clause-grouped c = rw (c.reps-reps.ensures.value, c.cons-cons.ensures.value) (IsGrouped-now c.args.table.now c.args.parts.now c.reps-reps.ensures.whole c.requires.groupings)

pub at_truths-requires-clause-inside : goal.at_truths-requires-clause-inside
at_truths-requires-clause-inside c = λ t has.
    let terms = c.args.table.now in
    let parts = c.args.parts.now in
    let b = first_of parts.past c.requires.past in
    let of = IsGroupingOf-past terms parts b.0 b.1 b.2 c.requires.groupings in
    member_inside terms b.0.reps c.args.loser t c.taken_class-class.result.now of.long (c.taken_class-class.ensures.members b.0 b.1 b.2 (c.requires.taken b.0 b.1 b.2)) has

pub returns-clause-waits : goal.returns-clause-waits
returns-clause-waits c = subst (λ (reps : List TermId). WaitsOn c.args.sig.now c.args.table.now reps c.args.waiting.now.items c.at_truths.new.waiting.items) c.reps-reps.ensures.value c.in_ok-at_truths.ensures.waits

pub returns-clause-truths : goal.returns-clause-truths
returns-clause-truths c = λ con was earlier is t at.
    let now = c.args.parts.now.now in
    class_done c.args.sig.now c.args.table.now was now [] c.reps-reps.result.now c.cons-cons.result.now c.reps-reps.ensures.value c.cons-cons.ensures.value c.at_truths.new.waiting.items c.taken_class-class.result.now (c.in_ok-at_truths.ensures.covered con) was.reps c.args.loser (c.taken_class-class.ensures.members was earlier is (c.requires.taken was earlier is)) t at
