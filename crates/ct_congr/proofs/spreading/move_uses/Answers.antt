use Rattle.std.proofs.Common.{List, subst, arith}
use Rattle.ct_terms.specs.declared.ids.TermId.{TermId}
use Rattle.ct_congr.specs.Joined.{WaitsOn}
use Rattle.ct_congr.specs.Covered.{AreKeys}
use Rattle.ct_congr.proofs.AddingLemmas.{IsGrouped-now, IsGroupingOf-past}
use Rattle.ct_congr.proofs.SpreadLemmas.{IsMovedDone-from, first_of, above_inside}
use Rattle.ct_congr.proofs.spreading.move_uses.Goals as goal

pub taken_uses-uses-requires : goal.taken_uses-uses-requires
taken_uses-uses-requires c = record { inside = omega (arith, c.requires.inside, c.requires.groupings.now.long) }

pub move_terms-requires-clause-grouped : goal.move_terms-requires-clause-grouped
move_terms-requires-clause-grouped c = rw (c.reps-reps.ensures.value, c.cons-cons.ensures.value) (IsGrouped-now c.args.table.now c.args.parts.now c.reps-reps.ensures.whole c.requires.groupings)

pub move_terms-requires-clause-inside : goal.move_terms-requires-clause-inside
move_terms-requires-clause-inside c = λ t has.
    let terms = c.args.table.now in
    let parts = c.args.parts.now in
    let b = first_of parts.past c.requires.past in
    let of = IsGroupingOf-past terms parts b.0 b.1 b.2 c.requires.groupings in
    above_inside terms b.0.reps c.args.loser t ((c.taken_uses-uses.ensures.uses b.0 b.1 terms b.2 (c.requires.taken b.0 b.1 b.2) of).only t has)

pub move_terms-requires-clause-keys : goal.move_terms-requires-clause-keys
move_terms-requires-clause-keys c = rw c.reps-reps.ensures.value c.requires.keys

pub returns-in_err-move_terms-clause-keys : goal.returns-in_err-move_terms-clause-keys
returns-in_err-move_terms-clause-keys c = subst (λ (reps : List TermId). AreKeys reps c.move_terms.new.keys) c.reps-reps.ensures.value c.in_err-move_terms.ensures.keys

pub returns-clause-keys : goal.returns-clause-keys
returns-clause-keys c = subst (λ (reps : List TermId). AreKeys reps c.move_terms.new.keys) c.reps-reps.ensures.value c.in_ok-move_terms.ensures.keys

pub returns-clause-waits : goal.returns-clause-waits
returns-clause-waits c = subst (λ (reps : List TermId). WaitsOn c.args.sig.now c.args.table.now reps c.args.waiting.now.items c.move_terms.new.waiting.items) c.reps-reps.ensures.value c.in_ok-move_terms.ensures.waits

pub returns-clause-done : goal.returns-clause-done
returns-clause-done c = λ was earlier is.
    let terms = c.args.table.now in
    let parts = c.args.parts.now in
    let of = IsGroupingOf-past terms parts was earlier is c.requires.groupings in
    let uses = c.taken_uses-uses.ensures.uses was earlier terms is (c.requires.taken was earlier is) of in
    IsMovedDone-from c.args.sig.now terms was parts.now c.move_terms.new.keys c.reps-reps.result.now c.cons-cons.result.now c.reps-reps.ensures.value c.cons-cons.ensures.value c.move_terms.new.waiting.items c.taken_uses-uses.result.now c.in_ok-move_terms.ensures.covered c.args.loser uses c.in_ok-move_terms.ensures.met

pub move_terms-requires-clause-lone : goal.move_terms-requires-clause-lone
move_terms-requires-clause-lone c = rw c.lone-lone.ensures.value c.requires.groupings.lone

pub move_terms-requires-clause-digests : goal.move_terms-requires-clause-digests
move_terms-requires-clause-digests c = rw (c.reps-reps.ensures.value, c.digests-digests.ensures.value) c.requires.groupings.digests
