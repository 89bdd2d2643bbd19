use Rattle.std.proofs.Common.{true, List, subst, sym}
use Rattle.ct_terms.specs.declared.ids.TermId.{TermId}
use Rattle.ct_congr.specs.Joined.{AreJoined, AreWaiting}
use Rattle.ct_congr.specs.Covered.{AreKeys, IsMet}
use Rattle.ct_congr.proofs.KeptLemmas.{IsKept-slow, IsKept-fast, no_waiting}
use Rattle.ct_congr.proofs.AddingLemmas.{IsGrouped-now}
use Rattle.ct_congr.proofs.QuietLemmas.{IsKept-emptied, IsCovered-quiet}
use Rattle.ct_congr.proofs.marking.cover.Goals as goal

-- what waits is of one class
pub returns-then-progress-clause-kept : goal.returns-then-progress-clause-kept
returns-then-progress-clause-kept c = λ d quiet kept.
    let p = c.args.progress.now in
    IsKept-emptied d c.args.table.now p.store.parts p.keys p.waiting.items c.clear.new.self.items p.covered c.clear.ensures.items quiet kept

-- all signatures are met
pub returns-clause-kept : goal.returns-clause-kept
returns-clause-kept c = λ d quiet kept.
    let terms = c.args.table.now in
    let parts = c.args.progress.now.store.parts in
    let reps = parts.now.reps in
    let read = c.reps-reps.result.now in
    let same = c.reps-reps.ensures.value in
    let keys = c.meet_all.new.keys in
    let after = c.meet_all.new.waiting.items in
    let left = c.clear-2.new.self.items in
    let none = c.clear-2.ensures.items in
    let waits : AreWaiting d terms reps after = subst (λ (q : List TermId). AreWaiting d terms q after) same ((c.in_ok-meet_all.ensures.waits d).follows (no_waiting d terms read c.clear.new.self.items c.clear.ensures.items)) in
    let covered = IsCovered-quiet d terms reps parts.now.cons (IsGrouped-now terms parts c.reps-reps.ensures.whole c.requires.groupings) quiet keys after waits
    (λ t core has. subst (λ (q : List TermId). IsMet terms q keys (AreJoined q after) t core) same (c.in_ok-meet_all.ensures.met t core has)) in
    IsKept-fast d terms parts keys left true c.requires.groupings (subst (λ (q : List TermId). AreKeys q keys) same c.in_ok-meet_all.ensures.keys)
    (λ is. no_waiting d terms reps left none) (λ is. rw none covered)

pub meet_all-requires-clause-lone : goal.meet_all-requires-clause-lone
meet_all-requires-clause-lone c = rw c.lone-lone.ensures.value c.requires.groupings.lone

pub meet_all-requires-clause-digests : goal.meet_all-requires-clause-digests
meet_all-requires-clause-digests c = rw (c.reps-reps.ensures.value, c.digests-digests.ensures.value) c.requires.groupings.digests

pub meet_all-requires-clause-keys : goal.meet_all-requires-clause-keys
meet_all-requires-clause-keys c = subst (λ (q : List TermId). AreKeys q c.args.progress.now.keys) (sym c.reps-reps.ensures.value) c.requires.keys

-- where a rule may not be covered, what waits does not matter
pub returns-in_err-meet_all-clause-kept : goal.returns-in_err-meet_all-clause-kept
returns-in_err-meet_all-clause-kept c = λ d quiet kept.
    let p = c.args.progress.now in
    let keys = c.meet_all.new.keys in
    IsKept-slow d c.args.table.now p.store.parts keys c.meet_all.new.waiting.items p.covered c.if-progress.false c.requires.groupings
    (subst (λ (q : List TermId). AreKeys q keys) c.reps-reps.ensures.value c.in_err-meet_all.ensures.keys)
