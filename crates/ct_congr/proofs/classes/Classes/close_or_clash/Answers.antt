use Rattle.std.proofs.Common.{refl}
use Rattle.ct_congr.specs.State.{State}
use Rattle.ct_congr.specs.Held.{AreHeld}
use Rattle.ct_congr.specs.Marks.{marks_of}
use Rattle.ct_congr.proofs.CompleteLemmas.{Theorems}
use Rattle.ct_congr.proofs.HeldLemmas.{AreHeld-later, IsClosed-of, IsAnswer-found}
use Rattle.ct_congr.proofs.FurtherLemmas.{AreMarked-further, marks_of-further}
use Rattle.ct_congr.proofs.classes.Classes.close_or_clash.Goals as goal

pub settle_or_clash-requires-clause-sorted : goal.settle_or_clash-requires-clause-sorted
settle_or_clash-requires-clause-sorted c = c.self.invariant.0.sorted

pub settle_or_clash-requires-clause-kept : goal.settle_or_clash-requires-clause-kept
settle_or_clash-requires-clause-kept c = c.self.invariant.1

pub invariant_of-self : goal.invariant_of-self
invariant_of-self c =
    let s = c.self.inside in
    let old = s.progress.store in
    let new = c.settle_or_clash.new.progress.store in
    let held = c.self.invariant.0 in (
      AreHeld-later s.sig s.table s.single.items s.hyps.items s.given.items old.parts.now.reps new.parts.now.reps old.parts.now.cons new.parts.now.cons old.merges.items new.merges.items held c.in_err-answer.ensures.further.later (c.in_err-answer.ensures.sound s.hyps.items s.given.items held.sound),
      c.in_err-answer.ensures.kept,
      AreMarked-further s.sig s.table s.single.items s.hyps.items s.given.items old.merges.items new.merges.items s.progress.keys c.settle_or_clash.new.progress.keys old.parts new.parts s.levels c.in_err-answer.ensures.further c.self.invariant.2,
    )

pub invariant_of-self-2 : goal.invariant_of-self-2
invariant_of-self-2 c =
    let s = c.self.inside in
    let old = s.progress.store in
    let new = c.settle_or_clash.new.progress.store in
    let held = c.self.invariant.0 in (
      AreHeld-later s.sig s.table s.single.items s.hyps.items s.given.items old.parts.now.reps new.parts.now.reps old.parts.now.cons new.parts.now.cons old.merges.items new.merges.items held c.in_ok-answer.ensures.further.later (c.in_ok-answer.ensures.sound s.hyps.items s.given.items held.sound),
      c.in_ok-answer.ensures.kept,
      AreMarked-further s.sig s.table s.single.items s.hyps.items s.given.items old.merges.items new.merges.items s.progress.keys c.settle_or_clash.new.progress.keys old.parts new.parts s.levels c.in_ok-answer.ensures.further c.self.invariant.2,
    )

pub returns : goal.returns
returns c =
    let s = c.self.inside in
    let old = s.progress.store in
    let new = c.settle_or_clash.new.progress.store in
    let now : State = record { declarations = s.sig; terms = s.table; hypotheses = s.hyps.items; given = s.given.items; merges = new.merges.items; reps = new.parts.now.reps; cons = new.parts.now.cons; marks = marks_of s.hyps.items s.given.items new.merges.items new.parts s.levels } in
    let theorems : Theorems s.sig s.table s.hyps.items s.given.items = record {
      states = c.derivations.ensures.states s.sig s.table s.hyps.items s.given.items;
      follows = c.derivations.ensures.follows s.sig s.table s.hyps.items s.given.items;
      least = c.derivations.ensures.least s.sig s.table s.hyps.items s.given.items;
    } in
    let held : AreHeld s.sig s.table s.single.items s.hyps.items s.given.items new.parts.now.reps new.parts.now.cons new.merges.items = AreHeld-later s.sig s.table s.single.items s.hyps.items s.given.items old.parts.now.reps new.parts.now.reps old.parts.now.cons new.parts.now.cons old.merges.items new.merges.items c.self.invariant.0 c.in_ok-answer.ensures.further.later (c.in_ok-answer.ensures.sound s.hyps.items s.given.items c.self.invariant.0.sound) in
    rw (← c.self.view_is) (record {
      continues = record { declarations = refl; terms = refl; hypotheses = refl; marks = marks_of-further s.sig s.table s.single.items s.hyps.items s.given.items old.merges.items new.merges.items s.progress.keys c.settle_or_clash.new.progress.keys old.parts new.parts s.levels c.in_ok-answer.ensures.further c.self.invariant.2; more = c.in_ok-answer.ensures.further.extended.more; merges = c.in_ok-answer.ensures.further.extended.merges_are };
      given = refl;
      answer = IsAnswer-found now c.in_ok-answer.answer (λ quiet. IsClosed-of now s.single.items theorems held (c.in_ok-answer.ensures.closed quiet)) c.in_ok-answer.ensures.verdict;
    })
