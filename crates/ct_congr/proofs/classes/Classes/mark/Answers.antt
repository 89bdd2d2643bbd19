use Rattle.std.proofs.Common.{sym, subst}
use Rattle.ct_congr.specs.State.{State, IsQuiet}
use Rattle.ct_congr.specs.Marks.{AreQuiet, marks_of}
use Rattle.ct_congr.proofs.QuietLemmas.{AreQuiet-of}
use Rattle.ct_congr.proofs.classes.Classes.mark.Goals as goal

pub invariant_of-self : goal.invariant_of-self
invariant_of-self c =
    let s = c.self.inside in
    let store = s.progress.store in
    let view : State = record { declarations = s.sig; terms = s.table; hypotheses = s.hyps.items; given = s.given.items; merges = store.merges.items; reps = store.parts.now.reps; cons = store.parts.now.cons; marks = marks_of s.hyps.items s.given.items store.merges.items store.parts s.levels } in
    let quiet : AreQuiet s.sig s.table store.parts.now.reps = AreQuiet-of view (subst IsQuiet (sym c.self.view_is) c.requires.quiet) in
    let held = c.self.invariant.0 in
    let kept = c.self.invariant.1 in
    let hyps = c.as_slice.ensures.value in
    let given = c.as_slice-2.ensures.value in (
      rw c.in_err-mark.ensures.store held,
      c.in_err-mark.ensures.kept s.sig quiet kept,
      rw (← hyps, ← given) (c.in_err-mark.ensures.marked s.sig s.single.items quiet kept (rw (hyps, given) held) (rw (hyps, given) c.self.invariant.2)),
    )

pub invariant_of-self-2 : goal.invariant_of-self-2
invariant_of-self-2 c =
    let s = c.self.inside in
    let store = s.progress.store in
    let view : State = record { declarations = s.sig; terms = s.table; hypotheses = s.hyps.items; given = s.given.items; merges = store.merges.items; reps = store.parts.now.reps; cons = store.parts.now.cons; marks = marks_of s.hyps.items s.given.items store.merges.items store.parts s.levels } in
    let quiet : AreQuiet s.sig s.table store.parts.now.reps = AreQuiet-of view (subst IsQuiet (sym c.self.view_is) c.requires.quiet) in
    let held = c.self.invariant.0 in
    let kept = c.self.invariant.1 in
    let hyps = c.as_slice.ensures.value in
    let given = c.as_slice-2.ensures.value in (
      rw c.in_ok-mark.ensures.store held,
      c.in_ok-mark.ensures.kept s.sig quiet kept,
      rw (← hyps, ← given) (c.in_ok-mark.ensures.marked s.sig s.single.items quiet kept (rw (hyps, given) held) (rw (hyps, given) c.self.invariant.2)),
    )
