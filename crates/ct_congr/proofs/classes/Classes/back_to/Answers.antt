use Rattle.std.proofs.Common.{ℕ, ◌+◌, take, sym, ap, subst, ◌∙◌, arith}
use Rattle.ct_congr.specs.State.{State, Marked, IsFirstMark}
use Rattle.ct_congr.specs.Marks.{marks_of}
use Rattle.ct_congr.proofs.CompleteLemmas.{Theorems}
use Rattle.ct_congr.proofs.QuietLemmas.{IsQuiet-of}
use Rattle.ct_congr.proofs.BackLemmas.{first-level-of, AreHeld-back, AreQuiet-back, IsKept-back, AreMarked-back, marks-back, now-back, first-back}
use Rattle.ct_congr.proofs.classes.Classes.back_to.Goals as goal

pub go_back-requires-clause-few : goal.go_back-requires-clause-few
go_back-requires-clause-few c = λ k level at. omega (arith, (c.self.invariant.2.each k level at).few_merges, c.self.invariant.2.long)

pub go_back-requires-clause-kept : goal.go_back-requires-clause-kept
go_back-requires-clause-kept c =
    let s = c.self.inside in
    let store = s.progress.store in
    let count = c.args.mark.now.merges in
    let first = subst (λ (q : State). (k : ℕ) × (at : Marked) × IsFirstMark q.marks count k at) (sym c.self.view_is) c.requires.kept in
    let h = first-level-of s.sig s.table s.single.items s.hyps.items s.given.items store.merges.items s.progress.keys store.parts s.levels c.self.invariant.2 count first.0 first.1 first.2 in
    (first.0, h.0, h.1.stands, h.1.long)

pub invariant_of-self : goal.invariant_of-self
invariant_of-self c =
    let s = c.self.inside in
    let store = s.progress.store in
    let n = c.go_back.new in
    let left = n.progress.store in
    let b = c.go_back.ensures.back in (
      AreHeld-back s.sig s.table s.single.items s.hyps.items s.given.items store.merges.items s.progress.keys store.parts s.levels c.self.invariant.2 n.hyps.items n.given.items left.merges.items n.progress.keys left.parts n.levels b.0 b.1 b.3,
      IsKept-back s.sig s.table s.single.items s.hyps.items s.given.items store.merges.items s.progress.keys store.parts s.levels c.self.invariant.2 n.hyps.items n.given.items left.merges.items n.progress.keys left.parts n.levels b.0 b.1 b.3 n.progress.waiting.items n.progress.covered c.go_back.ensures.empty (c.go_back.ensures.of s.table) c.self.invariant.1.groupings,
      AreMarked-back s.sig s.table s.single.items s.hyps.items s.given.items store.merges.items s.progress.keys store.parts s.levels c.self.invariant.2 n.hyps.items n.given.items left.merges.items n.progress.keys left.parts n.levels b.0 b.1 b.3,
    )

pub returns-clause-back : goal.returns-clause-back
returns-clause-back c =
    let s = c.self.inside in
    let store = s.progress.store in
    let n = c.go_back.new in
    let left = n.progress.store in
    let b = c.go_back.ensures.back in
    let marks = marks_of s.hyps.items s.given.items store.merges.items store.parts s.levels in
    rw (← c.self.view_is) (λ k at first.
    let r = first-back s.sig s.table s.single.items s.hyps.items s.given.items store.merges.items s.progress.keys store.parts s.levels c.self.invariant.2 n.hyps.items n.given.items left.merges.items n.progress.keys left.parts n.levels b.0 b.1 b.3 c.args.mark.now.merges b.2 k at first in
    let now = now-back s.sig s.table s.single.items s.hyps.items s.given.items store.merges.items s.progress.keys store.parts s.levels c.self.invariant.2 n.hyps.items n.given.items left.merges.items n.progress.keys left.parts n.levels b.0 b.1 b.3 ∙ sym r.1 in
    let kept = marks-back s.sig s.table s.single.items s.hyps.items s.given.items store.merges.items s.progress.keys store.parts s.levels c.self.invariant.2 n.hyps.items n.given.items left.merges.items n.progress.keys left.parts n.levels b.0 b.1 b.3 ∙ ap (λ j. take (j + 1) marks) (sym r.0) in
    λ i. record { declarations = s.sig; terms = s.table; hypotheses = (now i).hypotheses; given = (now i).given; merges = (now i).merges; reps = (now i).reps; cons = (now i).cons; marks = kept i })

pub returns-clause-quiet : goal.returns-clause-quiet
returns-clause-quiet c =
    let s = c.self.inside in
    let store = s.progress.store in
    let n = c.go_back.new in
    let left = n.progress.store in
    let b = c.go_back.ensures.back in
    let now : State = record { declarations = s.sig; terms = s.table; hypotheses = n.hyps.items; given = n.given.items; merges = left.merges.items; reps = left.parts.now.reps; cons = left.parts.now.cons; marks = marks_of n.hyps.items n.given.items left.merges.items left.parts n.levels } in
    let theorems : Theorems s.sig s.table n.hyps.items n.given.items = record {
      states = c.derivations.ensures.states s.sig s.table n.hyps.items n.given.items;
      follows = c.derivations.ensures.follows s.sig s.table n.hyps.items n.given.items;
      least = c.derivations.ensures.least s.sig s.table n.hyps.items n.given.items;
    } in
    IsQuiet-of now s.single.items theorems
    (AreHeld-back s.sig s.table s.single.items s.hyps.items s.given.items store.merges.items s.progress.keys store.parts s.levels c.self.invariant.2 n.hyps.items n.given.items left.merges.items n.progress.keys left.parts n.levels b.0 b.1 b.3)
    (AreQuiet-back s.sig s.table s.single.items s.hyps.items s.given.items store.merges.items s.progress.keys store.parts s.levels c.self.invariant.2 n.hyps.items n.given.items left.merges.items n.progress.keys left.parts n.levels b.0 b.1 b.3)
