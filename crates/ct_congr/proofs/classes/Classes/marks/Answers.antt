use Rattle.std.proofs.Common.{List, take, refl}
use Rattle.ct_terms.specs.declared.ids.Lit.{Lit}
use Rattle.ct_rules.specs.declared.equation.Equation.{Equation}
use Rattle.ct_congr.specs.State.{State}
use Rattle.ct_congr.specs.Marks.{marks_of}
use Rattle.ct_congr.proofs.CompleteLemmas.{Theorems}
use Rattle.ct_congr.proofs.BackLemmas.{marks-numbered, quiet-at, first-part-at}
use Rattle.ct_congr.proofs.classes.Classes.marks.Goals as goal

pub returns-clause-value : goal.returns-clause-value
returns-clause-value c =
    let s = c.self.inside in
    let store = s.progress.store in
    rw (← c.self.view_is, c.marks.ensures.value) (marks-numbered s.sig s.table s.single.items s.hyps.items s.given.items store.merges.items s.progress.keys store.parts s.levels c.self.invariant.2)

pub returns-clause-quiet : goal.returns-clause-quiet
returns-clause-quiet c =
    let s = c.self.inside in
    let store = s.progress.store in
    let marks = marks_of s.hyps.items s.given.items store.merges.items store.parts s.levels in
    let view : State = record { declarations = s.sig; terms = s.table; hypotheses = s.hyps.items; given = s.given.items; merges = store.merges.items; reps = store.parts.now.reps; cons = store.parts.now.cons; marks = marks } in
    let theorems : (hyps : List Lit) (given : List Equation) → Theorems s.sig s.table hyps given = λ hyps given. record {
      states = c.derivations.ensures.states s.sig s.table hyps given;
      follows = c.derivations.ensures.follows s.sig s.table hyps given;
      least = c.derivations.ensures.least s.sig s.table hyps given;
    } in
    rw (← c.self.view_is) (λ k at stands. quiet-at s.sig s.table s.single.items s.hyps.items s.given.items store.merges.items s.progress.keys store.parts s.levels c.self.invariant.2 k at stands theorems view refl refl (take k marks))

pub returns-clause-first : goal.returns-clause-first
returns-clause-first c =
    let s = c.self.inside in
    let store = s.progress.store in
    let marks = marks_of s.hyps.items s.given.items store.merges.items store.parts s.levels in
    let view : State = record { declarations = s.sig; terms = s.table; hypotheses = s.hyps.items; given = s.given.items; merges = store.merges.items; reps = store.parts.now.reps; cons = store.parts.now.cons; marks = marks } in
    rw (← c.self.view_is) (λ k at stands. first-part-at s.sig s.table s.single.items s.hyps.items s.given.items store.merges.items s.progress.keys store.parts s.levels c.self.invariant.2 k at stands view refl refl refl)
