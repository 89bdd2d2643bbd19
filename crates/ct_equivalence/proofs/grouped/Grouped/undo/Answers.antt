use Rattle.std.proofs.Common.{◌≡◌, ◌∙◌, List, ap, sym, subst, arith}
use Rattle.std.specs.List.{Contains}
use Rattle.ct_terms.specs.declared.ids.TermId.{TermId}
use Rattle.ct_equivalence.specs.declared.step.Step.{Step}
use Rattle.ct_equivalence.specs.Grouping.{Grouping, IsGrouping}
use Rattle.ct_equivalence.specs.Digests.{AreDigests}
use Rattle.ct_equivalence.specs.Union.{IsJoin}
use Rattle.ct_equivalence.specs.Undoing.{relabelled, before_join}
use Rattle.ct_equivalence.proofs.JoinLemmas.{IsUndoable, IsUndoable-joined, before_join-is}
use Rattle.ct_equivalence.proofs.grouped.Grouped.undo.Goals as goal

-- what undoing the step asks for, of the classes that the fields mean
undoable : (g now : Grouping) (step : Step) → g ≡ now → IsGrouping g → IsGrouping (before_join now step) → IsJoin (before_join now step) now step.winner step.loser → IsUndoable g step
undoable g now step is whole before join =
    IsUndoable-joined g step whole (subst (λ (s : Grouping). IsGrouping (before_join s step)) (sym is) before)
    (subst (λ (s : Grouping). IsJoin (before_join s step) s step.winner step.loser) (sym is) join)

pub row-requires : goal.row-requires
row-requires c =
    let i = c.self.inside in
    let g : Grouping = record { reps = i.reps.items; cons = i.cons.items; members = i.members; uses = i.uses } in
    let facts = undoable g c.args.self.now c.args.step c.self.view_is c.self.invariant c.requires.whole c.requires.joined in
    record { inside = omega (arith, facts.loser, c.self.invariant.members_long) }

pub relabel-requires : goal.relabel-requires
relabel-requires c =
    let i = c.self.inside in
    let g : Grouping = record { reps = i.reps.items; cons = i.cons.items; members = i.members; uses = i.uses } in
    let facts = undoable g c.args.self.now c.args.step c.self.view_is c.self.invariant c.requires.whole c.requires.joined in
    record { inside = λ t has. facts.inside t (subst (λ (xs : List TermId). Contains xs t) c.row.ensures.value has) }

pub cut-requires : goal.cut-requires
cut-requires c =
    let i = c.self.inside in
    let g : Grouping = record { reps = i.reps.items; cons = i.cons.items; members = i.members; uses = i.uses } in
    let facts = undoable g c.args.self.now c.args.step c.self.view_is c.self.invariant c.requires.whole c.requires.joined in
    record { inside = omega (arith, facts.winner, c.self.invariant.members_long) }

pub cut-requires-2 : goal.cut-requires-2
cut-requires-2 c =
    let i = c.self.inside in
    let g : Grouping = record { reps = i.reps.items; cons = i.cons.items; members = i.members; uses = i.uses } in
    let facts = undoable g c.args.self.now c.args.step c.self.view_is c.self.invariant c.requires.whole c.requires.joined in
    record { inside = omega (arith, facts.winner, c.self.invariant.uses_long) }

pub lose-requires : goal.lose-requires
lose-requires c =
    let i = c.self.inside in
    let g : Grouping = record { reps = i.reps.items; cons = i.cons.items; members = i.members; uses = i.uses } in
    let facts = undoable g c.args.self.now c.args.step c.self.view_is c.self.invariant c.requires.whole c.requires.joined in
    record { winner = omega (arith, facts.winner, c.self.invariant.cons_long) }

pub invariant_of-self : goal.invariant_of-self
invariant_of-self c =
    let i = c.self.inside in
    let g : Grouping = record { reps = i.reps.items; cons = i.cons.items; members = i.members; uses = i.uses } in
    let new : Grouping = record { reps = c.relabel.new.reps.items; cons = c.lose.new.cons.items; members = c.cut.new.self; uses = c.cut-2.new.self } in
    let reps = c.relabel.ensures.value ∙ ap (λ (row : List TermId). relabelled g.reps row c.args.step.loser) c.row.ensures.value in
    let is : new ≡ before_join c.args.self.now c.args.step = before_join-is g new c.args.step reps c.lose.ensures.value c.cut.ensures.first c.cut-2.ensures.first ∙ ap (λ (s : Grouping). before_join s c.args.step) c.self.view_is in
    subst IsGrouping (sym is) c.requires.whole

pub returns : goal.returns
returns c =
    let i = c.self.inside in
    let g : Grouping = record { reps = i.reps.items; cons = i.cons.items; members = i.members; uses = i.uses } in
    let new : Grouping = record { reps = c.relabel.new.reps.items; cons = c.lose.new.cons.items; members = c.cut.new.self; uses = c.cut-2.new.self } in
    let reps = c.relabel.ensures.value ∙ ap (λ (row : List TermId). relabelled g.reps row c.args.step.loser) c.row.ensures.value in
    record {
      before = before_join-is g new c.args.step reps c.lose.ensures.value c.cut.ensures.first c.cut-2.ensures.first ∙ ap (λ (s : Grouping). before_join s c.args.step) c.self.view_is;
      digests = λ table places are. c.relabel.ensures.digests table places (subst (λ (s : Grouping). AreDigests table s.reps c.args.digests.now.items) (sym c.self.view_is) are);
    }
