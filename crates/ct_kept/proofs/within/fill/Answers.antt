use Rattle.std.proofs.Common.{Bool, List, length, All, ap, subst, inl, inr, arith}
use Rattle.ct_terms.specs.declared.ids.TermId.{TermId}
use Rattle.ct_terms.specs.CoreTree.{term_at}
use Rattle.ct_closure.specs.ClosedTable.{terms_at}
use Rattle.ct_restriction.specs.Restricted.{IsSubtermOfOne}
use Rattle.ct_restriction.specs.Renumbered.{IsKnown}
use Rattle.ct_kept.specs.Chosen.{AreRoots}
use Rattle.ct_kept.proofs.CutLemmas.{table_left}
use Rattle.ct_kept.proofs.WithinLemmas.{only_named, are_named, is_store}
use Rattle.ct_kept.proofs.within.fill.Goals as goal

pub returns-clause-named : goal.returns-clause-named
returns-clause-named c =
    are_named c.args.sig.now c.args.mark.now c.requires.can_cut c.sorts-sorts.ensures.consistent.first_sort (omega (arith, c.sorts-kept.ensures.has_bool, c.sorts-kept.ensures.value)) c.args.table.now c.copying.new.to c.args.lemmas.now c.in_ok-marks.marks.items c.in_ok-roots.roots.items c.in_ok-numbers.numbers c.in_ok-marks.ensures.named
    (subst (λ (ms : List Bool). AreRoots ms c.args.lemmas.now c.in_ok-roots.roots.items) c.deref.ensures.value c.in_ok-roots.ensures.roots) c.requires.store.over c.in_ok-numbers.ensures.equal
    (subst (All (IsKnown c.in_ok-numbers.numbers)) c.deref-2.ensures.value (c.in_ok-numbers.ensures.room (omega (arith, ap length c.requires.first, c.len-terms.ensures.few, c.len-terms.ensures.count)))) c.len-made.ensures.ordered c.len-made.ensures.begins
    (λ u there. elim (c.in_ok-numbers.ensures.only u there) [
      | inl old ↦ inl (omega (arith, old, ap length c.requires.first))
      | inr copy ↦ inr (subst (λ (rs : List TermId). IsSubtermOfOne (terms_at c.args.table.now rs) (term_at c.copying.new.to u)) c.deref-2.ensures.value copy)
    ]) c.in_ok-chosen.chosen.items c.in_ok-chosen.ensures.lemmas

pub returns-clause-only : goal.returns-clause-only
returns-clause-only c = λ t there.
    only_named c.args.sig.now c.args.mark.now c.requires.can_cut c.sorts-sorts.ensures.consistent.first_sort (omega (arith, c.sorts-kept.ensures.has_bool, c.sorts-kept.ensures.value)) c.args.table.now c.copying.new.to c.args.lemmas.now c.in_ok-marks.marks.items c.in_ok-roots.roots.items c.in_ok-numbers.numbers c.in_ok-marks.ensures.named
    (subst (λ (ms : List Bool). AreRoots ms c.args.lemmas.now c.in_ok-roots.roots.items) c.deref.ensures.value c.in_ok-roots.ensures.roots) c.requires.store.over c.in_ok-numbers.ensures.equal
    (subst (All (IsKnown c.in_ok-numbers.numbers)) c.deref-2.ensures.value (c.in_ok-numbers.ensures.room (omega (arith, ap length c.requires.first, c.len-terms.ensures.few, c.len-terms.ensures.count)))) c.len-made.ensures.ordered c.len-made.ensures.begins
    (λ u there. elim (c.in_ok-numbers.ensures.only u there) [
      | inl old ↦ inl (omega (arith, old, ap length c.requires.first))
      | inr copy ↦ inr (subst (λ (rs : List TermId). IsSubtermOfOne (terms_at c.args.table.now rs) (term_at c.copying.new.to u)) c.deref-2.ensures.value copy)
    ]) t there

pub returns-clause-sorted : goal.returns-clause-sorted
returns-clause-sorted c =
    table_left c.args.sig.now c.args.mark.now c.requires.can_cut (c.structure.ensures.own_selectors c.args.sig.now c.sorts-sorts.ensures.consistent) c.copying.new.to c.len-made.ensures.ordered
    (λ t there.
    only_named c.args.sig.now c.args.mark.now c.requires.can_cut c.sorts-sorts.ensures.consistent.first_sort (omega (arith, c.sorts-kept.ensures.has_bool, c.sorts-kept.ensures.value)) c.args.table.now c.copying.new.to c.args.lemmas.now c.in_ok-marks.marks.items c.in_ok-roots.roots.items c.in_ok-numbers.numbers c.in_ok-marks.ensures.named
    (subst (λ (ms : List Bool). AreRoots ms c.args.lemmas.now c.in_ok-roots.roots.items) c.deref.ensures.value c.in_ok-roots.ensures.roots) c.requires.store.over c.in_ok-numbers.ensures.equal
    (subst (All (IsKnown c.in_ok-numbers.numbers)) c.deref-2.ensures.value (c.in_ok-numbers.ensures.room (omega (arith, ap length c.requires.first, c.len-terms.ensures.few, c.len-terms.ensures.count)))) c.len-made.ensures.ordered c.len-made.ensures.begins
    (λ u there. elim (c.in_ok-numbers.ensures.only u there) [
      | inl old ↦ inl (omega (arith, old, ap length c.requires.first))
      | inr copy ↦ inr (subst (λ (rs : List TermId). IsSubtermOfOne (terms_at c.args.table.now rs) (term_at c.copying.new.to u)) c.deref-2.ensures.value copy)
    ]) t there) c.in_ok-numbers.ensures.sorted

pub returns-clause-store : goal.returns-clause-store
returns-clause-store c =
    is_store c.args.sig.now c.args.mark.now c.requires.can_cut c.sorts-sorts.ensures.consistent.first_sort (omega (arith, c.sorts-kept.ensures.has_bool, c.sorts-kept.ensures.value)) c.args.table.now c.copying.new.to c.args.lemmas.now c.in_ok-marks.marks.items c.in_ok-roots.roots.items c.in_ok-numbers.numbers c.in_ok-marks.ensures.named
    (subst (λ (ms : List Bool). AreRoots ms c.args.lemmas.now c.in_ok-roots.roots.items) c.deref.ensures.value c.in_ok-roots.ensures.roots) c.requires.store.over c.in_ok-numbers.ensures.equal
    (subst (All (IsKnown c.in_ok-numbers.numbers)) c.deref-2.ensures.value (c.in_ok-numbers.ensures.room (omega (arith, ap length c.requires.first, c.len-terms.ensures.few, c.len-terms.ensures.count)))) c.len-made.ensures.ordered c.len-made.ensures.begins
    (λ u there. elim (c.in_ok-numbers.ensures.only u there) [
      | inl old ↦ inl (omega (arith, old, ap length c.requires.first))
      | inr copy ↦ inr (subst (λ (rs : List TermId). IsSubtermOfOne (terms_at c.args.table.now rs) (term_at c.copying.new.to u)) c.deref-2.ensures.value copy)
    ]) c.in_ok-chosen.chosen.items c.in_ok-chosen.ensures.lemmas c.requires.store.few
