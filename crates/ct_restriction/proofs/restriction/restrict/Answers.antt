use Rattle.std.proofs.Common.{◌<◌, ◌∙◌, List, length, map, sym, ap, subst}
use Rattle.std.proofs.lemmas.List.Elements.{All-from_recursion, recursion_from_All}
use Rattle.ct_terms.specs.declared.ids.TermId.{TermId}
use Rattle.ct_terms.specs.Terms.{IsOfSort, AreOrdered, BeginsWithTruths}
use Rattle.ct_restriction.specs.Renamed.{number_in}
use Rattle.ct_restriction.specs.Restricted.{IsRestriction, AreMarked}
use Rattle.ct_restriction.proofs.CopyLemmas.{restriction, same_trees, same_sort}
use Rattle.ct_restriction.proofs.restriction.restrict.Goals as goal
use Rattle.ct_restriction.proofs.restriction.restrict.Goals.{In_ok-found}

-- the table of the marked terms is what is wanted
made : (c : In_ok-found) → IsRestriction c.args.table.now c.args.roots.now c.in_ok-restricted.restricted.value c.in_ok-found.found.items
made c =
    restriction c.args.table.now c.args.roots.now c.deref.result.now c.in_ok-restricted.restricted.value c.in_ok-restricted.numbers.items c.in_ok-found.found.items (subst BeginsWithTruths c.deref-2.ensures c.len-terms.ensures.begins) (subst AreOrdered c.deref-2.ensures c.len-terms.ensures.ordered)
    (subst (AreMarked c.args.table.now c.args.roots.now) (sym c.deref.ensures.value) c.in_ok-marks.ensures.marked)
    c.in_ok-restricted.ensures.long c.in_ok-restricted.ensures.copied
    (recursion_from_All (λ (t : TermId). t.0 < length c.args.table.now) c.args.roots.now c.requires.within)
    (c.in_ok-found.ensures.renamed ∙ ap (λ (numbers : List TermId). map (number_in numbers) c.args.roots.now) c.deref-3.ensures.value)

pub returns-clause-restricted : goal.returns-clause-restricted
returns-clause-restricted c = rw c.into_inner.ensures (made (goal.at.returns-clause-restricted c).In_ok-found)

pub returns-clause-same : goal.returns-clause-same
returns-clause-same c =
    rw c.into_inner.ensures
    (same_trees c.args.table.now c.in_ok-restricted.restricted.value c.args.roots.now c.in_ok-found.found.items (made (goal.at.returns-clause-same c).In_ok-found).stand)

pub returns-clause-of_sort : goal.returns-clause-of_sort
returns-clause-of_sort c = λ s all.
    rw c.into_inner.ensures
    (All-from_recursion (λ t. IsOfSort c.in_ok-restricted.restricted.value t s) c.in_ok-found.found.items
    (same_sort c.args.table.now c.in_ok-restricted.restricted.value s c.args.roots.now c.in_ok-found.found.items (made (goal.at.returns-clause-of_sort c).In_ok-found).stand
    (recursion_from_All (λ t. IsOfSort c.args.table.now t s) c.args.roots.now all)))
