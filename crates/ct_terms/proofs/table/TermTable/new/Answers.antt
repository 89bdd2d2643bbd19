use Rattle.std.proofs.Common.{◌≡◌, sym, subst, arith}
use Rattle.std.proofs.lemmas.Grind.{common_steps}
use Rattle.ct_sorts.specs.Declarations.{start}
use Rattle.ct_terms.specs.Terms.{AreSorted, truth_terms}
use Rattle.ct_terms.proofs.LiteralLemmas.{AreLiterals-truths}
use Rattle.ct_terms.proofs.TableLemmas.{IsTermTable-truths, AreSorted-truths}
use Rattle.ct_terms.proofs.SortLemmas.{Extends-same}
use Rattle.ct_terms.proofs.table.TermTable.new.Goals as goal
use Rattle.ct_terms.proofs.table.TermTable.new.Goals.{In_ok-insert-2}

-- the table is `true` and `false`
are_truths : (c : In_ok-insert-2) → c.insert-2.new.self.entries ≡ truth_terms
are_truths c = rw (c.in_ok-insert-2.ensures.entries, c.in_ok-insert.ensures.entries, c.new-terms.ensures.empty) (grind (arith, common_steps))

-- the literals are the two terms themselves
pub invariant_of-result : goal.invariant_of-result
invariant_of-result c =
    let at = (goal.at.invariant_of-result c).In_ok-insert-2 in
    rw (are_truths at, c.in_ok-literals.ensures.items, c.itself.ensures.value, c.itself-2.ensures.value) (IsTermTable-truths, AreLiterals-truths)

pub returns-clause-at_start : goal.returns-clause-at_start
returns-clause-at_start c = subst (AreSorted start) (sym (are_truths (goal.at.returns-clause-at_start c).In_ok-insert-2)) (AreSorted-truths start (Extends-same start))

pub returns-clause-sorted : goal.returns-clause-sorted
returns-clause-sorted c = λ d extends. subst (AreSorted d) (sym (are_truths (goal.at.returns-clause-sorted c).In_ok-insert-2)) (AreSorted-truths d extends)
