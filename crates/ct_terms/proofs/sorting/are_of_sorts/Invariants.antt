use Rattle.std.proofs.Common.{ℕ, ◌<◌, get_or}
use Rattle.ct_sorts.specs.declared.ids.SortId.{SortId}
use Rattle.ct_terms.specs.declared.ids.TermId.{TermId}
use Rattle.ct_terms.specs.Terms.{IsOfSort}
use Rattle.ct_terms.proofs.sorting.are_of_sorts.Given as goal

abbrev pub invariant-loop-i : goal.invariant-loop-i
invariant-loop-i l = (k : ℕ) (t : TermId) (s : SortId) → k < l.i → IsOfSort l.table (get_or l.terms k t) (get_or l.sorts k s)
