use Rattle.std.proofs.Common.{ℕ, ◌<◌, get_or}
use Rattle.ct_sorts.specs.declared.ids.SelId.{SelId}
use Rattle.ct_terms.specs.declared.ids.TermId.{TermId}
use Rattle.ct_terms.specs.Terms.{IsOfField}
use Rattle.ct_terms.proofs.sorting.are_of_fields.Given as goal

abbrev pub invariant-loop-i : goal.invariant-loop-i
invariant-loop-i l = (k : ℕ) (t : TermId) (s : SelId) → k < l.i → IsOfField l.sig l.table (get_or l.terms k t) (get_or l.sels k s)
