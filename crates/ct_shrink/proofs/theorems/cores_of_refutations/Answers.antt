use Rattle.std.proofs.Common.{sym, subst}
use Rattle.ct_terms.specs.Terms.{IsTermTable, AreSorted}
use Rattle.ct_shrink.proofs.DraftLemmas.{core_found, core_refutes}
use Rattle.ct_shrink.proofs.theorems.cores_of_refutations.Goals as goal

pub returns-clause-core : goal.returns-clause-core
returns-clause-core c = λ d table asserts derived core places refutation is passes. core_found d table asserts derived core places refutation is passes

pub returns-clause-refuted : goal.returns-clause-refuted
returns-clause-refuted c = λ d table asserts derived core places consistent refutation is passes.
    core_refutes d table asserts c.models.ensures.models places core consistent
    (subst IsTermTable (sym is.terms) refutation.is_table)
    (subst (AreSorted d) (sym is.terms) refutation.sorted)
    (core_found d table asserts derived core places refutation is passes)
