use Rattle.std.proofs.Common.{◌≡◌, List, length, Contains, subst}
use Rattle.ct_terms.specs.declared.ids.TermId.{TermId}
use Rattle.ct_terms.specs.CoreTree.{term_at}
use Rattle.ct_operators.proofs.OperatorLemmas.{disjunction_not_one}
use Rattle.ct_operators.proofs.WithinLemmas.{within_itself}
use Rattle.ct_operators.proofs.operators.any_of.Goals as goal

pub returns-clause-effect : goal.returns-clause-effect
returns-clause-effect c = λ allowed within.
    let f = term_at c.args.table.now in
    c.make.ensures.effect allowed
    (subst (Contains allowed) (disjunction_not_one f c.args.args (subst (λ (ts : List TermId). length ts ≡ 1 → ⊥) c.as_slice-terms.ensures.value c.if-terms-eq1.false))
    (within_itself c.requires.kept.theorems allowed _ within))
