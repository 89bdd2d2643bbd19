use Rattle.std.proofs.Common.{Bool, subst}
use Rattle.ct_terms.specs.CoreTree.{term_at}
use Rattle.ct_operators.specs.Effect.{Within}
use Rattle.ct_operators.specs.Pairing.{compared_as}
use Rattle.ct_operators.proofs.WithinLemmas.{within_itself}
use Rattle.ct_operators.proofs.chains.compare.Goals as goal

pub returns-then-different-clause-effect : goal.returns-then-different-clause-effect
returns-then-different-clause-effect c = λ allowed within.
    c.inequality.ensures.effect allowed (subst (λ (x : Bool). Within allowed (compared_as c.args.sig.now x (term_at c.args.table.now c.args.pair.0) (term_at c.args.table.now c.args.pair.1))) c.if-different.true within)

pub returns-else-different-clause-effect : goal.returns-else-different-clause-effect
returns-else-different-clause-effect c = λ allowed within.
    c.equality.ensures.effect allowed (within_itself c.requires.kept.theorems allowed _ (subst (λ (x : Bool). Within allowed (compared_as c.args.sig.now x (term_at c.args.table.now c.args.pair.0) (term_at c.args.table.now c.args.pair.1))) c.if-different.false within))
