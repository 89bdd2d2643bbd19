use Rattle.std.proofs.Common.{List, map, subst}
use Rattle.ct_lemmas.proofs.Prefixes.{rest-step}
use Rattle.ct_terms.specs.declared.ids.TermId.{TermId}
use Rattle.ct_terms.specs.CoreTree.{term_at}
use Rattle.ct_formulas.specs.Compiled.{exclusive_of}
use Rattle.ct_operators.specs.Effect.{Within}
use Rattle.ct_operators.proofs.operators.exclusive_of_all.Goals as goal

pub returns-clause-effect : goal.returns-clause-effect
returns-clause-effect c = λ allowed within.
    c.exclusive_of.ensures.effect allowed
    (subst (λ (ts : List TermId). Within allowed (exclusive_of (map (term_at c.args.table.now) ts))) (rest-step c.args.args.now _ c.in-len1-up.len_at_least) within)
