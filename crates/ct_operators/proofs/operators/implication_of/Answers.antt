use Rattle.std.proofs.Common.{List, map, subst}
use Rattle.std.specs.List.{AllByRecursion}
use Rattle.ct_sorts.specs.Declarations.{bool_sort}
use Rattle.ct_terms.specs.declared.ids.TermId.{TermId}
use Rattle.ct_terms.specs.CoreTree.{term_at}
use Rattle.ct_terms.specs.CoreSorts.{HasTreeSort}
use Rattle.ct_formulas.specs.Compiled.{implication_of}
use Rattle.ct_operators.specs.Effect.{Within}
use Rattle.ct_operators.proofs.ImplyingLemmas.{last_step}
use Rattle.ct_operators.proofs.OperandLemmas.{sorts_of_terms}
use Rattle.ct_operators.proofs.operators.implication_of.Goals as goal

pub implied_by-requires-clause-boolean : goal.implied_by-requires-clause-boolean
implied_by-requires-clause-boolean c =
    let f = term_at c.args.table.now in
    subst (AllByRecursion (λ t. HasTreeSort c.args.sig.now (f t) bool_sort)) (last_step c.args.args.now _ c.in-len1-up.len_at_least) (sorts_of_terms c.args.sig.now bool_sort f c.args.args.now c.requires.operands.1)

pub returns-clause-effect : goal.returns-clause-effect
returns-clause-effect c = λ allowed within.
    c.implied_by.ensures.effect allowed (subst (λ (ts : List TermId). Within allowed (implication_of (map (term_at c.args.table.now) ts))) (last_step c.args.args.now _ c.in-len1-up.len_at_least) within)
