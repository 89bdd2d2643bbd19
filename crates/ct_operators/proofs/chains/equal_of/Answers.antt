use Rattle.std.proofs.Common.{◌<◌, false, List, length, map, subst, sym, ap, ◌∙◌}
use Rattle.std.specs.List.{AllByRecursion}
use Rattle.std.proofs.lemmas.Result.{err_from_is_err_and, IfOk-weaker}
use Rattle.ct_terms.specs.declared.ids.TermId.{TermId}
use Rattle.ct_terms.specs.CoreTree.{term_at}
use Rattle.ct_formulas.specs.Pairs.{neighbours}
use Rattle.ct_formulas.specs.Compiled.{all_of, equality}
use Rattle.ct_operators.specs.Effect.{Stands, Within}
use Rattle.ct_operators.specs.Pairing.{compared_all, IsPair}
use Rattle.ct_operators.proofs.EffectLemmas.{effect_none}
use Rattle.ct_operators.proofs.OperatorLemmas.{stands_as}
use Rattle.ct_operators.proofs.OperandLemmas.{sorts_of_terms}
use Rattle.ct_operators.proofs.PairLemmas.{neighbours_all_pairs, neighbours_all_compared, some_all_neighbours}
use Rattle.ct_operators.proofs.chains.equal_of.Goals as goal

pub returns-in_err-pairs-clause-effect : goal.returns-in_err-pairs-clause-effect
returns-in_err-pairs-clause-effect c = λ allowed within.
    let p = err_from_is_err_and c.from_residual.result c.from_residual.ensures.1 in
    rw (p.1, p.2) (effect_none c.args.sig.now allowed c.args.table.now _ c.requires.kept (λ e. cc))

pub conjoin-requires-clause-pairs : goal.conjoin-requires-clause-pairs
conjoin-requires-clause-pairs c =
    let d = c.args.sig.now in
    let f = term_at c.args.table.now in
    let o = c.requires.operands in
    (o.0, subst (AllByRecursion (IsPair d c.args.table.now o.0)) (sym (c.deref.ensures.value ∙ c.in_ok-pairs.ensures.pairs)) (neighbours_all_pairs d c.args.table.now o.0 c.args.args.now c.requires.below (sorts_of_terms d o.0 f c.args.args.now o.2)))

pub conjoin-requires-clause-some : goal.conjoin-requires-clause-some
conjoin-requires-clause-some c = subst (λ (ps : List (TermId × TermId)). 0 < length ps) (sym (c.deref.ensures.value ∙ c.in_ok-pairs.ensures.pairs)) (some_all_neighbours c.args.args.now c.requires.operands.1)

pub returns-clause-core : goal.returns-clause-core
returns-clause-core c =
    let d = c.args.sig.now in
    let f = term_at c.args.table.now in
    IfOk-weaker c.conjoin.result _ (λ t. Stands c.conjoin.new.table t (all_of (neighbours (equality d) (map f c.args.args.now)))) (λ t h. stands_as c.conjoin.new.table t _ _ (ap (λ (ps : List (TermId × TermId)). all_of (compared_all d false f ps)) (c.deref.ensures.value ∙ c.in_ok-pairs.ensures.pairs) ∙ ap all_of (neighbours_all_compared d f c.args.args.now)) h) c.conjoin.ensures.core

pub returns-clause-effect : goal.returns-clause-effect
returns-clause-effect c = λ allowed within.
    let d = c.args.sig.now in
    let f = term_at c.args.table.now in
    c.conjoin.ensures.effect allowed (subst (Within allowed) (sym (ap (λ (ps : List (TermId × TermId)). all_of (compared_all d false f ps)) (c.deref.ensures.value ∙ c.in_ok-pairs.ensures.pairs) ∙ ap all_of (neighbours_all_compared d f c.args.args.now))) within)
