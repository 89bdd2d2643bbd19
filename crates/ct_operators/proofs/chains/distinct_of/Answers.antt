use Rattle.std.proofs.Common.{◌<◌, true, List, length, map, subst, sym, ap, ◌∙◌}
use Rattle.std.specs.List.{AllByRecursion}
use Rattle.std.proofs.lemmas.Result.{err_from_is_err_and, IfOk-weaker}
use Rattle.ct_terms.specs.declared.ids.TermId.{TermId}
use Rattle.ct_terms.specs.CoreTree.{term_at}
use Rattle.ct_formulas.specs.Pairs.{pairs}
use Rattle.ct_formulas.specs.Compiled.{all_of, inequality}
use Rattle.ct_operators.specs.Effect.{Stands, Within}
use Rattle.ct_operators.specs.Made.{MakesInOrder, Made, leaf, made_inequality, made_all}
use Rattle.ct_operators.specs.Pairing.{compared_all, made_compared_all, IsPair}
use Rattle.ct_operators.proofs.EffectLemmas.{effect_none}
use Rattle.ct_operators.proofs.OperatorLemmas.{stands_as}
use Rattle.ct_operators.proofs.OperandLemmas.{sorts_of_terms}
use Rattle.ct_operators.proofs.PairLemmas.{pairs_pairs, pairs_compared, pairs_made, some_pairs}
use Rattle.ct_operators.proofs.chains.distinct_of.Goals as goal

pub returns-in_err-found-clause-effect : goal.returns-in_err-found-clause-effect
returns-in_err-found-clause-effect c = λ allowed within.
    let p = err_from_is_err_and c.from_residual.result c.from_residual.ensures.1 in
    rw (p.1, p.2) (effect_none c.args.sig.now allowed c.args.table.now _ c.requires.kept (λ e. cc))

pub conjoin-requires-clause-pairs : goal.conjoin-requires-clause-pairs
conjoin-requires-clause-pairs c =
    let d = c.args.sig.now in
    let f = term_at c.args.table.now in
    let o = c.requires.operands in
    (o.0, subst (AllByRecursion (IsPair d c.args.table.now o.0)) (sym (c.deref.ensures.value ∙ c.in_ok-found.ensures.pairs)) (pairs_pairs d c.args.table.now o.0 c.args.args.now c.requires.below (sorts_of_terms d o.0 f c.args.args.now o.2)))

pub conjoin-requires-clause-some : goal.conjoin-requires-clause-some
conjoin-requires-clause-some c = subst (λ (ps : List (TermId × TermId)). 0 < length ps) (sym (c.deref.ensures.value ∙ c.in_ok-found.ensures.pairs)) (some_pairs c.args.args.now c.requires.operands.1)

pub returns-clause-core : goal.returns-clause-core
returns-clause-core c =
    let d = c.args.sig.now in
    let f = term_at c.args.table.now in
    IfOk-weaker c.conjoin.result _ (λ t. Stands c.conjoin.new.table t (all_of (pairs (inequality d) (map f c.args.args.now)))) (λ t h. stands_as c.conjoin.new.table t _ _ (ap (λ (ps : List (TermId × TermId)). all_of (compared_all d true f ps)) (c.deref.ensures.value ∙ c.in_ok-found.ensures.pairs) ∙ ap all_of (pairs_compared d f c.args.args.now)) h) c.conjoin.ensures.core

pub returns-clause-effect : goal.returns-clause-effect
returns-clause-effect c = λ allowed within.
    let d = c.args.sig.now in
    let f = term_at c.args.table.now in
    c.conjoin.ensures.effect allowed (subst (Within allowed) (sym (ap (λ (ps : List (TermId × TermId)). all_of (compared_all d true f ps)) (c.deref.ensures.value ∙ c.in_ok-found.ensures.pairs) ∙ ap all_of (pairs_compared d f c.args.args.now))) within)

pub returns-clause-order : goal.returns-clause-order
returns-clause-order c =
    let d = c.args.sig.now in
    let f = term_at c.args.table.now in
    IfOk-weaker c.conjoin.result _ (λ t. MakesInOrder c.args.table.now (made_all (pairs (made_inequality d) (map leaf (map f c.args.args.now)))).making c.conjoin.new.table)
    (λ t h. subst (λ (ps : List Made). MakesInOrder c.args.table.now (made_all ps).making c.conjoin.new.table) (ap (made_compared_all d true f) (c.deref.ensures.value ∙ c.in_ok-found.ensures.pairs) ∙ pairs_made d f c.args.args.now) h)
    c.conjoin.ensures.order
