use Rattle.std.proofs.Common.{map, subst, sym}
use Rattle.std.proofs.lemmas.Result.{err_from_is_err_and, IfOk-weaker}
use Rattle.ct_sorts.specs.Declarations.{bool_sort}
use Rattle.ct_terms.specs.declared.error.TermError.TheVariants.{Full}
use Rattle.ct_terms.specs.CoreTree.{subtrees, subtrees_of_all, trees_of, term_at}
use Rattle.ct_formulas.specs.Compiled.{all_of}
use Rattle.ct_operators.specs.Effect.{Stands, Within}
use Rattle.ct_operators.specs.Made.{MakesInOrder, made_all}
use Rattle.ct_operators.specs.Pairing.{compared_all, made_compared_all}
use Rattle.ct_operators.proofs.EffectLemmas.{effect_then, effect_because}
use Rattle.ct_operators.proofs.WithinLemmas.{within_all, within_subtrees}
use Rattle.ct_operators.proofs.OperatorLemmas.{stands_as}
use Rattle.ct_operators.proofs.OperandLemmas.{within_all_of}
use Rattle.ct_operators.proofs.EffectLemmas.{same_error}
use Rattle.ct_operators.proofs.PairLemmas.{parts_below, parts_sorted, parts_are, conjoined_made}
use Rattle.ct_operators.proofs.chains.conjoin.Goals as goal

pub returns-in_err-parts-clause-effect : goal.returns-in_err-parts-clause-effect
returns-in_err-parts-clause-effect c = λ allowed within.
    let d = c.args.sig.now in
    let trees = compared_all d c.args.different (term_at c.args.table.now) c.args.pairs.now in
    let p = err_from_is_err_and c.from_residual.result c.from_residual.ensures.1 in
    rw (p.1, p.2) (effect_because d allowed c.args.table.now c.compared.new.table _ _ (same_error _ Full) (c.in_err-parts.ensures.effect allowed (within_all_of allowed trees within)))

pub all_of-requires-clause-kept : goal.all_of-requires-clause-kept
all_of-requires-clause-kept c =
    let trees = compared_all c.args.sig.now c.args.different (term_at c.args.table.now) c.args.pairs.now in
    (c.in_ok-parts.ensures.effect (subtrees_of_all (trees_of trees)) (within_all (subtrees_of_all (trees_of trees)) trees (λ s k. k))).kept

pub all_of-requires-clause-below : goal.all_of-requires-clause-below
all_of-requires-clause-below c = parts_below c.args.sig.now c.args.different c.args.table.now c.compared.new.table c.requires.pairs.0 c.args.pairs.now c.in_ok-parts.parts c.requires.kept c.requires.pairs.1 c.in_ok-parts.ensures.core

pub all_of-requires-clause-sorted : goal.all_of-requires-clause-sorted
all_of-requires-clause-sorted c = (bool_sort, parts_sorted c.args.sig.now c.args.different c.args.table.now c.compared.new.table c.requires.pairs.0 c.args.pairs.now c.in_ok-parts.parts c.requires.kept c.requires.pairs.1 c.in_ok-parts.ensures.core c.requires.some)

pub returns-clause-core : goal.returns-clause-core
returns-clause-core c =
    let d = c.args.sig.now in
    let trees = compared_all d c.args.different (term_at c.args.table.now) c.args.pairs.now in
    IfOk-weaker c.all_of.result _ (λ t. Stands c.all_of.new.table t (all_of trees)) (λ t h. stands_as c.all_of.new.table t _ _ (parts_are d c.args.different c.args.table.now c.compared.new.table c.requires.pairs.0 c.args.pairs.now c.in_ok-parts.parts c.requires.kept c.requires.pairs.1 c.in_ok-parts.ensures.core) h) c.all_of.ensures.core

pub returns-clause-effect : goal.returns-clause-effect
returns-clause-effect c = λ allowed within.
    let d = c.args.sig.now in
    let trees = compared_all d c.args.different (term_at c.args.table.now) c.args.pairs.now in
    effect_then d allowed c.args.table.now c.compared.new.table c.all_of.new.table _ _
    (c.in_ok-parts.ensures.effect allowed (within_all_of allowed trees within))
    (c.all_of.ensures.effect allowed (subst (Within allowed) (sym (parts_are d c.args.different c.args.table.now c.compared.new.table c.requires.pairs.0 c.args.pairs.now c.in_ok-parts.parts c.requires.kept c.requires.pairs.1 c.in_ok-parts.ensures.core)) within))

pub returns-clause-order : goal.returns-clause-order
returns-clause-order c =
    let d = c.args.sig.now in
    let mid = c.compared.new.table in
    let parts = c.in_ok-parts.parts in
    let top = all_of (map (term_at mid) parts) in
    IfOk-weaker c.all_of.result (λ t. Stands c.all_of.new.table t top) (λ t. MakesInOrder c.args.table.now (made_all (made_compared_all d c.args.different (term_at c.args.table.now) c.args.pairs.now)).making c.all_of.new.table)
    (λ t h. conjoined_made d c.args.different c.args.table.now mid c.all_of.new.table c.args.pairs.now parts _ t c.requires.some c.in_ok-parts.ensures.core c.in_ok-parts.ensures.order (c.all_of.ensures.effect (subtrees top) (within_subtrees top)) h)
    c.all_of.ensures.core
