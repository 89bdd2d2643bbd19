use Rattle.std.proofs.Common.{◌∷◌, [], Contains, sym, subst}
use Rattle.std.proofs.lemmas.Result.{err_from_is_err_and}
use Rattle.ct_lemmas.proofs.Contained.{Contains-first}
use Rattle.ct_terms.specs.CoreTree.{CoreTree, negation, equivalence, term_at}
use Rattle.ct_operators.proofs.EffectLemmas.{effect_then}
use Rattle.ct_operators.proofs.WithinLemmas.{within_itself, within_negation}
use Rattle.ct_operators.proofs.operators.exclusive.Goals as goal

pub returns-in_err-same-clause-effect : goal.returns-in_err-same-clause-effect
returns-in_err-same-clause-effect c = λ allowed within.
    let both : CoreTree = equivalence (term_at c.args.table.now c.args.a) (term_at c.args.table.now c.args.b) in
    let p = err_from_is_err_and c.from_residual.result c.from_residual.ensures.1 in
    rw (p.1, p.2) (c.in_err-same.ensures.effect allowed (within_itself c.requires.kept.theorems allowed both (within_negation allowed both within)))

pub negated-requires-clause-kept : goal.negated-requires-clause-kept
negated-requires-clause-kept c =
    let both : CoreTree = equivalence (term_at c.args.table.now c.args.a) (term_at c.args.table.now c.args.b) in
    (c.in_ok-same.ensures.effect (both ∷ []) (Contains-first both [])).kept

pub returns-clause-effect : goal.returns-clause-effect
returns-clause-effect c = λ allowed within.
    let both : CoreTree = equivalence (term_at c.args.table.now c.args.a) (term_at c.args.table.now c.args.b) in
    let theorems = c.requires.kept.theorems in
    let first = c.in_ok-same.ensures.effect allowed (within_itself theorems allowed both (within_negation allowed both within)) in
    let second = c.negated.ensures.effect allowed (subst (λ (u : CoreTree). Contains allowed (negation u)) (sym c.in_ok-same.ensures.core.1) (within_itself theorems allowed (negation both) within)) in
    effect_then c.args.sig.now allowed c.args.table.now c.make.new.table c.negated.new.table _ _ first second
