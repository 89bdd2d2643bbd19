use Rattle.std.proofs.Common.{◌<◌, List, ◌∷◌, [], Contains, sym, subst, refl, length, arith}
use Rattle.std.specs.List.{AllByRecursion}
use Rattle.std.proofs.lemmas.Result.{err_from_is_err_and, IfOk-weaker}
use Rattle.ct_lemmas.proofs.Contained.{Contains-first}
use Rattle.ct_sorts.specs.Declarations.{bool_sort}
use Rattle.ct_terms.specs.declared.ids.TermId.{TermId}
use Rattle.ct_terms.specs.CoreTree.{CoreTree, negation, term_at}
use Rattle.ct_terms.specs.CoreSorts.{HasTreeSort}
use Rattle.ct_operators.specs.Effect.{Stands}
use Rattle.ct_operators.specs.Forms.{implication}
use Rattle.ct_operators.proofs.EffectLemmas.{effect_then, effect_because, prefix_length}
use Rattle.ct_operators.proofs.WithinLemmas.{within_itself, within_disjunction}
use Rattle.ct_operators.proofs.OperatorLemmas.{stands_as, implied_made}
use Rattle.ct_operators.proofs.operators.implied.Goals as goal

pub returns-in_err-refuted-clause-effect : goal.returns-in_err-refuted-clause-effect
returns-in_err-refuted-clause-effect c = λ allowed within.
    let a = term_at c.args.table.now c.args.a in
    let b = term_at c.args.table.now c.args.b in
    let p = err_from_is_err_and c.from_residual.result c.from_residual.ensures.1 in
    rw (p.1, p.2) (c.in_err-refuted.ensures.effect allowed (within_itself c.requires.kept.theorems allowed (negation a) (within_disjunction allowed (negation a ∷ (b ∷ [])) within).0))

pub returns-in_err-args-clause-effect : goal.returns-in_err-args-clause-effect
returns-in_err-args-clause-effect c = λ allowed within.
    let a = term_at c.args.table.now c.args.a in
    let b = term_at c.args.table.now c.args.b in
    let p = err_from_is_err_and c.from_residual-in_err-args.result c.from_residual-in_err-args.ensures.1 in
    rw (p.1, p.2) (effect_because c.args.sig.now allowed c.args.table.now c.negated.new.table _ _ (λ e. cc) (c.in_ok-refuted.ensures.effect allowed (within_itself c.requires.kept.theorems allowed (negation a) (within_disjunction allowed (negation a ∷ (b ∷ [])) within).0)))

pub make-requires-clause-kept : goal.make-requires-clause-kept
make-requires-clause-kept c =
    let n : CoreTree = negation (term_at c.args.table.now c.args.a) in
    (c.in_ok-refuted.ensures.effect (n ∷ []) (Contains-first n [])).kept

pub make-requires-clause-below : goal.make-requires-clause-below
make-requires-clause-below c =
    let n : CoreTree = negation (term_at c.args.table.now c.args.a) in
    let h = c.in_ok-refuted.ensures.effect (n ∷ []) (Contains-first n []) in
    subst (λ (ts : List TermId). AllByRecursion (λ t. t.0 < length c.negated.new.table) ts) (sym c.in_ok-args.ensures.both)
    (c.in_ok-refuted.ensures.core.0, (omega (arith, c.requires.below.1.0, prefix_length c.args.table.now c.negated.new.table h.grown), tt))

pub make-requires-clause-sorted : goal.make-requires-clause-sorted
make-requires-clause-sorted c =
    let n : CoreTree = negation (term_at c.args.table.now c.args.a) in
    let h = c.in_ok-refuted.ensures.effect (n ∷ []) (Contains-first n []) in
    let layer = implied_made c.args.sig.now c.args.table.now c.negated.new.table c.args.a c.args.b c.in_ok-refuted.refuted c.in_ok-args.args c.in_ok-args.ensures.both c.in_ok-refuted.ensures.core h.grown h.kept c.requires.below.1.0 in
    (bool_sort, subst (λ (u : CoreTree). HasTreeSort c.args.sig.now u bool_sort) (sym layer) (tt, ((c.requires.boolean.0, refl), (c.requires.boolean.1.0, tt)), refl))

pub returns-clause-core : goal.returns-clause-core
returns-clause-core c =
    let n : CoreTree = negation (term_at c.args.table.now c.args.a) in
    let h = c.in_ok-refuted.ensures.effect (n ∷ []) (Contains-first n []) in
    let layer = implied_made c.args.sig.now c.args.table.now c.negated.new.table c.args.a c.args.b c.in_ok-refuted.refuted c.in_ok-args.args c.in_ok-args.ensures.both c.in_ok-refuted.ensures.core h.grown h.kept c.requires.below.1.0 in
    IfOk-weaker c.make.result _ (λ t. Stands c.make.new.table t (implication (term_at c.args.table.now c.args.a) (term_at c.args.table.now c.args.b)))
    (λ t h. stands_as c.make.new.table t _ _ layer h) c.make.ensures.core

pub returns-clause-effect : goal.returns-clause-effect
returns-clause-effect c = λ allowed within.
    let n : CoreTree = negation (term_at c.args.table.now c.args.a) in
    let h = c.in_ok-refuted.ensures.effect (n ∷ []) (Contains-first n []) in
    let layer = implied_made c.args.sig.now c.args.table.now c.negated.new.table c.args.a c.args.b c.in_ok-refuted.refuted c.in_ok-args.args c.in_ok-args.ensures.both c.in_ok-refuted.ensures.core h.grown h.kept c.requires.below.1.0 in
    let a = term_at c.args.table.now c.args.a in
    let b = term_at c.args.table.now c.args.b in
    let theorems = c.requires.kept.theorems in
    let first = c.in_ok-refuted.ensures.effect allowed (within_itself theorems allowed (negation a) (within_disjunction allowed (negation a ∷ (b ∷ [])) within).0) in
    let second = c.make.ensures.effect allowed (subst (Contains allowed) (sym layer) (within_itself theorems allowed (implication a b) within)) in
    effect_then c.args.sig.now allowed c.args.table.now c.negated.new.table c.make.new.table _ _ first second
