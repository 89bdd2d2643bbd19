use Rattle.std.proofs.Common.{Contains, sym, subst}
use Rattle.std.proofs.lemmas.Result.{IfOk-weaker}
use Rattle.ct_sorts.specs.Declarations.{bool_sort}
use Rattle.ct_terms.specs.CoreTree.{term_at}
use Rattle.ct_formulas.specs.Compiled.{equality as equality_of}
use Rattle.ct_operators.specs.Effect.{Stands}
use Rattle.ct_operators.proofs.OperatorLemmas.{stands_as, equality_of_bool, equality_of_other, equivalence_sorted, equation_sorted}
use Rattle.ct_operators.proofs.operators.equality.Goals as goal

pub make-requires-clause-sorted : goal.make-requires-clause-sorted
make-requires-clause-sorted c =
    (bool_sort, equivalence_sorted c.args.sig.now c.args.table.now c.requires.kept c.args.a c.args.b c.requires.one_sort.0 c.sort.result c.sort.ensures.value c.requires.one_sort.1 c.if-sort-eq0.true)

pub make-requires-else-sort-eq0-clause-sorted : goal.make-requires-else-sort-eq0-clause-sorted
make-requires-else-sort-eq0-clause-sorted c =
    (bool_sort, equation_sorted c.args.sig.now c.args.table.now c.requires.kept c.args.a c.args.b c.requires.one_sort.0 c.sort.result c.sort.ensures.value c.requires.one_sort.1 c.if-sort-eq0.false)

pub returns-then-sort-eq0-clause-core : goal.returns-then-sort-eq0-clause-core
returns-then-sort-eq0-clause-core c =
    let is = equality_of_bool c.args.sig.now c.args.table.now c.requires.kept c.args.a c.args.b c.sort.result c.sort.ensures.value c.if-sort-eq0.true in
    IfOk-weaker c.make.result _ (λ t. Stands c.make.new.table t (equality_of c.args.sig.now (term_at c.args.table.now c.args.a) (term_at c.args.table.now c.args.b)))
    (λ t h. stands_as c.make.new.table t _ _ (sym is) h) c.make.ensures.core

pub returns-then-sort-eq0-clause-effect : goal.returns-then-sort-eq0-clause-effect
returns-then-sort-eq0-clause-effect c = λ allowed inside.
    let is = equality_of_bool c.args.sig.now c.args.table.now c.requires.kept c.args.a c.args.b c.sort.result c.sort.ensures.value c.if-sort-eq0.true in
    c.make.ensures.effect allowed (subst (Contains allowed) is inside)

pub returns-else-sort-eq0-clause-core : goal.returns-else-sort-eq0-clause-core
returns-else-sort-eq0-clause-core c =
    let is = equality_of_other c.args.sig.now c.args.table.now c.requires.kept c.args.a c.args.b c.sort.result c.sort.ensures.value c.if-sort-eq0.false in
    IfOk-weaker c.make-else-sort-eq0.result _ (λ t. Stands c.make-else-sort-eq0.new.table t (equality_of c.args.sig.now (term_at c.args.table.now c.args.a) (term_at c.args.table.now c.args.b)))
    (λ t h. stands_as c.make-else-sort-eq0.new.table t _ _ (sym is) h) c.make-else-sort-eq0.ensures.core

pub returns-else-sort-eq0-clause-effect : goal.returns-else-sort-eq0-clause-effect
returns-else-sort-eq0-clause-effect c = λ allowed inside.
    let is = equality_of_other c.args.sig.now c.args.table.now c.requires.kept c.args.a c.args.b c.sort.result c.sort.ensures.value c.if-sort-eq0.false in
    c.make-else-sort-eq0.ensures.effect allowed (subst (Contains allowed) is inside)
