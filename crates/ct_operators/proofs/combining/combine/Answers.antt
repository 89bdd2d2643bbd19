use Rattle.std.proofs.Common.{◌<◌, List, Contains, length, map, sym, ap, subst, ◌∙◌, arith}
use Rattle.std.specs.List.{AllByRecursion}
use Rattle.std.proofs.lemmas.Result.{IfOk-weaker}
use Rattle.ct_sorts.specs.declared.ids.SortId.{SortId}
use Rattle.ct_sorts.specs.Declarations.{bool_sort}
use Rattle.ct_terms.specs.declared.ids.TermId.{TermId}
use Rattle.ct_terms.specs.CoreTree.{CoreTree, sel, test, negation, term_at}
use Rattle.ct_terms.specs.CoreSorts.{HasTreeSort}
use Rattle.ct_formulas.specs.Pairs.{neighbours, pairs}
use Rattle.ct_formulas.specs.Compiled.{all_of, exclusive_of, implication_of, equality, inequality}
use Rattle.ct_operators.specs.declared.operator.Operator.{Operator}
use Rattle.ct_operators.specs.declared.operator.Operator.TheVariants.{Construct, Select, Inspect, Call, Negation, Conjunction, Disjunction, Exclusion, Implication, Equality, Inequality}
use Rattle.ct_operators.specs.Effect.{Stands, Within}
use Rattle.ct_operators.specs.Made.{MakesInOrder, leaf, made_by}
use Rattle.ct_operators.specs.Forms.{combined, AllHaveSort, AreOperands}
use Rattle.ct_operators.proofs.WithinLemmas.{within_itself}
use Rattle.ct_operators.proofs.OperatorLemmas.{stands_as}
use Rattle.ct_operators.proofs.OperandLemmas.{sorts_of_terms, conjunction_sorted, disjunction_sorted, map_length, first_tree, first_below, first_operand}
use Rattle.ct_operators.proofs.combining.combine.Goals as goal

pub returns-in-Construct-clause-effect : goal.returns-in-Construct-clause-effect
returns-in-Construct-clause-effect c = λ allowed w.
    let d = c.args.sig.now in
    let f = term_at c.args.table.now in
    let us = map f c.args.args in
    let inside : Within allowed (combined d (Construct c.in-Construct.c) us) = subst (λ (x : Operator). Within allowed (combined d x us)) c.in-Construct.is w in
    c.make.ensures.effect allowed (within_itself c.requires.kept.theorems allowed _ inside)

pub returns-in-Call-clause-effect : goal.returns-in-Call-clause-effect
returns-in-Call-clause-effect c = λ allowed w.
    let d = c.args.sig.now in
    let f = term_at c.args.table.now in
    let us = map f c.args.args in
    let inside : Within allowed (combined d (Call c.in-Call.f) us) = subst (λ (x : Operator). Within allowed (combined d x us)) c.in-Call.is w in
    c.make-in-Call.ensures.effect allowed (within_itself c.requires.kept.theorems allowed _ inside)

pub all_of-requires-clause-sorted : goal.all_of-requires-clause-sorted
all_of-requires-clause-sorted c =
    let d = c.args.sig.now in
    let f = term_at c.args.table.now in
    let us = map f c.args.args in
    let o : AreOperands d Conjunction us = subst (λ (x : Operator). AreOperands d x us) c.in-Conjunction.is c.requires.operands in
    (bool_sort, conjunction_sorted d us o.0 o.1)

pub returns-in-Conjunction-clause-effect : goal.returns-in-Conjunction-clause-effect
returns-in-Conjunction-clause-effect c = λ allowed w.
    let d = c.args.sig.now in
    let f = term_at c.args.table.now in
    let us = map f c.args.args in
    let inside : Within allowed (combined d Conjunction us) = subst (λ (x : Operator). Within allowed (combined d x us)) c.in-Conjunction.is w in
    c.all_of.ensures.effect allowed inside

pub any_of-requires-clause-sorted : goal.any_of-requires-clause-sorted
any_of-requires-clause-sorted c =
    let d = c.args.sig.now in
    let f = term_at c.args.table.now in
    let us = map f c.args.args in
    let o : AreOperands d Disjunction us = subst (λ (x : Operator). AreOperands d x us) c.in-Disjunction.is c.requires.operands in
    (bool_sort, disjunction_sorted d us o.0 o.1)

pub returns-in-Disjunction-clause-effect : goal.returns-in-Disjunction-clause-effect
returns-in-Disjunction-clause-effect c = λ allowed w.
    let d = c.args.sig.now in
    let f = term_at c.args.table.now in
    let us = map f c.args.args in
    let inside : Within allowed (combined d Disjunction us) = subst (λ (x : Operator). Within allowed (combined d x us)) c.in-Disjunction.is w in
    c.any_of.ensures.effect allowed inside

pub exclusive_of_all-requires-clause-operands : goal.exclusive_of_all-requires-clause-operands
exclusive_of_all-requires-clause-operands c =
    let d = c.args.sig.now in
    let f = term_at c.args.table.now in
    let us = map f c.args.args in
    let o : AreOperands d Exclusion us = subst (λ (x : Operator). AreOperands d x us) c.in-Exclusion.is c.requires.operands in
    subst (λ (ts : List TermId). (0 < length ts) × AllByRecursion (λ t. HasTreeSort d (f t) bool_sort) ts) (sym c.as_slice.ensures.value)
    (omega (arith, o.0, map_length f c.args.args), sorts_of_terms d bool_sort f c.args.args o.1)

pub returns-in-Exclusion-clause-effect : goal.returns-in-Exclusion-clause-effect
returns-in-Exclusion-clause-effect c = λ allowed w.
    let d = c.args.sig.now in
    let f = term_at c.args.table.now in
    let us = map f c.args.args in
    let inside : Within allowed (combined d Exclusion us) = subst (λ (x : Operator). Within allowed (combined d x us)) c.in-Exclusion.is w in
    c.exclusive_of_all.ensures.effect allowed (subst (λ (ts : List TermId). Within allowed (exclusive_of (map f ts))) (sym c.as_slice.ensures.value) inside)

pub implication_of-requires-clause-operands : goal.implication_of-requires-clause-operands
implication_of-requires-clause-operands c =
    let d = c.args.sig.now in
    let f = term_at c.args.table.now in
    let us = map f c.args.args in
    let o : AreOperands d Implication us = subst (λ (x : Operator). AreOperands d x us) c.in-Implication.is c.requires.operands in
    subst (λ (ts : List TermId). (0 < length ts) × AllHaveSort d bool_sort (map f ts)) (sym c.as_slice-in-Implication.ensures.value)
    (omega (arith, o.0, map_length f c.args.args), o.1)

pub returns-in-Implication-clause-effect : goal.returns-in-Implication-clause-effect
returns-in-Implication-clause-effect c = λ allowed w.
    let d = c.args.sig.now in
    let f = term_at c.args.table.now in
    let us = map f c.args.args in
    let inside : Within allowed (combined d Implication us) = subst (λ (x : Operator). Within allowed (combined d x us)) c.in-Implication.is w in
    c.implication_of.ensures.effect allowed (subst (λ (ts : List TermId). Within allowed (implication_of (map f ts))) (sym c.as_slice-in-Implication.ensures.value) inside)

pub equal_of-requires-clause-operands : goal.equal_of-requires-clause-operands
equal_of-requires-clause-operands c =
    let d = c.args.sig.now in
    let f = term_at c.args.table.now in
    let us = map f c.args.args in
    let o : AreOperands d Equality us = subst (λ (x : Operator). AreOperands d x us) c.in-Equality.is c.requires.operands in
    subst (λ (ts : List TermId). (side : SortId) × (1 < length ts) × AllHaveSort d side (map f ts)) (sym c.as_slice-in-Equality.ensures.value)
    (o.0, omega (arith, o.1, map_length f c.args.args), o.2)

pub returns-in-Equality-clause-effect : goal.returns-in-Equality-clause-effect
returns-in-Equality-clause-effect c = λ allowed w.
    let d = c.args.sig.now in
    let f = term_at c.args.table.now in
    let us = map f c.args.args in
    let inside : Within allowed (combined d Equality us) = subst (λ (x : Operator). Within allowed (combined d x us)) c.in-Equality.is w in
    c.equal_of.ensures.effect allowed (subst (λ (ts : List TermId). Within allowed (all_of (neighbours (equality d) (map f ts)))) (sym c.as_slice-in-Equality.ensures.value) inside)

pub distinct_of-requires-clause-operands : goal.distinct_of-requires-clause-operands
distinct_of-requires-clause-operands c =
    let d = c.args.sig.now in
    let f = term_at c.args.table.now in
    let us = map f c.args.args in
    let o : AreOperands d Inequality us = subst (λ (x : Operator). AreOperands d x us) c.in-Inequality.is c.requires.operands in
    subst (λ (ts : List TermId). (side : SortId) × (1 < length ts) × AllHaveSort d side (map f ts)) (sym c.as_slice-in-Inequality.ensures.value)
    (o.0, omega (arith, o.1, map_length f c.args.args), o.2)

pub returns-in-Inequality-clause-effect : goal.returns-in-Inequality-clause-effect
returns-in-Inequality-clause-effect c = λ allowed w.
    let d = c.args.sig.now in
    let f = term_at c.args.table.now in
    let us = map f c.args.args in
    let inside : Within allowed (combined d Inequality us) = subst (λ (x : Operator). Within allowed (combined d x us)) c.in-Inequality.is w in
    c.distinct_of.ensures.effect allowed (subst (λ (ts : List TermId). Within allowed (all_of (pairs (inequality d) (map f ts)))) (sym c.as_slice-in-Inequality.ensures.value) inside)

pub first-requires : goal.first-requires
first-requires c =
    let d = c.args.sig.now in
    let f = term_at c.args.table.now in
    let us = map f c.args.args in
    let o : AreOperands d (Select c.in-Select.s) us = subst (λ (x : Operator). AreOperands d x us) c.in-Select.is c.requires.operands in
    record { some = omega (arith, o.0, map_length f c.args.args) }

pub make-requires-in-Select-clause-below : goal.make-requires-in-Select-clause-below
make-requires-in-Select-clause-below c =
    (first_below (length c.args.table.now) c.args.args c.first.result _ c.first.ensures.value c.requires.below, tt)

pub make-requires-in-Select-clause-sorted : goal.make-requires-in-Select-clause-sorted
make-requires-in-Select-clause-sorted c =
    let d = c.args.sig.now in
    let f = term_at c.args.table.now in
    let us = map f c.args.args in
    let o : AreOperands d (Select c.in-Select.s) us = subst (λ (x : Operator). AreOperands d x us) c.in-Select.is c.requires.operands in
    let is = first_operand us o.1.0 o.1.1 ∙ first_tree f c.args.args c.first.result _ c.first.ensures.value in
    (o.1.2.0, subst (λ (u : CoreTree). HasTreeSort d (sel c.in-Select.s u) o.1.2.0) is o.1.2.1)

pub returns-in-Select-clause-core : goal.returns-in-Select-clause-core
returns-in-Select-clause-core c =
    let d = c.args.sig.now in
    let f = term_at c.args.table.now in
    let us = map f c.args.args in
    let is = ap (sel c.in-Select.s) (sym (first_tree f c.args.args c.first.result _ c.first.ensures.value)) in
    let whole = ap (λ (x : Operator). combined d x us) (sym c.in-Select.is) in
    IfOk-weaker c.make-in-Select.result _ (λ t. Stands c.make-in-Select.new.table t (combined d c.args.operator us)) (λ t h. stands_as c.make-in-Select.new.table t _ _ (is ∙ whole) h) c.make-in-Select.ensures.core

pub returns-in-Select-clause-effect : goal.returns-in-Select-clause-effect
returns-in-Select-clause-effect c = λ allowed w.
    let d = c.args.sig.now in
    let f = term_at c.args.table.now in
    let us = map f c.args.args in
    let inside : Within allowed (combined d (Select c.in-Select.s) us) = subst (λ (x : Operator). Within allowed (combined d x us)) c.in-Select.is w in
    c.make-in-Select.ensures.effect allowed (subst (λ (u : CoreTree). Contains allowed (sel c.in-Select.s u)) (first_tree f c.args.args c.first.result _ c.first.ensures.value) (within_itself c.requires.kept.theorems allowed _ inside))

pub first-requires-in-Inspect : goal.first-requires-in-Inspect
first-requires-in-Inspect c =
    let d = c.args.sig.now in
    let f = term_at c.args.table.now in
    let us = map f c.args.args in
    let o : AreOperands d (Inspect c.in-Inspect.c) us = subst (λ (x : Operator). AreOperands d x us) c.in-Inspect.is c.requires.operands in
    record { some = omega (arith, o.0, map_length f c.args.args) }

pub make-requires-in-Inspect-clause-below : goal.make-requires-in-Inspect-clause-below
make-requires-in-Inspect-clause-below c =
    (first_below (length c.args.table.now) c.args.args c.first-in-Inspect.result _ c.first-in-Inspect.ensures.value c.requires.below, tt)

pub make-requires-in-Inspect-clause-sorted : goal.make-requires-in-Inspect-clause-sorted
make-requires-in-Inspect-clause-sorted c =
    let d = c.args.sig.now in
    let f = term_at c.args.table.now in
    let us = map f c.args.args in
    let o : AreOperands d (Inspect c.in-Inspect.c) us = subst (λ (x : Operator). AreOperands d x us) c.in-Inspect.is c.requires.operands in
    let is = first_operand us o.1.0 o.1.1 ∙ first_tree f c.args.args c.first-in-Inspect.result _ c.first-in-Inspect.ensures.value in
    (o.1.2.0, subst (λ (u : CoreTree). HasTreeSort d (test c.in-Inspect.c u) o.1.2.0) is o.1.2.1)

pub returns-in-Inspect-clause-core : goal.returns-in-Inspect-clause-core
returns-in-Inspect-clause-core c =
    let d = c.args.sig.now in
    let f = term_at c.args.table.now in
    let us = map f c.args.args in
    let is = ap (test c.in-Inspect.c) (sym (first_tree f c.args.args c.first-in-Inspect.result _ c.first-in-Inspect.ensures.value)) in
    let whole = ap (λ (x : Operator). combined d x us) (sym c.in-Inspect.is) in
    IfOk-weaker c.make-in-Inspect.result _ (λ t. Stands c.make-in-Inspect.new.table t (combined d c.args.operator us)) (λ t h. stands_as c.make-in-Inspect.new.table t _ _ (is ∙ whole) h) c.make-in-Inspect.ensures.core

pub returns-in-Inspect-clause-effect : goal.returns-in-Inspect-clause-effect
returns-in-Inspect-clause-effect c = λ allowed w.
    let d = c.args.sig.now in
    let f = term_at c.args.table.now in
    let us = map f c.args.args in
    let inside : Within allowed (combined d (Inspect c.in-Inspect.c) us) = subst (λ (x : Operator). Within allowed (combined d x us)) c.in-Inspect.is w in
    c.make-in-Inspect.ensures.effect allowed (subst (λ (u : CoreTree). Contains allowed (test c.in-Inspect.c u)) (first_tree f c.args.args c.first-in-Inspect.result _ c.first-in-Inspect.ensures.value) (within_itself c.requires.kept.theorems allowed _ inside))

pub first-requires-in-Negation : goal.first-requires-in-Negation
first-requires-in-Negation c =
    let d = c.args.sig.now in
    let f = term_at c.args.table.now in
    let us = map f c.args.args in
    let o : AreOperands d Negation us = subst (λ (x : Operator). AreOperands d x us) c.in-Negation.is c.requires.operands in
    record { some = omega (arith, o.0, map_length f c.args.args) }

pub negated-requires-clause-below : goal.negated-requires-clause-below
negated-requires-clause-below c =
    first_below (length c.args.table.now) c.args.args c.first-in-Negation.result _ c.first-in-Negation.ensures.value c.requires.below

pub negated-requires-clause-boolean : goal.negated-requires-clause-boolean
negated-requires-clause-boolean c =
    let d = c.args.sig.now in
    let f = term_at c.args.table.now in
    let us = map f c.args.args in
    let o : AreOperands d Negation us = subst (λ (x : Operator). AreOperands d x us) c.in-Negation.is c.requires.operands in
    subst (λ (u : CoreTree). HasTreeSort d u bool_sort) (first_operand us o.1.0 o.1.1 ∙ first_tree f c.args.args c.first-in-Negation.result _ c.first-in-Negation.ensures.value) o.1.2

pub returns-in-Negation-clause-core : goal.returns-in-Negation-clause-core
returns-in-Negation-clause-core c =
    let d = c.args.sig.now in
    let f = term_at c.args.table.now in
    let us = map f c.args.args in
    let is = ap negation (sym (first_tree f c.args.args c.first-in-Negation.result _ c.first-in-Negation.ensures.value)) in
    let whole = ap (λ (x : Operator). combined d x us) (sym c.in-Negation.is) in
    IfOk-weaker c.negated.result _ (λ t. Stands c.negated.new.table t (combined d c.args.operator us)) (λ t h. stands_as c.negated.new.table t _ _ (is ∙ whole) h) c.negated.ensures.core

pub returns-in-Negation-clause-effect : goal.returns-in-Negation-clause-effect
returns-in-Negation-clause-effect c = λ allowed w.
    let d = c.args.sig.now in
    let f = term_at c.args.table.now in
    let us = map f c.args.args in
    let inside : Within allowed (combined d Negation us) = subst (λ (x : Operator). Within allowed (combined d x us)) c.in-Negation.is w in
    c.negated.ensures.effect allowed (subst (λ (u : CoreTree). Contains allowed (negation u)) (first_tree f c.args.args c.first-in-Negation.result _ c.first-in-Negation.ensures.value) (within_itself c.requires.kept.theorems allowed _ inside))

pub returns-in-Inequality-clause-order : goal.returns-in-Inequality-clause-order
returns-in-Inequality-clause-order c = λ e.
    let d = c.args.sig.now in
    let f = term_at c.args.table.now in
    IfOk-weaker c.distinct_of.result _ (λ t. MakesInOrder c.args.table.now (made_by d Inequality (map leaf (map f c.args.args))).making c.distinct_of.new.table)
    (λ t h. subst (λ (ts : List TermId). MakesInOrder c.args.table.now (made_by d Inequality (map leaf (map f ts))).making c.distinct_of.new.table) c.as_slice-in-Inequality.ensures.value h)
    c.distinct_of.ensures.order
