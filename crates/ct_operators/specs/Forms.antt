-- Formulas without binders: the formulas under one, and its core term over theirs.
use Rattle.std.specs.Prelude.{◌≡◌, ◌<◌, List, [], ◌∷◌, length}
use Rattle.std.specs.List.{AllByRecursion}
use Rattle.ct_sorts.specs.declared.ids.SortId.{SortId}
use Rattle.ct_sorts.specs.Declarations.{Declarations, bool_sort}
use Rattle.ct_terms.specs.CoreTree.{CoreTree, con, sel, test, apply, negation, trees_of, no_term}
use Rattle.ct_terms.specs.CoreSorts.{HasTreeSort}
use Rattle.ct_formulas.specs.Formula.{Formula, Con, Sel, Test, Apply, Not, And, Or, Xor, Implies, Equal, Distinct}
use Rattle.ct_operators.specs.declared.operator.Operator.{Operator}
use Rattle.ct_operators.specs.declared.operator.Operator.TheVariants.{Construct, Select, Inspect, Call, Negation, Conjunction, Disjunction, Exclusion, Implication, Equality, Inequality}
use Rattle.ct_formulas.specs.Pairs.{neighbours, pairs}
use Rattle.ct_formulas.specs.Compiled.{all_of, any_of, exclusive_of, implication_of, implied_from, equality, inequality}

-- the first of the terms
abbrev pub head_tree : List CoreTree → CoreTree
head_tree [] = no_term
head_tree (u ∷ us) = u

-- the operator of the formula, where it is one
abbrev pub operator_for : Formula → Operator
operator_for (Con c ts) = Construct c
operator_for (Sel s t) = Select s
operator_for (Test c t) = Inspect c
operator_for (Apply f ts) = Call f
operator_for (Not t) = Negation
operator_for (And ts) = Conjunction
operator_for (Or ts) = Disjunction
operator_for (Xor ts) = Exclusion
operator_for (Implies ts) = Implication
operator_for (Equal ts) = Equality
operator_for (Distinct ts) = Inequality
operator_for _ = Negation

-- its core term over those of the formulas under it
abbrev pub combined : Declarations → Operator → List CoreTree → CoreTree
combined d (Construct c) us = con c (trees_of us)
combined d (Select s) us = sel s (head_tree us)
combined d (Inspect c) us = test c (head_tree us)
combined d (Call f) us = apply f (trees_of us)
combined d Negation us = negation (head_tree us)
combined d Conjunction us = all_of us
combined d Disjunction us = any_of us
combined d Exclusion us = exclusive_of us
combined d Implication us = implication_of us
combined d Equality us = all_of (neighbours (equality d) us)
combined d Inequality us = all_of (pairs (inequality d) us)

-- that the first of two implies the second
abbrev pub implication : CoreTree → CoreTree → CoreTree
implication a b = implied_from a (b ∷ [])

-- every term has this sort
abbrev pub AllHaveSort : Declarations → SortId → List CoreTree → Type 0
AllHaveSort d side us = AllByRecursion (λ u. HasTreeSort d u side) us

-- the terms are operands of the operator
abbrev pub AreOperands : Declarations → Operator → List CoreTree → Type 0
AreOperands d (Construct c) us = (sort : SortId) × HasTreeSort d (con c (trees_of us)) sort
AreOperands d (Select s) us = (0 < length us) × ((u : CoreTree) × (us ≡ u ∷ []) × ((sort : SortId) × HasTreeSort d (sel s u) sort))
AreOperands d (Inspect c) us = (0 < length us) × ((u : CoreTree) × (us ≡ u ∷ []) × ((sort : SortId) × HasTreeSort d (test c u) sort))
AreOperands d (Call f) us = (sort : SortId) × HasTreeSort d (apply f (trees_of us)) sort
AreOperands d Negation us = (0 < length us) × ((u : CoreTree) × (us ≡ u ∷ []) × HasTreeSort d u bool_sort)
AreOperands d Conjunction us = (0 < length us) × AllHaveSort d bool_sort us
AreOperands d Disjunction us = (0 < length us) × AllHaveSort d bool_sort us
AreOperands d Exclusion us = (0 < length us) × AllHaveSort d bool_sort us
AreOperands d Implication us = (0 < length us) × AllHaveSort d bool_sort us
AreOperands d Equality us = (side : SortId) × (1 < length us) × AllHaveSort d side us
AreOperands d Inequality us = (side : SortId) × (1 < length us) × AllHaveSort d side us
