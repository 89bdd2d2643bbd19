use Rattle.ct_eval.proofs.TermLemmas.{test_truth, equality_truth, negation_truth, conjunction_truth, disjunction_truth, equivalence_truth, choice_value}
use Rattle.ct_eval.proofs.theorems.truth_values.Goals as goal

pub returns-clause-test : goal.returns-clause-test
returns-clause-test c = λ d i terms t a k s ordered at. test_truth d i terms ordered t a k s at

pub returns-clause-equality : goal.returns-clause-equality
returns-clause-equality c = λ d i terms t a b s closed ordered at.
    equality_truth d i terms ordered c.agreement.ensures.every_depth closed t a b s at

pub returns-clause-negation : goal.returns-clause-negation
returns-clause-negation c = λ d i terms t a s ordered at. negation_truth d i terms ordered t a s at

pub returns-clause-conjunction : goal.returns-clause-conjunction
returns-clause-conjunction c = λ d i terms t args s ordered at. conjunction_truth d i terms ordered t args s at

pub returns-clause-disjunction : goal.returns-clause-disjunction
returns-clause-disjunction c = λ d i terms t args s ordered at. disjunction_truth d i terms ordered t args s at

pub returns-clause-equivalence : goal.returns-clause-equivalence
returns-clause-equivalence c = λ d i terms t a b s ordered at. equivalence_truth d i terms ordered t a b s at

pub returns-clause-choice : goal.returns-clause-choice
returns-clause-choice c = λ d i terms t k a b s ordered at. choice_value d i terms ordered t k a b s at
