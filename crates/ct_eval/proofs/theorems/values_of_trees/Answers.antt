use Rattle.ct_eval.proofs.TreeValueLemmas.{value_of-tree}
use Rattle.ct_eval.proofs.theorems.values_of_trees.Goals as goal

pub returns : goal.returns
returns c = record { tree = λ d i terms t. value_of-tree d i terms t }
