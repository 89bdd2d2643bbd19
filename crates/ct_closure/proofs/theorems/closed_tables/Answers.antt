use Rattle.ct_closure.proofs.ClosedLemmas.{equations_present, cases_present, split_tree, split_term}
use Rattle.ct_closure.proofs.theorems.closed_tables.Goals as goal

pub returns-clause-conditionals : goal.returns-clause-conditionals
returns-clause-conditionals c = λ d table t k a b sort ordered single sorted closed at other.
    equations_present c.trees.ensures.trees d table (record { sorted = sorted; ordered = ordered; single = single }) closed t k a b sort at other

pub returns-clause-splits : goal.returns-clause-splits
returns-clause-splits c = λ d table t sort ordered single sorted closed split.
    cases_present c.trees.ensures.trees d table (record { sorted = sorted; ordered = ordered; single = single }) closed t sort split

pub returns-clause-split : goal.returns-clause-split
returns-clause-split c = λ d table t sort ordered single sorted within. (
  split_tree c.trees.ensures.trees d table (record { sorted = sorted; ordered = ordered; single = single }) t sort,
  split_term c.trees.ensures.trees d table (record { sorted = sorted; ordered = ordered; single = single }) t sort within,
)
