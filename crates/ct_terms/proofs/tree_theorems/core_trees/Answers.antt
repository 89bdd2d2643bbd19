use Rattle.ct_terms.proofs.CoreTreeLemmas.{term_at-unfolds, head_of_layer, children_of_layer, term_at-one, term_at-longer, term_at-stands}
use Rattle.ct_terms.proofs.CoreSortLemmas.{HasTreeSort-read, HasTreeSort-one, HasTreeSort-extends, term_at-sorted}
use Rattle.ct_terms.proofs.SubtreeLemmas.{subtrees-unfold, subterm_stands, subtrees-further, subtrees-sorted}
use Rattle.ct_terms.proofs.tree_theorems.core_trees.Goals as goal

pub returns-clause-unfolds : goal.returns-clause-unfolds
returns-clause-unfolds c = term_at-unfolds

pub returns-clause-head : goal.returns-clause-head
returns-clause-head c = head_of_layer

pub returns-clause-children : goal.returns-clause-children
returns-clause-children c = children_of_layer

pub returns-clause-one : goal.returns-clause-one
returns-clause-one c = term_at-one

pub returns-clause-stands : goal.returns-clause-stands
returns-clause-stands c = term_at-stands

pub returns-clause-longer : goal.returns-clause-longer
returns-clause-longer c = term_at-longer

pub returns-clause-read : goal.returns-clause-read
returns-clause-read c = HasTreeSort-read

pub returns-clause-one_sort : goal.returns-clause-one_sort
returns-clause-one_sort c = HasTreeSort-one

pub returns-clause-lasting : goal.returns-clause-lasting
returns-clause-lasting c = λ later earlier t sort extends h. HasTreeSort-extends later earlier extends t sort h

pub returns-clause-sorted : goal.returns-clause-sorted
returns-clause-sorted c = term_at-sorted

pub returns-clause-subterms : goal.returns-clause-subterms
returns-clause-subterms c = subtrees-unfold

pub returns-clause-subterms_stand : goal.returns-clause-subterms_stand
returns-clause-subterms_stand c = λ table t s ordered within h. subterm_stands table ordered t s within h

pub returns-clause-subterms_of_subterms : goal.returns-clause-subterms_of_subterms
returns-clause-subterms_of_subterms c = subtrees-further

pub returns-clause-subterms_sorted : goal.returns-clause-subterms_sorted
returns-clause-subterms_sorted c = subtrees-sorted
