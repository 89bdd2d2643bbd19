use Rattle.std.proofs.Common.{◌≡◌, [], length}
use Rattle.ct_names.specs.Elaboration.{elaborated}
use Rattle.ct_check.specs.Trees.{sorted_trees}
use Rattle.ct_command.specs.Seen.{all_seen}
use Rattle.ct_stack.specs.Outcomes.{each_of}
use Rattle.ct_stack.specs.Sorts.{AreSortedTerms}
use Rattle.ct_stack.proofs.OutcomeLemmas.{Completes}
use Rattle.ct_stack.proofs.value.valued_terms.Given as goal

abbrev pub invariant-loop-left : goal.invariant-loop-left
invariant-loop-left l =
    (l.scope ≡ l.fn.scope)
    × Completes (elaborated l.fn.scope.sig []) (each_of (elaborated l.fn.scope.sig []) (all_seen l.exprs)) (sorted_trees l.trees.items l.sorts.items) (all_seen l.left)
    × AreSortedTerms l.fn.scope.sig l.trees.items l.sorts.items

abbrev pub decreases-loop-left : goal.decreases-loop-left
decreases-loop-left l = length l.left
