use Rattle.std.proofs.Common.{◌≡◌, length, map, All}
use Rattle.ct_sorts.specs.Declarations.{IsSort}
use Rattle.ct_instances.specs.Among.{origin_of}
use Rattle.ct_instances.specs.Fields.{field_matches}
use Rattle.ct_instances.specs.Left.{fields_left, assignment_of, IsMatchingOf}
use Rattle.ct_instances.specs.Matching.{all_matched}
use Rattle.ct_instances.proofs.matched.matched_with.Given as goal

abbrev pub invariant-loop-left : goal.invariant-loop-left
invariant-loop-left l =
    record {
      generic : l.matching.g ≡ l.fn.g;
      inside : IsMatchingOf l.sig l.matching;
      sorts : All (IsSort l.sig) l.left;
      comes : field_matches l.sig l.fn.g l.fn.index l.fn.sorts ≡ all_matched (fields_left l.sig l.matching) (map (origin_of l.sig) l.left) (assignment_of l.sig l.matching);
    }

abbrev pub decreases-loop-left : goal.decreases-loop-left
decreases-loop-left l = length l.left
