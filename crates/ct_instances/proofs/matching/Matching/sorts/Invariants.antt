use Rattle.std.proofs.Common.{◌≡◌, ◌≤◌, ◌-◌, ◌++◌, List, length, map, drop, option_map, All}
use Rattle.ct_generics.specs.Expression.{Expression}
use Rattle.ct_sorts.specs.Declarations.{Declarations, IsSort}
use Rattle.ct_instances.specs.Among.{origin_of}
use Rattle.ct_instances.specs.Matching.{sorts_for}
use Rattle.ct_instances.specs.Pairs.{HoldSorts, assigned}
use Rattle.ct_instances.proofs.matching.Matching.sorts.Given as goal

abbrev pub invariant-loop-place : goal.invariant-loop-place
invariant-loop-place l =
    record {
      within : l.place ≤ length l.sorts;
      long : length l.all.items ≡ l.place;
      found : (d : Declarations) → sorts_for (assigned d l.sorts) ≡ option_map (λ (es : List Expression). map (origin_of d) l.all.items ++ es) (sorts_for (assigned d (drop l.place l.sorts)));
      inside : (d : Declarations) → HoldSorts d l.sorts → All (IsSort d) l.all.items;
    }

abbrev pub decreases-loop-place : goal.decreases-loop-place
decreases-loop-place l = length l.sorts - l.place
