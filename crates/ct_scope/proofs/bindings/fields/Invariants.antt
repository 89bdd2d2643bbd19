use Rattle.std.proofs.Common.{◌≡◌, ◌++◌, length, map}
use Rattle.ct_scope.specs.Matching.{bound_field}
use Rattle.ct_scope.proofs.bindings.fields.Given as goal

abbrev pub invariant-loop-rest : goal.invariant-loop-rest
invariant-loop-rest l = l.bounds.items ++ map (bound_field l.matched) l.rest ≡ map (bound_field l.matched) l.sels

abbrev pub decreases-loop-rest : goal.decreases-loop-rest
decreases-loop-rest l = length l.rest
