use Rattle.std.proofs.Common.{◌≡◌, ◌||◌, length}
use Rattle.std.specs.List.{list_any}
use Rattle.ct_sorts.specs.declared.ids.CtorId.{CtorId}
use Rattle.ct_formulas.specs.Compiled.{is_among}
use Rattle.ct_names.specs.Patterns.{is_of_ctor}
use Rattle.ct_check.proofs.exhaustive.ctors_of.Given as goal

abbrev pub invariant-loop-left : goal.invariant-loop-left
invariant-loop-left l = (c : CtorId) → list_any (is_of_ctor c) l.patterns ≡ (is_among l.met c || list_any (is_of_ctor c) l.left)

abbrev pub decreases-loop-left : goal.decreases-loop-left
decreases-loop-left l = length l.left
