use Rattle.std.proofs.Common.{◌≡◌, map, take}
use Rattle.ct_core.specs.Sweep.{place_in}
use Rattle.ct_core.proofs.renumbering.renumber_hints.Given as goal

abbrev pub invariant-loop-hint : goal.invariant-loop-hint
invariant-loop-hint l = l.renumbered.items ≡ map (place_in l.places) (take l.hint-index l.hints)
