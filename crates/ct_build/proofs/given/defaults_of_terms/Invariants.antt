use Rattle.ct_build.specs.Chosen.{AreDefaults}
use Rattle.ct_build.proofs.given.defaults_of_terms.Given as goal

abbrev pub invariant-loop-t : goal.invariant-loop-t
invariant-loop-t l = AreDefaults l.classes l.defaults l.t l.list.items
