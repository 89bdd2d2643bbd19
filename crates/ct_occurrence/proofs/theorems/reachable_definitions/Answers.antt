use Rattle.std.proofs.Common.{false}
use Rattle.ct_values.specs.TruthValue.{truth}
use Rattle.ct_terms.specs.CoreTree.{no_term}
use Rattle.ct_formulas.specs.Compiled.{compiled}
use Rattle.ct_meaning.specs.Meaning.{meaning}
use Rattle.ct_occurrence.specs.Reach.{CanReach}
use Rattle.ct_occurrence.proofs.ReachLemmas.{CanReach-named, CanReach-closed, CanReach-least}
use Rattle.ct_occurrence.proofs.CallLemmas.{reading_same}
use Rattle.ct_occurrence.proofs.MeaningLemmas.{meaning_sees_named}
use Rattle.ct_occurrence.proofs.CoreLemmas.{compiled_sees_named}
use Rattle.ct_occurrence.proofs.theorems.reachable_definitions.Goals as goal

pub returns-clause-named : goal.returns-clause-named
returns-clause-named c = CanReach-named

pub returns-clause-closed : goal.returns-clause-closed
returns-clause-closed c = CanReach-closed

pub returns-clause-least : goal.returns-clause-least
returns-clause-least c = CanReach-least

pub returns-clause-meaning : goal.returns-clause-meaning
returns-clause-meaning c = λ d i bodies others env t same.
    reading_same (meaning d i) (truth false) (CanReach bodies t) (meaning_sees_named d i (CanReach bodies t)) bodies others (λ k body. CanReach-closed bodies t body k) same t env (CanReach-named bodies t)

pub returns-clause-core_term : goal.returns-clause-core_term
returns-clause-core_term c = λ d bodies others env t same.
    reading_same (compiled d) no_term (CanReach bodies t) (compiled_sees_named d (CanReach bodies t)) bodies others (λ k body. CanReach-closed bodies t body k) same t env (CanReach-named bodies t)
