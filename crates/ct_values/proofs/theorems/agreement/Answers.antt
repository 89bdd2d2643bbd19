use Rattle.ct_values.proofs.AgreeLemmas.{agree_equiv, agree-falls, agree-zero, agree-suc, AgreeAlways-parts, AgreeAlways-refl, AgreeAlways-sym, AgreeAlways-trans}
use Rattle.ct_values.proofs.GraphLemmas.{agree-grown}
use Rattle.ct_values.proofs.DepthLemmas.{every_depth, same-parts}
use Rattle.ct_values.proofs.RepresentativeLemmas.{AgreeAlways-grown}
use Rattle.ct_values.proofs.theorems.agreement.Goals as goal

pub returns-clause-start : goal.returns-clause-start
returns-clause-start c = agree-zero

pub returns-clause-step : goal.returns-clause-step
returns-clause-step c = agree-suc

pub returns-clause-equivalence : goal.returns-clause-equivalence
returns-clause-equivalence c = agree_equiv

pub returns-clause-falling : goal.returns-clause-falling
returns-clause-falling c = agree-falls

pub returns-clause-every_depth : goal.returns-clause-every_depth
returns-clause-every_depth c = every_depth

pub returns-clause-parts : goal.returns-clause-parts
returns-clause-parts c = same-parts

pub returns-clause-grown : goal.returns-clause-grown
returns-clause-grown c = agree-grown

pub returns-clause-itself : goal.returns-clause-itself
returns-clause-itself c = AgreeAlways-refl

pub returns-clause-turned : goal.returns-clause-turned
returns-clause-turned c = AgreeAlways-sym

pub returns-clause-chained : goal.returns-clause-chained
returns-clause-chained c = AgreeAlways-trans

pub returns-clause-always : goal.returns-clause-always
returns-clause-always c = AgreeAlways-parts

pub returns-clause-always_grown : goal.returns-clause-always_grown
returns-clause-always_grown c = AgreeAlways-grown
