use Rattle.std.proofs.Common.{sym, ◌∙◌}
use Rattle.ct_names.proofs.PlaceLemmas.{parameter_is}
use Rattle.ct_names.proofs.sorts.parameter_at.Goals as goal

pub returns-in-Some : goal.returns-in-Some
returns-in-Some c = record { value = sym c.in-Some.is ∙ c.first_named.ensures.value ∙ parameter_is c.args.params.now c.args.name.now }

pub returns-in-None : goal.returns-in-None
returns-in-None c = record { value = sym c.in-None.is ∙ c.first_named.ensures.value ∙ parameter_is c.args.params.now c.args.name.now }
