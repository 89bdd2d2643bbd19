use Rattle.std.proofs.Common.{option_copied, sym, ap, ◌∙◌}
use Rattle.ct_occurrence.proofs.definitions.is_known.Goals as goal

pub returns-in-Some : goal.returns-in-Some
returns-in-Some c = record { known = (c.in-Some.field-0.now, sym c.get.ensures.value ∙ ap option_copied c.in-Some.is); unknown = tt }
