use Rattle.std.proofs.Common.{sym, ap, ◌∙◌}
use Rattle.std.proofs.lemmas.Option.{none-some}
use Rattle.std.specs.Map.{lookup}
use Rattle.ct_scope.specs.Values.{same_value}
use Rattle.ct_scope.proofs.values.no_value_terms.Goals as goal

pub returns : goal.returns
returns c = record { right = λ d table value t has. absurd (none-some t (sym (ap (lookup (same_value value)) c.new.ensures.empty) ∙ has)) }
