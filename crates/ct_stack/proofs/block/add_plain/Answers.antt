use Rattle.std.proofs.Common.{◌≤◌}
use Rattle.ct_sorts.specs.Availability.{IsUnavailableSort}
use Rattle.ct_sorts.specs.Declarations.{declared_names, most_sorts}
use Rattle.ct_sorts.specs.Limits.{sort_count}
use Rattle.ct_sorts.specs.Refusals.{name_taken, too_many}
use Rattle.ct_stack.specs.Refusal.{IsSortRefusal}
use Rattle.ct_stack.proofs.CauseLemmas.{two_causes, no_two, at_code}
use Rattle.ct_stack.proofs.block.add_plain.Goals as goal

pub returns-in-Ok-clause-ok : goal.returns-in-Ok-clause-ok
returns-in-Ok-clause-ok c = c.in-Ok.ensures.ok.1

pub returns-in-Ok-clause-accepted : goal.returns-in-Ok-clause-accepted
returns-in-Ok-clause-accepted c =
    let d = c.args.sig.now in
    no_two name_taken too_many (IsUnavailableSort (declared_names d) c.args.name) (most_sorts ≤ sort_count d) _ c.in-Ok.ensures.taken c.in-Ok.ensures.full

pub returns-in-Err-Refused-clause-refused : goal.returns-in-Err-Refused-clause-refused
returns-in-Err-Refused-clause-refused c =
    let d = c.args.sig.now in
    at_code (IsSortRefusal d c.args.name) c.in-Err-Refused.code
    (two_causes name_taken too_many (IsUnavailableSort (declared_names d) c.args.name) (most_sorts ≤ sort_count d) c.in-Err-Refused.code c.in-Err-Refused.field-0 c.in-Err-Refused.field-0-is c.in-Err-Refused.ensures.codes c.in-Err-Refused.ensures.taken c.in-Err-Refused.ensures.full)
