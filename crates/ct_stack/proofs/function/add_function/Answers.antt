use Rattle.std.proofs.Common.{◌≤◌, length}
use Rattle.ct_sorts.specs.Availability.{IsUnavailable}
use Rattle.ct_sorts.specs.Declarations.{symbol_names, most_functions}
use Rattle.ct_sorts.specs.Refusals.{IsFirstCause, IsNone, symbol_taken, too_many}
use Rattle.ct_stack.proofs.CauseLemmas.{two_causes, no_two, at_code}
use Rattle.ct_stack.proofs.function.add_function.Goals as goal

pub returns-in-Ok-clause-accepted : goal.returns-in-Ok-clause-accepted
returns-in-Ok-clause-accepted c =
    no_two symbol_taken too_many (IsUnavailable (symbol_names c.args.sig.now) c.args.name) (most_functions ≤ length c.args.sig.now.functions) _ c.in-Ok.ensures.taken c.in-Ok.ensures.full

pub returns-in-Err-Refused-clause-refused : goal.returns-in-Err-Refused-clause-refused
returns-in-Err-Refused-clause-refused c =
    at_code (IsFirstCause symbol_taken (IsUnavailable (symbol_names c.args.sig.now) c.args.name) (IsFirstCause too_many (most_functions ≤ length c.args.sig.now.functions) IsNone)) c.in-Err-Refused.code
    (two_causes symbol_taken too_many (IsUnavailable (symbol_names c.args.sig.now) c.args.name) (most_functions ≤ length c.args.sig.now.functions) c.in-Err-Refused.code c.in-Err-Refused.field-0 c.in-Err-Refused.field-0-is c.in-Err-Refused.ensures.codes c.in-Err-Refused.ensures.taken c.in-Err-Refused.ensures.full)
