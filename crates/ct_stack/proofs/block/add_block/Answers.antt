use Rattle.std.proofs.Common.{Err, ap}
use Rattle.ct_sorts.specs.declared.error.SigError.{SigError}
use Rattle.ct_sorts.specs.Block.{IsBlockRefusal}
use Rattle.ct_stack.proofs.CauseLemmas.{at_code}
use Rattle.ct_stack.proofs.block.add_block.Goals as goal

pub returns-in-Err-Refused-clause-refused : goal.returns-in-Err-Refused-clause-refused
returns-in-Err-Refused-clause-refused c =
    at_code (IsBlockRefusal c.args.sig.now c.args.kind c.args.decls.items) c.in-Err-Refused.code
    (c.in-Err-Refused.ensures.refused c.in-Err-Refused.code (ap (λ (g : SigError). Err g) c.in-Err-Refused.field-0-is))
