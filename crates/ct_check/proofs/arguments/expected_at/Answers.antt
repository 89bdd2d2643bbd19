use Rattle.std.proofs.Common.{subst}
use Rattle.ct_check.specs.Heads.{IsHeadDeclared}
use Rattle.ct_check.proofs.arguments.expected_at.Goals as goal

pub returns-in-Part-clause-inside : goal.returns-in-Part-clause-inside
returns-in-Part-clause-inside c = c.expected_by.ensures.inside c.args.sig.now (subst (IsHeadDeclared c.args.sig.now) c.in-Part.is c.requires.declared)
