use Rattle.std.proofs.Common.{refl}
use Rattle.ct_explain.proofs.ReasonLemmas.{injection_known}
use Rattle.ct_explain.proofs.premises.injection.Goals as goal

pub returns-clause-known : goal.returns-clause-known
returns-clause-known c = λ terms l r. injection_known terms c.args.a c.args.b c.args.k l r

pub returns-clause-sides : goal.returns-clause-sides
returns-clause-sides c = λ terms r. (refl, refl)
