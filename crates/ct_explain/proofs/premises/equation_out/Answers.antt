use Rattle.std.proofs.Common.{refl}
use Rattle.ct_explain.proofs.ReasonLemmas.{equation_out_known}
use Rattle.ct_explain.proofs.premises.equation_out.Goals as goal

pub returns-clause-known : goal.returns-clause-known
returns-clause-known c = λ terms l r. equation_out_known terms c.args.t l r

pub returns-clause-sides : goal.returns-clause-sides
returns-clause-sides c = λ terms r. (refl, refl)
