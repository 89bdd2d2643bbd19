use Rattle.std.proofs.Common.{refl}
use Rattle.ct_explain.proofs.ReasonLemmas.{expansion_known}
use Rattle.ct_explain.proofs.premises.expansion.Goals as goal

pub returns-clause-known : goal.returns-clause-known
returns-clause-known c = λ terms l r. expansion_known terms c.args.t c.args.c l r

pub returns-clause-sides : goal.returns-clause-sides
returns-clause-sides c = λ terms r. (refl, refl)
