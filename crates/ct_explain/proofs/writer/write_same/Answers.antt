use Rattle.std.proofs.Common.{refl}
use Rattle.ct_explain.proofs.writer.write_same.Goals as goal

pub returns-clause-grown : goal.returns-clause-grown
returns-clause-grown c = λ state inside.
    c.in_ok-number.ensures.grown state (record { names = tt; gives = λ clause before long opposes. (inside, refl, refl) })
