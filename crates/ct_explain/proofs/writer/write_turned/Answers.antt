use Rattle.ct_explain.proofs.writer.write_turned.Goals as goal

pub returns-clause-grown : goal.returns-clause-grown
returns-clause-grown c = λ state.
    c.in_ok-number.ensures.grown state (record { names = tt; gives = λ clause before long opposes. c.requires.told before long })
