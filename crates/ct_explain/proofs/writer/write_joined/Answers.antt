use Rattle.ct_explain.proofs.writer.write_joined.Goals as goal

pub returns-clause-grown : goal.returns-clause-grown
returns-clause-grown c = λ state.
    c.in_ok-number.ensures.grown state (record { names = tt; gives = λ clause before long opposes. (c.args.middle, c.requires.first before long, c.requires.second before long) })
