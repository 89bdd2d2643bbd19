use Rattle.ct_theory.proofs.telling.planted_of.Goals as goal

pub returns : goal.returns
returns c = record { forest = c.kept_forests.ensures.all c.args.classes.now c.in_ok-forest.forest c.in_ok-forest.ensures.forest }
