use Rattle.ct_engine.proofs.model.readable_model.Goals as goal

pub model-requires-clause-candidate : goal.model-requires-clause-candidate
model-requires-clause-candidate c = (c.args.table.now, c.args.asserts.now, c.requires.candidate)

pub returns-in-None-clause-model : goal.returns-in-None-clause-model
returns-in-None-clause-model c = c.in_ok-whole.ensures.model c.args.table.now c.args.asserts.now c.requires.candidate
