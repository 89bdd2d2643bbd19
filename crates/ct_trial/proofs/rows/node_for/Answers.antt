use Rattle.ct_trial.proofs.rows.node_for.Goals as goal

pub default-requires : goal.default-requires
default-requires c = record { proper = (c.args.sig.now, c.requires.proper, c.requires.declared) }
