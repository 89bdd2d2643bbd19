use Rattle.test_graphs.proofs.grown.extend.Goals as goal

pub extend-requires : goal.extend-requires
extend-requires c = record { earlier = (c.args.earlier.now, c.sorts.ensures.consistent, c.requires.extends, c.requires.sizes) }
