use Rattle.ct_card.proofs.sizes.Sizes.default_value.Goals as goal

pub returns-clause-sorted : goal.returns-clause-sorted
returns-clause-sorted c = rw c.node_of_sort.ensures.value (c.in_ok-base.ensures.sorted c.args.s.0 c.requires.inside)
