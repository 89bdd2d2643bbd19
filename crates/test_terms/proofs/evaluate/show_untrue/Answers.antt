use Rattle.test_terms.proofs.evaluate.show_untrue.Goals as goal

pub holds-requires-clause-booleans : goal.holds-requires-clause-booleans
holds-requires-clause-booleans c = c.are_boolean.ensures.boolean c.if-not-are_boolean.false
