use Rattle.test_checking.proofs.initial.show_initial.Goals as goal

pub show_lines-requires-clause-split : goal.show_lines-requires-clause-split
show_lines-requires-clause-split c =
    rw (c.deref_mut-2.ensures.value, c.in_ok-derivation.ensures.terms) c.in_ok-closure.ensures.split
