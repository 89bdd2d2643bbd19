use Rattle.test_reading.proofs.dump.show_generic.Goals as goal

pub show_generic_at-requires : goal.show_generic_at-requires
show_generic_at-requires c = record { generic = let found = c.in-Some.ensures.value in (found.0, found.1) }
