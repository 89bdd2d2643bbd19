use Rattle.ct_generics.proofs.ReachedLemmas.{stored_below}
use Rattle.ct_generics.proofs.rows.stored_rows.Goals as goal

pub rows_with-requires-clause-fields : goal.rows_with-requires-clause-fields
rows_with-requires-clause-fields c =
    let found = c.in-Some.ensures.some c.requires.stored.0 c.requires.stored.1 in
    stored_below c.in-Some.stored.now found.0 found.2
