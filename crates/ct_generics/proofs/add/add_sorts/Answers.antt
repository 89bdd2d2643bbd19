use Rattle.ct_generics.proofs.add.add_sorts.Goals as goal

pub returns-in-Err-clause-refused : goal.returns-in-Err-clause-refused
returns-in-Err-clause-refused c n d before es added err is sorts stand = c.in-Err.ensures.refused n d.heads before es added err (rw c.as_slice.ensures.value is.stored) sorts stand
