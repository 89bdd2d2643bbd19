use Rattle.ct_occurrence.proofs.definitions.put.Goals as goal

pub returns : goal.returns
returns c = record { only = λ j. c.in_ok-insert.ensures.updates.0 j.0 }
