use Rattle.test_reading.proofs.generics.add_new_block.Goals as goal

pub returns-in-Ok : goal.returns-in-Ok
returns-in-Ok c = record { declared = let d = c.requires.declared in let own = c.in-Ok.ensures.ok d.0 d.1 in (_, own.2) }

pub returns-in-Err : goal.returns-in-Err
returns-in-Err c = record { declared = rw c.in-Err.ensures.unchanged c.requires.declared }
