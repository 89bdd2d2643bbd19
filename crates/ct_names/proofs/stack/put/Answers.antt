use Rattle.ct_names.proofs.StackLemmas.{stored_position-put}
use Rattle.ct_names.proofs.stack.put.Goals as goal

pub returns-in_ok-old-in-Some-clause-put : goal.returns-in_ok-old-in-Some-clause-put
returns-in_ok-old-in-Some-clause-put c = rw c.in-Some.is (stored_position-put c.args.positions.now c.insert.new.self c.in-Some.own.now c.args.position c.in_ok-old-in-Some.ensures.updates)
