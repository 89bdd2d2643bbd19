use Rattle.ct_names.proofs.StackLemmas.{IsStack-pop}
use Rattle.ct_names.proofs.stack.Variables.pop.Goals as goal

pub invariant_of-self-2 : goal.invariant_of-self-2
invariant_of-self-2 c = IsStack-pop c.pop.new.self.items c.self.inside.entries.items c.in-Some.last c.self.inside.positions c.put.new.positions c.put.result c.self.invariant c.in-Some.ensures.items c.put.ensures.put c.put.ensures.absent
