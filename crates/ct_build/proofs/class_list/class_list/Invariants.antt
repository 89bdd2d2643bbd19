use Rattle.ct_build.specs.Nodes.{IsClassListBelow}
use Rattle.ct_build.proofs.class_list.class_list.Given as goal

abbrev pub invariant-loop-t : goal.invariant-loop-t
invariant-loop-t l = IsClassListBelow l.classes l.t l.order l.list.items
