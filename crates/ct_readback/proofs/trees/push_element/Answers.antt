use Rattle.ct_values.specs.declared.node.Node.TheVariants.{Elem}
use Rattle.ct_readback.proofs.TreeLemmas.{added_begins, added_formed, tree_element}
use Rattle.ct_readback.proofs.trees.push_element.Goals as goal

pub returns-clause-grown : goal.returns-clause-grown
returns-clause-grown c = added_begins c.args.graph.now (Elem c.args.s c.args.number) c.add.new.self c.in_ok-n.ensures.grown

pub returns-clause-well_formed : goal.returns-clause-well_formed
returns-clause-well_formed c = added_formed c.args.sig.now c.args.graph.now (Elem c.args.s c.args.number) c.add.new.self c.in_ok-n.ensures.grown c.requires.well_formed c.requires.free

pub returns-clause-node : goal.returns-clause-node
returns-clause-node c = tree_element c.args.sig.now c.add.new.self c.args.s c.args.number c.in_ok-n.n c.in_ok-n.ensures.stands
