use Rattle.std.proofs.Common.{Some, None}
use Rattle.ct_generics.proofs.FoundLemmas.{node_found, node_missing}
use Rattle.ct_generics.proofs.nodes.Expressions.find.Goals as goal

pub returns-in-Some-clause-some : goal.returns-in-Some-clause-some
returns-in-Some-clause-some c = rw (← c.self.view_is) (node_found c.self.inside.nodes.keys c.args.node (Some c.in-Some.index) c.in-Some.ensures.index)

pub returns-in-None-clause-none : goal.returns-in-None-clause-none
returns-in-None-clause-none c = rw (← c.self.view_is) (node_missing c.self.inside.nodes.keys c.args.node None c.in-None.ensures.index)
