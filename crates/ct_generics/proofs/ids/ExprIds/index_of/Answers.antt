use Rattle.ct_generics.proofs.IdLemmas.{found-is, none-found}
use Rattle.ct_generics.proofs.ids.ExprIds.index_of.Goals as goal

pub returns-clause-found : goal.returns-clause-found
returns-clause-found c = rw (← c.self.view_is) (found-is c.self.inside.ids.keys c.args.id c.get_index_of.result c.get_index_of.ensures.index)

pub returns-clause-none : goal.returns-clause-none
returns-clause-none c = rw (← c.self.view_is) (none-found c.self.inside.ids.keys c.args.id c.get_index_of.result c.get_index_of.ensures.index)
