use Rattle.ct_occurrence.proofs.EarlierLemmas.{found}
use Rattle.ct_occurrence.proofs.earlier.Earlier.has.Goals as goal

pub returns : goal.returns
returns c = record { value = found c.self.inside.ctors.items c.self.inside.distinct c.self.invariant c.args.self.now c.self.view_is c.args.c c.contains.result c.contains.ensures }
