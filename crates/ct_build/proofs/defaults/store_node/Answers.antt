use Rattle.std.proofs.Common.{refl}
use Rattle.ct_build.proofs.DefaultLemmas.{stored_set}
use Rattle.ct_build.proofs.defaults.store_node.Goals as goal

pub returns-clause-stored : goal.returns-clause-stored
returns-clause-stored c = stored_set c.args.sig.now c.args.g.now c.args.found.now.items c.in-Some.s c.args.n c.requires.stored ((c.in-Some.ensures.value c.in-Some.s).0 refl)
