use Rattle.ct_sorts.proofs.GetterLemmas.{pair_at}
use Rattle.ct_sorts.proofs.getters.symbol_named.Goals as goal

pub returns-in-Some : goal.returns-in-Some
returns-in-Some c = record { some = (c.in-Some.index, pair_at c.args.tables.now.symbols c.in-Some.index c.args.name.now c.get.result.now c.in-Some.ensures.listed c.get.ensures.value); none = tt }

pub returns-in-None : goal.returns-in-None
returns-in-None c = record { some = tt; none = c.in-None.ensures.listed }
