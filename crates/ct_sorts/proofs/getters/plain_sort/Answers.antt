use Rattle.ct_sorts.proofs.GetterLemmas.{plain_found, plain_missing}
use Rattle.ct_sorts.proofs.getters.plain_sort.Goals as goal

pub returns-in-Some : goal.returns-in-Some
returns-in-Some c =
    let both = plain_found c.args.tables.now.table c.requires.stand c.denotations.ensures.expression c.args.head c.in-Some.id c.sort_of.result c.find.ensures.single c.in-Some.ensures.some c.sort_of.ensures.some c.sort_of.ensures.none in
    record { some = both.0; none = both.1 }

pub returns-in-None : goal.returns-in-None
returns-in-None c = record { some = tt; none = plain_missing c.args.tables.now.table c.requires.stand c.denotations.ensures.expression c.args.head c.in-None.ensures.none }
