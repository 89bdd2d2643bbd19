use Rattle.std.proofs.Common.{◌<◌, subst, arith}
use Rattle.ct_sorts.specs.Declarations.{most_sels}
use Rattle.ct_sorts.specs.Consistent.{IsConsistent}
use Rattle.ct_acyclic.proofs.CycleLemmas.{few_places}
use Rattle.ct_acyclic.proofs.entries.entry.Goals as goal

pub overflow_cast-result : goal.overflow_cast-result
overflow_cast-result c =
    let leads = c.requires.leads in
    let few : c.args.hop.place < most_sels = few_places c.args.classes.now leads.1.con leads.0 c.args.hop.place (subst IsConsistent c.signature.ensures.value c.sorts.ensures.consistent) c.table.ensures.sorted leads.1.leads in
    omega (arith, few)
