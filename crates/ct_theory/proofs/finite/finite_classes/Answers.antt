use Rattle.ct_theory.proofs.FiniteLemmas.{IsStronglyExtensional-finite}
use Rattle.ct_theory.proofs.finite.finite_classes.Goals as goal

pub returns : goal.returns
returns c = record {
  extensional = IsStronglyExtensional-finite c.args.classes.now c.args.order.now c.requires.quiet c.requires.ordered c.merges-merges.ensures.own c.table-table.ensures.one_sort c.requires.finite;
}
