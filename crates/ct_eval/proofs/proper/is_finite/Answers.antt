use Rattle.ct_eval.proofs.FittingLemmas.{AreBefore-tested}
use Rattle.ct_eval.proofs.proper.is_finite.Goals as goal

pub returns : goal.returns
returns c = record {
  finite = λ node at.
      AreBefore-tested c.args.sig.now c.args.graph.now c.args.n c.children.result.now node c.are_before.result (c.is_data.ensures.datatype.0 c.if-not-is_data.false) c.children.ensures.value at c.are_before.ensures.before;
}
