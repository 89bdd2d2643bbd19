use Rattle.std.proofs.Common.{◌∙◌, List, length, sym, ap, subst, arith}
use Rattle.ct_values.specs.declared.node.NodeId.{NodeId}
use Rattle.ct_values.specs.Graph.{Nodes, IsClosed}
use Rattle.ct_eval.specs.declared.interp.Table.{Table}
use Rattle.ct_eval.specs.Index.{IsIndex}
use Rattle.ct_eval.specs.EvaluationStep.{HaveNodes}
use Rattle.ct_eval.proofs.IndexLemmas.{AreIndexed-index}
use Rattle.ct_eval.proofs.ValuationLemmas.{FitsGraph-closed, functions-within, selectors-within, HaveNodes-start}
use Rattle.ct_eval.proofs.valuation.Evaluator.new.Goals as goal

pub indexed-requires : goal.indexed-requires
indexed-requires c = record {
  within =
      functions-within c.args.sig.now c.args.interp.now c.requires.proper c.in_ok-shared.shared c.as_slice.result.now
      (c.in_ok-shared.ensures.value ∙ c.in_ok-copy.ensures.value) c.as_slice.ensures.value;
}

pub indexed-requires-2 : goal.indexed-requires-2
indexed-requires-2 c = record {
  within =
      selectors-within c.args.sig.now c.args.interp.now c.requires.proper (c.structure.ensures.of_their_constructors c.args.sig.now c.sorts.ensures.consistent)
      c.in_ok-shared.shared c.as_slice-2.result.now (c.in_ok-shared.ensures.value ∙ c.in_ok-copy.ensures.value) c.as_slice-2.ensures.value;
}

pub returns : goal.returns
returns c = record {
  begun = λ terms.
      let same = c.in_ok-shared.ensures.value ∙ c.in_ok-copy.ensures.value in
      let closed : IsClosed c.in_ok-shared.shared = subst IsClosed (sym same) (FitsGraph-closed c.args.sig.now c.args.interp.now.graph c.requires.proper.graph.fits) in
      record {
        found =
            subst (λ (nodes : List NodeId). HaveNodes c.args.sig.now c.args.interp.now terms c.in_ok-shared.shared nodes) (sym c.new-2.ensures.items)
            (HaveNodes-start c.args.sig.now c.args.interp.now terms c.in_ok-shared.shared c.requires.proper same);
        few = let none = ap (λ (nodes : List NodeId). length nodes) c.new-2.ensures.items in omega arith;
        functions =
            subst (λ (g : Nodes). IsIndex g c.args.interp.now.funs c.in_ok-funs.funs) same
            (subst (λ (tables : List Table). IsIndex c.in_ok-shared.shared tables c.in_ok-funs.funs) c.as_slice.ensures.value (AreIndexed-index c.in_ok-shared.shared c.as_slice.result.now c.in_ok-funs.funs closed c.in_ok-funs.ensures.index));
        selectors =
            subst (λ (g : Nodes). IsIndex g c.args.interp.now.offs c.in_ok-offs.offs) same
            (subst (λ (tables : List Table). IsIndex c.in_ok-shared.shared tables c.in_ok-offs.offs) c.as_slice-2.ensures.value (AreIndexed-index c.in_ok-shared.shared c.as_slice-2.result.now c.in_ok-offs.offs closed c.in_ok-offs.ensures.index));
      };
}
