use Rattle.std.proofs.Common.{◌≡◌, List, sym, subst, ◌∙◌, arith}
use Rattle.std.proofs.lemmas.Option.{none-some}
use Rattle.ct_values.specs.declared.node.NodeId.{NodeId}
use Rattle.ct_values.specs.Graph.{Nodes}
use Rattle.ct_eval.specs.declared.interp.Table.{Table}
use Rattle.ct_eval.specs.Index.{AreIndexed}
use Rattle.ct_eval.proofs.ValuationLemmas.{functions-within, selectors-within}
use Rattle.ct_trial.specs.Trial.{IsTried}
use Rattle.ct_trial.proofs.trial.begun.Goals as goal

pub indexed-requires : goal.indexed-requires
indexed-requires c = record {
  within =
      functions-within c.args.sig.now c.fitted.new.interp c.in_ok-supply.ensures.proper c.in_ok-shared.shared c.as_slice.result.now
      (c.in_ok-shared.ensures.value ∙ c.in_ok-copy.ensures.value) c.as_slice.ensures.value;
}

pub indexed-requires-2 : goal.indexed-requires-2
indexed-requires-2 c = record {
  within =
      selectors-within c.args.sig.now c.fitted.new.interp c.in_ok-supply.ensures.proper (c.structure.ensures.of_their_constructors c.args.sig.now c.sorts.ensures.consistent)
      c.in_ok-shared.shared c.as_slice-2.result.now (c.in_ok-shared.ensures.value ∙ c.in_ok-copy.ensures.value) c.as_slice-2.ensures.value;
}

pub returns : goal.returns
returns c = record {
  trial = λ terms ordered.
      let d = c.args.sig.now in
      let i = c.fitted.new.interp in
      let g = c.in_ok-shared.shared in
      let same : g ≡ i.graph = c.in_ok-shared.ensures.value ∙ c.in_ok-copy.ensures.value in
      record {
        tried =
            subst (λ (nodes : List NodeId). IsTried d terms i c.in_ok-funs.funs nodes) (sym c.new-2.ensures.items) (record {
              consistent = c.sorts.ensures.consistent;
              ordered = ordered;
              proper = c.in_ok-supply.ensures.proper;
              functions =
                  subst (λ (h : Nodes). AreIndexed h i.funs c.in_ok-funs.funs) same
                  (subst (λ (tables : List Table). AreIndexed g tables c.in_ok-funs.funs) c.as_slice.ensures.value c.in_ok-funs.ensures.index);
              few = omega arith;
              valued = λ t sort n of at. absurd (none-some n at);
              rowed = λ t f args sort within at. absurd (omega arith);
            });
        selectors =
            subst (λ (h : Nodes). AreIndexed h i.offs c.in_ok-offs.offs) same
            (subst (λ (tables : List Table). AreIndexed g tables c.in_ok-offs.offs) c.as_slice-2.ensures.value c.in_ok-offs.ensures.index);
        shared = same;
      };
}
