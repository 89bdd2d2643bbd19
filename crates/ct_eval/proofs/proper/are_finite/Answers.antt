use Rattle.std.proofs.Common.{sym, refl, ◌∙◌, arith}
use Rattle.ct_lemmas.proofs.Lists.{slice_get-there}
use Rattle.ct_values.specs.Graph.{node_children}
use Rattle.ct_values.specs.WellFormed.{IsData, AreBefore}
use Rattle.ct_eval.proofs.ListLemmas.{EachBelow-all}
use Rattle.ct_eval.proofs.FittingLemmas.{AreFinite-from, AreFinite-at}
use Rattle.ct_eval.proofs.proper.are_finite.Goals as goal

pub returns-then-not-is_finite : goal.returns-then-not-is_finite
returns-then-not-is_finite c =
    let stood = slice_get-there c.args.graph.now c.loop-n.n (omega (arith, c.len-n-end.ensures.count, c.loop-n-test.true)) in
    record {
      finite = (
        λ e. cc,
        λ finite. sym c.if-not-is_finite.true ∙ (c.is_finite.ensures.finite stood.0 stood.1).1 (AreFinite-at c.args.sig.now c.args.graph.now finite c.loop-n.n stood.0 stood.1),
      );
    }

pub returns : goal.returns
returns c = record {
  finite = (
    λ e.
        AreFinite-from c.args.sig.now c.args.graph.now
        (EachBelow-all (λ k node. IsData c.args.sig.now c.args.graph.now (record { 0 = k }) → AreBefore c.args.sig.now c.args.graph.now k (node_children node)) c.args.graph.now c.loop-n.n
        (omega (arith, c.len-n-end.ensures.count, c.loop-n-test.false)) c.loop-n.invariant),
    λ finite. refl,
  );
}
