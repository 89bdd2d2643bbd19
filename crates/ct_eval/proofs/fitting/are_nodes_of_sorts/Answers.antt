use Rattle.std.proofs.Common.{sym, ◌∙◌, arith}
use Rattle.ct_lemmas.proofs.Pairs.{AllZip-at_index, AllZip-from_indices, AllZip-one_length, indices-more}
use Rattle.ct_values.specs.Fitting.{HasNodeSort}
use Rattle.ct_eval.proofs.fitting.are_nodes_of_sorts.Goals as goal

pub returns-then-nodes-sorts : goal.returns-then-nodes-sorts
returns-then-nodes-sorts c = record {
  sorted = (λ e. cc, λ all. let one = AllZip-one_length (HasNodeSort c.args.sig.now c.args.graph.now) c.args.nodes.now c.args.sorts.now all in absurd (omega (arith, c.if-nodes-sorts.true)));
}

pub returns-then-not-has_sort : goal.returns-then-not-has_sort
returns-then-not-has_sort c = record {
  sorted = (
    λ e. cc,
    λ all. sym c.if-not-has_sort.true ∙ c.has_sort.ensures.value.1 (AllZip-at_index (HasNodeSort c.args.sig.now c.args.graph.now) c.args.nodes.now c.args.sorts.now all c.loop-i.i (record { 0 = 0 }) (record { 0 = 0 }) c.loop-i-test.true),
  );
}

pub loop-i-preserved : goal.loop-i-preserved
loop-i-preserved c =
    indices-more (HasNodeSort c.args.sig.now c.args.graph.now) c.args.nodes.now c.args.sorts.now c.loop-i.i (record { 0 = 0 }) (record { 0 = 0 }) c.loop-i-test.true (omega (arith, c.if-nodes-sorts.false, c.loop-i-test.true)) c.loop-i.invariant
    (c.has_sort.ensures.value.0 c.if-not-has_sort.false)

pub returns : goal.returns
returns c = record {
  sorted = (
    λ e. AllZip-from_indices (HasNodeSort c.args.sig.now c.args.graph.now) c.args.nodes.now c.args.sorts.now c.if-nodes-sorts.false (λ k n s within. c.loop-i.invariant k n s (omega (arith, c.loop-i-test.false))),
    λ all. cc,
  );
}
