use Rattle.std.proofs.Common.{get_or, sym, ◌∙◌, arith}
use Rattle.std.proofs.lemmas.Slice.Zip.{AllZip-long}
use Rattle.ct_lemmas.proofs.Pairs.{AllZip-at_index, AllZip-from_indices, indices-more}
use Rattle.ct_values.specs.Fitting.{IsNodeOfField}
use Rattle.ct_values.proofs.FitTestLemmas.{IsNodeOfField-tested}
use Rattle.ct_values.proofs.fitting.are_nodes_of_fields.Goals as goal

pub returns-then-children-sels : goal.returns-then-children-sels
returns-then-children-sels c = record {
  value = (λ e. cc, λ all. let one = AllZip-long (IsNodeOfField c.args.sig.now c.args.g.now) c.args.children.now c.args.sels.now all in absurd (omega (arith, one, c.if-children-sels.true)));
}

pub returns-then-not-has_sort : goal.returns-then-not-has_sort
returns-then-not-has_sort c =
    let i = c.loop-i.i in
    let reported = IsNodeOfField-tested c.args.sig.now c.args.g.now (get_or c.args.children.now i (record { 0 = 0 })) (get_or c.args.sels.now i (record { 0 = 0 })) c.sel_sort.result c.has_sort.result c.sel_sort.ensures.value c.has_sort.ensures.value in
    record {
      value = (
        λ e. cc,
        λ all. sym c.if-not-has_sort.true ∙ reported.1 (AllZip-at_index (IsNodeOfField c.args.sig.now c.args.g.now) c.args.children.now c.args.sels.now all i (record { 0 = 0 }) (record { 0 = 0 }) c.loop-i-test.true),
      );
    }

pub loop-i-preserved : goal.loop-i-preserved
loop-i-preserved c =
    let i = c.loop-i.i in
    let reported = IsNodeOfField-tested c.args.sig.now c.args.g.now (get_or c.args.children.now i (record { 0 = 0 })) (get_or c.args.sels.now i (record { 0 = 0 })) c.sel_sort.result c.has_sort.result c.sel_sort.ensures.value c.has_sort.ensures.value in
    indices-more (IsNodeOfField c.args.sig.now c.args.g.now) c.args.children.now c.args.sels.now i (record { 0 = 0 }) (record { 0 = 0 }) c.loop-i-test.true (omega (arith, c.if-children-sels.false, c.loop-i-test.true)) c.loop-i.invariant
    (reported.0 c.if-not-has_sort.false)

pub returns : goal.returns
returns c = record {
  value = (
    λ e. AllZip-from_indices (IsNodeOfField c.args.sig.now c.args.g.now) c.args.children.now c.args.sels.now c.if-children-sels.false (λ k child s within. c.loop-i.invariant k child s (omega (arith, c.loop-i-test.false))),
    λ all. cc,
  );
}
