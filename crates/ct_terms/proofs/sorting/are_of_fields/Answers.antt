use Rattle.std.proofs.Common.{get_or, sym, ◌∙◌, arith}
use Rattle.ct_lemmas.proofs.Pairs.{AllZip-at_index, AllZip-from_indices, AllZip-one_length, indices-more}
use Rattle.ct_terms.specs.Terms.{IsOfField}
use Rattle.ct_terms.proofs.SortingLemmas.{IsOfField-tested}
use Rattle.ct_terms.proofs.sorting.are_of_fields.Goals as goal

pub returns-then-terms-sels : goal.returns-then-terms-sels
returns-then-terms-sels c = record {
  sorted = (λ e. cc, λ all. let one = AllZip-one_length (IsOfField c.args.sig.now c.args.table.now) c.args.terms.now c.args.sels.now all in absurd (omega (arith, c.if-terms-sels.true)));
}

pub returns-then-not-is_of_sort : goal.returns-then-not-is_of_sort
returns-then-not-is_of_sort c =
    let i = c.loop-i.i in
    let reported = IsOfField-tested c.args.sig.now c.args.table.now (get_or c.args.terms.now i (record { 0 = 0 })) (get_or c.args.sels.now i (record { 0 = 0 })) c.sel_sort.result c.is_of_sort.result c.sel_sort.ensures.value c.is_of_sort.ensures.sorted in
    record {
      sorted = (
        λ e. cc,
        λ all. sym c.if-not-is_of_sort.true ∙ reported.1 (AllZip-at_index (IsOfField c.args.sig.now c.args.table.now) c.args.terms.now c.args.sels.now all i (record { 0 = 0 }) (record { 0 = 0 }) c.loop-i-test.true),
      );
    }

pub loop-i-preserved : goal.loop-i-preserved
loop-i-preserved c =
    let i = c.loop-i.i in
    let reported = IsOfField-tested c.args.sig.now c.args.table.now (get_or c.args.terms.now i (record { 0 = 0 })) (get_or c.args.sels.now i (record { 0 = 0 })) c.sel_sort.result c.is_of_sort.result c.sel_sort.ensures.value c.is_of_sort.ensures.sorted in
    indices-more (IsOfField c.args.sig.now c.args.table.now) c.args.terms.now c.args.sels.now i (record { 0 = 0 }) (record { 0 = 0 }) c.loop-i-test.true (omega (arith, c.if-terms-sels.false, c.loop-i-test.true)) c.loop-i.invariant
    (reported.0 c.if-not-is_of_sort.false)

pub returns : goal.returns
returns c = record {
  sorted = (
    λ e. AllZip-from_indices (IsOfField c.args.sig.now c.args.table.now) c.args.terms.now c.args.sels.now c.if-terms-sels.false (λ k t s within. c.loop-i.invariant k t s (omega (arith, c.loop-i-test.false))),
    λ all. cc,
  );
}
