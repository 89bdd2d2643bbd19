use Rattle.std.proofs.Common.{sym, ◌∙◌, arith}
use Rattle.ct_lemmas.proofs.Pairs.{AllZip-at_index, AllZip-from_indices, AllZip-one_length, indices-more}
use Rattle.ct_terms.specs.Terms.{IsOfSort}
use Rattle.ct_terms.proofs.sorting.are_of_sorts.Goals as goal

pub returns-then-terms-sorts : goal.returns-then-terms-sorts
returns-then-terms-sorts c = record {
  sorted = (λ e. cc, λ all. let one = AllZip-one_length (IsOfSort c.args.table.now) c.args.terms.now c.args.sorts.now all in absurd (omega (arith, c.if-terms-sorts.true)));
}

pub returns-then-not-is_of_sort : goal.returns-then-not-is_of_sort
returns-then-not-is_of_sort c = record {
  sorted = (
    λ e. cc,
    λ all. sym c.if-not-is_of_sort.true ∙ c.is_of_sort.ensures.sorted.1 (AllZip-at_index (IsOfSort c.args.table.now) c.args.terms.now c.args.sorts.now all c.loop-i.i (record { 0 = 0 }) (record { 0 = 0 }) c.loop-i-test.true),
  );
}

pub loop-i-preserved : goal.loop-i-preserved
loop-i-preserved c =
    indices-more (IsOfSort c.args.table.now) c.args.terms.now c.args.sorts.now c.loop-i.i (record { 0 = 0 }) (record { 0 = 0 }) c.loop-i-test.true (omega (arith, c.if-terms-sorts.false, c.loop-i-test.true)) c.loop-i.invariant
    (c.is_of_sort.ensures.sorted.0 c.if-not-is_of_sort.false)

pub returns : goal.returns
returns c = record {
  sorted = (
    λ e. AllZip-from_indices (IsOfSort c.args.table.now) c.args.terms.now c.args.sorts.now c.if-terms-sorts.false (λ k t s within. c.loop-i.invariant k t s (omega (arith, c.loop-i-test.false))),
    λ all. cc,
  );
}
