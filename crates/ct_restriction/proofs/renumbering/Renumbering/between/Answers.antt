use Rattle.std.proofs.Common.{◌+◌, ◌∙◌, length, sym, ap, subst, arith}
use Rattle.std.proofs.lemmas.Option.{slice_get_within}
use Rattle.ct_restriction.specs.Renumbered.{Numbers, AreFound}
use Rattle.ct_restriction.proofs.FoundLemmas.{found_more, with_number_length}
use Rattle.ct_restriction.proofs.renumbering.Renumbering.between.Goals as goal

pub loop-t-preserved : goal.loop-t-preserved
loop-t-preserved c =
    let before = c.loop-t.invariant in
    record {
      found = subst (AreFound c.args.from.now c.args.to.now) (sym c.in_ok-push.ensures.pushed)
          (found_more c.args.from.now c.args.to.now c.loop-t.made c.in_ok-number.number (record { 0 = c.loop-t.t }) before.found before.long c.in_ok-number.ensures.found);
      long = ap (λ (n : Numbers). length n.numbers) c.in_ok-push.ensures.pushed ∙ with_number_length c.loop-t.made c.in_ok-number.number ∙ ap (λ k. k + 1) before.long;
    }

pub returns : goal.returns
returns c =
    let long = c.loop-t.invariant.long in
    let last = c.loop-t-test.false in
    record {
      exact = λ t u. (
        λ equal. (c.loop-t.invariant.found.exact t u (let there = equal.there in omega (arith, there, long, last, c.len-t-end.ensures.count))).0 equal,
        λ number. (c.loop-t.invariant.found.exact t u (slice_get_within c.loop-t.made.numbers t.0 u number.1)).1 number,
      );
    }
