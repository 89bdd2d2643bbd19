use Rattle.ct_finite.proofs.ChoosingLemmas.{quotient, number_step}
use Rattle.ct_finite.proofs.choosing.numbers_of.Goals as goal

pub loop-s-preserved : goal.loop-s-preserved
loop-s-preserved c =
    let counts = c.args.counts.now in
    let sorts = c.args.sorts.now in
    let i = c.loop-s.s-index in
    let parts = quotient counts sorts i c.loop-s.rest c.loop-s-test.true c.loop-s.invariant.rest c.loop-s.invariant.some in
    record {
      rest = parts.2;
      some = parts.1;
      value = rw c.in_ok-push.ensures.items (number_step counts sorts i c.loop-s.rest c.loop-s-test.true c.loop-s.invariant.rest c.loop-s.invariant.some c.loop-s.left c.loop-s.numbers.items _ c.loop-s.invariant.value);
    }
