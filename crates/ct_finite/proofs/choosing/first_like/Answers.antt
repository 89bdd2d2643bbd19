use Rattle.std.proofs.Common.{◌<◌, length, drop, get_or, false, arith}
use Rattle.std.proofs.lemmas.List.{drop_all}
use Rattle.ct_lemmas.proofs.Prefixes.{drop-next}
use Rattle.ct_finite.specs.Counts.{count_at}
use Rattle.ct_finite.proofs.ChoosingLemmas.{quotient, like_step, like_end}
use Rattle.ct_finite.proofs.choosing.first_like.Goals as goal

pub loop-i-preserved : goal.loop-i-preserved
loop-i-preserved c =
    let counts = c.args.counts.now in
    let sorts = c.args.sorts.now in
    let flags = c.args.flags.now in
    let i = c.loop-i.i in
    let parts = quotient counts sorts i c.loop-i.rest c.loop-i-test.true c.loop-i.invariant.rest c.loop-i.invariant.some in
    let within : i < length flags = omega (arith, c.loop-i-test.true, c.requires.long) in
    record {
      rest = parts.2;
      some = parts.1;
      bound = omega (arith, c.gain-first.ensures.bound, c.loop-i.invariant.bound);
      value = like_step counts sorts i c.loop-i.rest c.loop-i-test.true c.loop-i.invariant.rest c.loop-i.invariant.some flags (get_or flags i false) c.loop-i.left c.loop-i.first c.gain-first.result _ (drop-next flags i false within) c.gain-first.ensures.value c.loop-i.invariant.value;
    }

pub returns : goal.returns
returns c =
    let sorts = c.args.sorts.now in
    let i = c.loop-i.i in
    record {
      value = like_end (count_at c.args.counts.now) (drop i sorts) (drop i c.args.flags.now) c.loop-i.left c.loop-i.first _ (drop_all i sorts c.loop-i-test.false) c.loop-i.invariant.value;
      bound = omega (arith, c.loop-i.invariant.bound);
    }
