use Rattle.std.proofs.Common.{refl, arith}
use Rattle.ct_terms.specs.declared.ids.TermId.{TermId}
use Rattle.ct_congr.proofs.TermLemmas.{Has-inside}
use Rattle.ct_congr.proofs.CongruenceLemmas.{IsKeyOf, congruent, AreKeys-more, AreListed-more, IsCongruent-listed}
use Rattle.ct_congr.proofs.congruence.congruences.Goals as goal
use Rattle.ct_congr.proofs.congruence.congruences.Goals.{In_ok-first}

-- the next term, and the first one under its key
is_key : (c : In_ok-first) → IsKeyOf c.args.table.now c.args.reps.now c.in_ok-key.key (record { 0 = c.loop-t.t })
is_key c = record { core = c.core.result.now; has = c.core.ensures.value; normal = c.in_ok-key.ensures.normal }

first_is_key : (c : In_ok-first) → IsKeyOf c.args.table.now c.args.reps.now c.in_ok-key.key c.in_ok-first.first
first_is_key c =
    AreKeys-more c.args.table.now c.args.reps.now c.loop-t.index c.enter.new.index c.in_ok-key.key (record { 0 = c.loop-t.t }) c.in_ok-first.first (is_key c) c.in_ok-first.ensures.entered c.loop-t.invariant.keys c.in_ok-key.key c.in_ok-first.first c.in_ok-first.ensures.entered.under

pub need-requires-clause-right : goal.need-requires-clause-right
need-requires-clause-right c =
    let first = first_is_key (goal.at.need-requires-clause-right c).In_ok-first in
    rw c.requires.long (Has-inside c.args.table.now first.core c.in_ok-first.first.0 first.has)

pub loop-t-preserved : goal.loop-t-preserved
loop-t-preserved c =
    let at = (goal.at.loop-t-preserved c).In_ok-first in
    let terms = c.args.table.now in
    let reps = c.args.reps.now in
    let t : TermId = record { 0 = c.loop-t.t } in
    record {
      keys = AreKeys-more terms reps c.loop-t.index c.enter.new.index c.in_ok-key.key t c.in_ok-first.first (is_key at) c.in_ok-first.ensures.entered c.loop-t.invariant.keys;
      listed = λ none.
          let both = c.in_ok-need.ensures.none none in
          AreListed-more terms reps c.loop-t.index c.enter.new.index c.in_ok-key.key t c.in_ok-first.first (is_key at) c.in_ok-first.ensures.entered (c.loop-t.invariant.listed both.0) both.1;
      before = λ none. c.loop-t.invariant.before (c.in_ok-need.ensures.none none).0;
      needed = λ d hyps old. c.in_ok-need.ensures.needed d terms hyps (refl, refl, congruent terms reps c.in_ok-key.key t c.in_ok-first.first (is_key at) (first_is_key at)) tt (c.loop-t.invariant.needed d hyps old);
    }

pub returns-clause-closed : goal.returns-clause-closed
returns-clause-closed c = λ none. (
  c.loop-t.invariant.before none,
  IsCongruent-listed c.args.table.now c.args.reps.now c.loop-t.index (λ t below. c.loop-t.invariant.listed none t (omega (arith, below, c.len-t-end.ensures.count, c.loop-t-test.false))),
)
