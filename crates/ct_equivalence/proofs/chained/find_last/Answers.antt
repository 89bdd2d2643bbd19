use Rattle.std.proofs.Common.{◌≡◌, length, subst, arith}
use Rattle.ct_equivalence.specs.declared.chained.Row.{Row}
use Rattle.ct_equivalence.specs.Chains.{IsEntry}
use Rattle.ct_equivalence.proofs.ChainLemmas.{row_within, row-smaller, row-next, row-found, IsLastRow-none}
use Rattle.ct_equivalence.proofs.chained.find_last.Goals as goal

abbrev zeroth : Row
zeroth = record { digest = 0; term = record { 0 = 0 }; before = 0 }

pub bounds-rows-at : goal.bounds-rows-at
bounds-rows-at c = row_within c.args.rows.now c.args.tops.now c.requires.chained c.args.digest c.args.end c.loop-next.next c.loop-next-test.true c.loop-next.invariant

pub returns-then-is_hit : goal.returns-then-is_hit
returns-then-is_hit c =
    let both = c.if-is_hit.ensures.value in
    record { value = row-found c.args.rows.now c.args.tops.now c.requires.chained c.args.digest c.args.end c.loop-next.next c.loop-next-test.true c.loop-next.invariant zeroth both.0 both.1 }

pub loop-next-smaller : goal.loop-next-smaller
loop-next-smaller c = row-smaller c.args.rows.now c.args.tops.now c.requires.chained c.args.digest c.args.end c.loop-next.next c.loop-next-test.true c.loop-next.invariant zeroth

pub loop-next-preserved : goal.loop-next-preserved
loop-next-preserved c = row-next c.args.rows.now c.args.tops.now c.requires.chained c.args.digest c.args.end c.loop-next.next c.loop-next-test.true c.loop-next.invariant zeroth c.if-is_hit.ensures.value

pub returns : goal.returns
returns c =
    let none : c.loop-next.next ≡ 0 = omega (arith, c.loop-next-test.false) in
    record { value = IsLastRow-none c.args.rows.now c.args.tops.now c.requires.chained c.args.digest c.args.end (subst (IsEntry c.args.rows.now (length c.args.tops.now) c.args.digest c.args.end) none c.loop-next.invariant) }
