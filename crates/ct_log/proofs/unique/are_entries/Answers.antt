use Rattle.std.proofs.Common.{arith}
use Rattle.ct_log.specs.declared.rules.Entry.{Entry}
use Rattle.ct_log.specs.declared.rules.Entry.TheVariants as entry
use Rattle.ct_log.proofs.LookLemmas.{not_told}
use Rattle.ct_log.proofs.RestLemmas.{AreEntriesFor-lengths, AreEntriesFor-next, AreEntriesFor-stop, AreEntriesFor-end}
use Rattle.ct_log.proofs.unique.are_entries.Goals as goal

-- what stands where there is no entry
abbrev default : Entry
default = entry.Step 0

pub returns-then-xs-entries : goal.returns-then-xs-entries
returns-then-xs-entries c = record {
  entries = (λ e. cc, λ all. let long = (AreEntriesFor-lengths c.args.given.now c.args.pairs.now c.args.entries.now c.args.xs.now c.args.ys.now all).0 in absurd (omega (arith, c.if-xs-entries.true)));
}

pub returns-then-ys-entries : goal.returns-then-ys-entries
returns-then-ys-entries c = record {
  entries = (λ e. cc, λ all. let long = (AreEntriesFor-lengths c.args.given.now c.args.pairs.now c.args.entries.now c.args.xs.now c.args.ys.now all).1 in absurd (omega (arith, c.if-ys-entries.true)));
}

pub returns-then-not-is_entry : goal.returns-then-not-is_entry
returns-then-not-is_entry c = record {
  entries = (
    λ e. cc,
    λ all. absurd (AreEntriesFor-stop c.args.given.now c.args.pairs.now c.args.entries.now c.args.xs.now c.args.ys.now c.loop-i.i default (record { 0 = 0 }) (record { 0 = 0 }) c.loop-i-test.true (omega (arith, c.if-xs-entries.false)) (omega (arith, c.if-ys-entries.false)) c.loop-i.invariant
        (not_told c.is_entry.result _ c.is_entry.ensures.entry c.if-not-is_entry.true) all),
  );
}

pub loop-i-preserved : goal.loop-i-preserved
loop-i-preserved c =
    AreEntriesFor-next c.args.given.now c.args.pairs.now c.args.entries.now c.args.xs.now c.args.ys.now c.loop-i.i default (record { 0 = 0 }) (record { 0 = 0 }) c.loop-i-test.true (omega (arith, c.if-xs-entries.false)) (omega (arith, c.if-ys-entries.false)) c.loop-i.invariant
    (c.is_entry.ensures.entry.0 c.if-not-is_entry.false)

pub returns : goal.returns
returns c = record {
  entries = (
    λ e. AreEntriesFor-end c.args.given.now c.args.pairs.now c.args.entries.now c.args.xs.now c.args.ys.now c.loop-i.i c.loop-i-test.false (omega (arith, c.if-xs-entries.false, c.loop-i-test.false)) (omega (arith, c.if-ys-entries.false, c.loop-i-test.false)) c.loop-i.invariant,
    λ all. cc,
  );
}
