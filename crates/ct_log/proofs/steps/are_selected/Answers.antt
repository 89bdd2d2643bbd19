use Rattle.std.proofs.Common.{arith}
use Rattle.ct_lemmas.proofs.Pairs.{AllZip-one_length}
use Rattle.ct_rules.specs.Rules.{IsSelected}
use Rattle.ct_log.proofs.LookLemmas.{not_told}
use Rattle.ct_log.proofs.RestLemmas.{AllZip-next, AllZip-stop, AllZip-end}
use Rattle.ct_log.proofs.steps.are_selected.Goals as goal

pub returns-then-args-sels : goal.returns-then-args-sels
returns-then-args-sels c = record {
  selected = (λ e. cc, λ all. let long = AllZip-one_length (IsSelected c.args.table.now c.args.u) c.args.args.now c.args.sels.now all in absurd (omega (arith, c.if-args-sels.true)));
}

pub returns-then-not-is_selection : goal.returns-then-not-is_selection
returns-then-not-is_selection c = record {
  selected = (
    λ e. cc,
    λ all. absurd (AllZip-stop (IsSelected c.args.table.now c.args.u) c.args.args.now c.args.sels.now c.loop-i.i (record { 0 = 0 }) (record { 0 = 0 }) c.loop-i-test.true (omega (arith, c.if-args-sels.false, c.loop-i-test.true)) c.loop-i.invariant
        (not_told c.is_selection.result _ c.is_selection.ensures.selection c.if-not-is_selection.true) all),
  );
}

pub loop-i-preserved : goal.loop-i-preserved
loop-i-preserved c =
    AllZip-next (IsSelected c.args.table.now c.args.u) c.args.args.now c.args.sels.now c.loop-i.i (record { 0 = 0 }) (record { 0 = 0 }) c.loop-i-test.true (omega (arith, c.if-args-sels.false, c.loop-i-test.true)) c.loop-i.invariant
    (c.is_selection.ensures.selection.0 c.if-not-is_selection.false)

pub returns : goal.returns
returns c = record {
  selected = (
    λ e. AllZip-end (IsSelected c.args.table.now c.args.u) c.args.args.now c.args.sels.now c.loop-i.i c.loop-i-test.false (omega (arith, c.if-args-sels.false, c.loop-i-test.false)) c.loop-i.invariant,
    λ all. cc,
  );
}
