use Rattle.std.proofs.Common.{◌∙◌, [], take}
use Rattle.ct_congr.specs.Merges.{AreConnected}
use Rattle.ct_explain.specs.Resting.{HasNumber}
use Rattle.ct_explain.proofs.RestLemmas.{congruent_arguments, read_long, read_ready}
use Rattle.ct_explain.proofs.WritingLemmas.{IsGrown-then}
use Rattle.ct_explain.proofs.StepLemmas.{congruence_step}
use Rattle.ct_explain.proofs.merges.write_congruent.Goals as goal

pub returns-clause-grown : goal.returns-clause-grown
returns-clause-grown c =
    IsGrown-then c.args.classes.now c.args.writer.now c.write_each.new.writer c.write.new.self c.in_ok-steps.ensures.grown
    (c.in_ok-number.ensures.grown c.args.classes.now
    (congruence_step c.args.classes.now c.write_each.new.writer c.table-table.result.now c.args.terms.0 c.args.terms.1 c.args.sides.0 c.args.sides.1
    c.core.result.now c.core-2.result.now c.deref.result.now c.deref-2.result.now c.new.result c.in_ok-steps.steps.items
    c.table-table.ensures.value (take c.args.bound c.args.classes.now.merges, c.requires.reason) c.core.ensures.value c.core-2.ensures.value (c.deref.ensures.value ∙ c.in_ok-xs.ensures.value) (c.deref-2.ensures.value ∙ c.in_ok-ys.ensures.value)
    c.new.ensures.value c.in_ok-steps.ensures.told))

pub write_each-requires-clause-long : goal.write_each-requires-clause-long
write_each-requires-clause-long c =
    let state = c.args.classes.now in
    let known = AreConnected (take c.args.bound state.merges) in
    read_long state.terms c.table-table.result.now c.args.terms.0 c.args.terms.1 c.core.result.now c.core-2.result.now c.deref.result.now c.deref-2.result.now
    (record {
      same = c.table-table.ensures.value;
      left_stands = c.core.ensures.value;
      right_stands = c.core-2.ensures.value;
      left_below = c.core.ensures.inside;
      right_below = c.core-2.ensures.inside;
      xs_are = c.deref.ensures.value ∙ c.in_ok-xs.ensures.value;
      ys_are = c.deref-2.ensures.value ∙ c.in_ok-ys.ensures.value;
    })
    known [] (congruent_arguments state.declarations state.terms state.hypotheses known c.args.sides.0 c.args.sides.1 c.args.terms.0 c.args.terms.1 c.requires.reason)

pub write_each-requires-clause-ready : goal.write_each-requires-clause-ready
write_each-requires-clause-ready c =
    let state = c.args.classes.now in
    let known = AreConnected (take c.args.bound state.merges) in
    read_ready state.terms c.table-table.result.now c.args.terms.0 c.args.terms.1 c.core.result.now c.core-2.result.now c.deref.result.now c.deref-2.result.now
    (record {
      same = c.table-table.ensures.value;
      left_stands = c.core.ensures.value;
      right_stands = c.core-2.ensures.value;
      left_below = c.core.ensures.inside;
      right_below = c.core-2.ensures.inside;
      xs_are = c.deref.ensures.value ∙ c.in_ok-xs.ensures.value;
      ys_are = c.deref-2.ensures.value ∙ c.in_ok-ys.ensures.value;
    })
    c.args.forest.now.links known (HasNumber c.args.done.now)
    (congruent_arguments state.declarations state.terms state.hypotheses known c.args.sides.0 c.args.sides.1 c.args.terms.0 c.args.terms.1 c.requires.reason) c.requires.paved
