use Rattle.std.proofs.Common.{rules, ◌∙◌, ap, sym, Some, refl, arith}
use Rattle.std.proofs.lemmas.Option.{slice_get-get_or}
use Rattle.ct_log.specs.declared.rules.EqStep.{EqStep}
use Rattle.ct_log.proofs.TheoryLemmas.{GiveAll-none, Given-stop, Given-next, Given-end}
use Rattle.ct_log.proofs.theory.give_all.Goals as goal

pub loop-step-init : goal.loop-step-init
loop-step-init c = record {
  gives = λ clause marked. rw c.truncate.ensures.items (GiveAll-none c.args.sig.now c.args.table.now clause, λ all give. refl);
  long = search rules;
  room = search rules;
}

pub returns-in-None-clause-given : goal.returns-in-None-clause-given
returns-in-None-clause-given c = λ clause marked all give.
    let inv = c.loop-step.invariant.gives clause marked in
    let at = slice_get-get_or c.args.steps.now c.loop-step.step-index c.step-item.result c.loop-step-test.true ∙ ap (λ (s : EqStep). Some s) (sym c.step-item.is) in
    let told = rw c.as_slice.ensures.value at (c.in-None.ensures.gives clause marked) in
    Given-stop c.args.sig.now c.args.table.now clause c.args.steps.now c.loop-step.step-index c.loop-step.given.items c.step-item.result at told inv.1 all give

pub loop-step-preserved : goal.loop-step-preserved
loop-step-preserved c =
    let at = slice_get-get_or c.args.steps.now c.loop-step.step-index c.step-item.result c.loop-step-test.true ∙ ap (λ (s : EqStep). Some s) (sym c.step-item.is) in
    record {
      gives = λ clause marked.
          let inv = c.loop-step.invariant.gives clause marked in
          let told = rw c.as_slice.ensures.value at (c.in-Some.ensures.gives clause marked) in
          rw c.push_reserved.ensures.items (Given-next c.args.sig.now c.args.table.now clause c.args.steps.now c.loop-step.step-index c.loop-step.given.items c.step-item.result c.in-Some.e at told inv.0 inv.1);
      long = omega (arith, c.push_reserved.ensures.len, c.loop-step.invariant.long);
      room = c.push_reserved.ensures.capacity ∙ c.loop-step.invariant.room;
    }

pub returns-clause-given : goal.returns-clause-given
returns-clause-given c = λ clause marked.
    let inv = c.loop-step.invariant.gives clause marked in
    Given-end c.args.sig.now c.args.table.now clause c.args.steps.now c.loop-step.step-index c.loop-step.given.items c.loop-step-test.false inv.0 inv.1
