use Rattle.ct_terms.specs.declared.term.Core.TheVariants.{Test}
use Rattle.ct_card.specs.Fields.{sels_of}
use Rattle.ct_closure.proofs.GrowthLemmas.{IsPresent-stays, IsCaseOf-stays, fields_stay, step_then}
use Rattle.ct_closure.proofs.cases.add_case.Goals as goal

pub add_fields-requires-clause-case : goal.add_fields-requires-clause-case
add_fields-requires-clause-case c = IsCaseOf-stays c.args.table.now c.add_test.new.table c.add_test.ensures.step.grown c.args.sig.now c.args.t c.args.c c.requires.case

pub add_construction-requires-clause-case : goal.add_construction-requires-clause-case
add_construction-requires-clause-case c =
    IsCaseOf-stays c.add_test.new.table c.add_fields.new.table c.add_fields.ensures.step.grown c.args.sig.now c.args.t c.args.c
    (IsCaseOf-stays c.args.table.now c.add_test.new.table c.add_test.ensures.step.grown c.args.sig.now c.args.t c.args.c c.requires.case)

pub returns-in_err-args-clause-step : goal.returns-in_err-args-clause-step
returns-in_err-args-clause-step c = step_then c.args.sig.now c.args.table.now c.add_test.new.table c.add_fields.new.table c.add_test.ensures.step c.add_fields.ensures.step

pub returns-in_err-add_construction-clause-step : goal.returns-in_err-add_construction-clause-step
returns-in_err-add_construction-clause-step c =
    step_then c.args.sig.now c.args.table.now c.add_fields.new.table c.add_construction.new.table
    (step_then c.args.sig.now c.args.table.now c.add_test.new.table c.add_fields.new.table c.add_test.ensures.step c.add_fields.ensures.step)
    c.add_construction.ensures.step

pub returns-clause-step : goal.returns-clause-step
returns-clause-step c =
    step_then c.args.sig.now c.args.table.now c.add_fields.new.table c.add_construction.new.table
    (step_then c.args.sig.now c.args.table.now c.add_test.new.table c.add_fields.new.table c.add_test.ensures.step c.add_fields.ensures.step)
    c.add_construction.ensures.step

pub returns-clause-has : goal.returns-clause-has
returns-clause-has c =
    let d = c.args.sig.now in
    let first = c.add_test.new.table in
    let second = c.add_fields.new.table in
    let third = c.add_construction.new.table in
    record {
      tested = IsPresent-stays second third c.add_construction.ensures.step.grown (Test c.args.c c.args.t) (IsPresent-stays first second c.add_fields.ensures.step.grown (Test c.args.c c.args.t) c.in_ok-add_test.ensures.present);
      args = c.in_ok-args.args;
      fields = fields_stay second third c.add_construction.ensures.step.grown d c.args.t (sels_of d c.args.c) c.in_ok-args.args c.in_ok-args.ensures.fields;
      built = c.in_ok-add_construction.ensures.present;
    }
