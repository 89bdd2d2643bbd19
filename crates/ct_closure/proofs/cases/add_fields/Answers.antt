use Rattle.std.proofs.Common.{List, [], get_or, Contains, sym, subst, ◌∙◌}
use Rattle.std.specs.List.{AllZip}
use Rattle.std.proofs.lemmas.Option.{slice_get-get_or}
use Rattle.ct_lemmas.proofs.Contained.{Contains-from_slice_get}
use Rattle.ct_lemmas.proofs.Prefixes.{take-past}
use Rattle.ct_sorts.specs.declared.ids.SelId.{SelId}
use Rattle.ct_terms.specs.declared.ids.TermId.{TermId}
use Rattle.ct_closure.specs.ClosedTable.{IsFieldTerm}
use Rattle.ct_closure.proofs.GrowthLemmas.{IsCaseOf-stays, step_none, step_then}
use Rattle.ct_closure.proofs.CaseLemmas.{case_inside, sels_listed, fields_more}
use Rattle.ct_closure.proofs.cases.add_fields.Goals as goal

pub ctor_sels-sels-requires : goal.ctor_sels-sels-requires
ctor_sels-sels-requires c =
    record { inside = case_inside c.args.sig.now c.declared.ensures.own_constructors c.declared.ensures.own_selectors c.args.table.now c.args.t c.args.c c.requires.case }

pub loop-s-init : goal.loop-s-init
loop-s-init c = record {
  step = step_none c.args.sig.now c.args.table.now c.requires.sound;
  few = c.requires.few;
  fields = subst (λ (ts : List TermId). AllZip (IsFieldTerm c.args.table.now c.args.t) [] ts) (sym c.new-args.ensures.empty) tt;
}

pub add_field-requires-clause-case : goal.add_field-requires-clause-case
add_field-requires-clause-case c =
    IsCaseOf-stays c.args.table.now c.loop-s.table c.loop-s.invariant.step.grown c.args.sig.now c.args.t c.args.c c.requires.case

pub add_field-requires-clause-of_ctor : goal.add_field-requires-clause-of_ctor
add_field-requires-clause-of_ctor c =
    let sels = c.ctor_sels-sels.result.now in
    let s = get_or sels c.loop-s.s-index (record { 0 = 0 }) in
    subst (λ (ss : List SelId). Contains ss s) (sym (sels_listed c.args.sig.now c.args.c sels c.ctor_sels-sels.ensures.value))
    (Contains-from_slice_get sels c.loop-s.s-index s (slice_get-get_or sels c.loop-s.s-index (record { 0 = 0 }) c.loop-s-test.true))

pub returns-in_err-field-clause-step : goal.returns-in_err-field-clause-step
returns-in_err-field-clause-step c = step_then c.args.sig.now c.args.table.now c.loop-s.table c.add_field.new.table c.loop-s.invariant.step c.add_field.ensures.step

pub returns-in_err-push-clause-step : goal.returns-in_err-push-clause-step
returns-in_err-push-clause-step c = step_then c.args.sig.now c.args.table.now c.loop-s.table c.add_field.new.table c.loop-s.invariant.step c.add_field.ensures.step

pub loop-s-preserved : goal.loop-s-preserved
loop-s-preserved c = record {
  step = step_then c.args.sig.now c.args.table.now c.loop-s.table c.add_field.new.table c.loop-s.invariant.step c.add_field.ensures.step;
  few = c.in_ok-field.ensures.few;
  fields =
      let sels = c.ctor_sels-sels.result.now in
      let s = get_or sels c.loop-s.s-index (record { 0 = 0 }) in
      fields_more c.args.sig.now c.loop-s.table c.add_field.new.table c.add_field.ensures.step c.args.t sels c.loop-s.s-index s c.loop-s.args c.push.new.self c.in_ok-field.field
      (slice_get-get_or sels c.loop-s.s-index (record { 0 = 0 }) c.loop-s-test.true) c.loop-s.invariant.fields c.in_ok-field.ensures.field c.in_ok-push.ensures.ok;
}

pub returns-clause-fields : goal.returns-clause-fields
returns-clause-fields c =
    let sels = c.ctor_sels-sels.result.now in
    subst (λ (ss : List SelId). AllZip (IsFieldTerm c.loop-s.table c.args.t) ss c.loop-s.args)
    (take-past c.loop-s.s-index sels c.loop-s-test.false ∙ sym (sels_listed c.args.sig.now c.args.c sels c.ctor_sels-sels.ensures.value))
    c.loop-s.invariant.fields
