use Rattle.std.proofs.Common.{get_or, arith}
use Rattle.std.proofs.lemmas.Option.{slice_get_within, slice_get-get_or}
use Rattle.ct_closure.proofs.GrowthLemmas.{IsCaseOf-stays, step_none, step_then}
use Rattle.ct_closure.proofs.CaseLemmas.{split_sort_inside, case_at, cases_at, cases_more}
use Rattle.ct_closure.proofs.cases.add_cases.Goals as goal

pub sort-requires : goal.sort-requires
sort-requires c =
    let split = c.requires.split in
    record { within = slice_get_within c.args.table.now c.args.t.0 (split.1.unsettled.core, split.0) split.1.unsettled.stands }

pub ctors-ctors-requires : goal.ctors-ctors-requires
ctors-ctors-requires c = record { inside = split_sort_inside c.args.sig.now c.args.table.now c.args.t c.sort.result c.requires.split.0 c.sort.ensures.value c.requires.split.1 }

pub loop-c-init : goal.loop-c-init
loop-c-init c = record { step = step_none c.args.sig.now c.args.table.now c.requires.sound; few = c.requires.few; cases = λ k e less at. absurd (omega (arith, less)) }

pub add_case-requires-clause-case : goal.add_case-requires-clause-case
add_case-requires-clause-case c =
    let ctors = c.ctors-ctors.result.now in
    IsCaseOf-stays c.args.table.now c.loop-c.table c.loop-c.invariant.step.grown c.args.sig.now c.args.t (get_or ctors c.loop-c.c-index (record { 0 = 0 }))
    (case_at c.args.sig.now c.args.table.now c.args.t c.sort.result c.requires.split.0 ctors c.loop-c.c-index (get_or ctors c.loop-c.c-index (record { 0 = 0 })) c.sort.ensures.value c.ctors-ctors.ensures.value
    (slice_get-get_or ctors c.loop-c.c-index (record { 0 = 0 }) c.loop-c-test.true) c.requires.split.1)

pub returns-in_err-add_case-clause-step : goal.returns-in_err-add_case-clause-step
returns-in_err-add_case-clause-step c = step_then c.args.sig.now c.args.table.now c.loop-c.table c.add_case.new.table c.loop-c.invariant.step c.add_case.ensures.step

pub loop-c-preserved : goal.loop-c-preserved
loop-c-preserved c = record {
  step = step_then c.args.sig.now c.args.table.now c.loop-c.table c.add_case.new.table c.loop-c.invariant.step c.add_case.ensures.step;
  few = c.in_ok-add_case.ensures.few;
  cases =
      let ctors = c.ctors-ctors.result.now in
      cases_more c.args.sig.now c.loop-c.table c.add_case.new.table c.add_case.ensures.step c.args.t ctors c.loop-c.c-index (get_or ctors c.loop-c.c-index (record { 0 = 0 }))
      (slice_get-get_or ctors c.loop-c.c-index (record { 0 = 0 }) c.loop-c-test.true) c.loop-c.invariant.cases c.in_ok-add_case.ensures.has;
}

pub returns-clause-cases : goal.returns-clause-cases
returns-clause-cases c =
    cases_at c.args.sig.now c.args.table.now c.loop-c.table c.args.t c.sort.result c.ctors-ctors.result.now c.sort.ensures.value c.ctors-ctors.ensures.value
    (λ k e within at. c.loop-c.invariant.cases k e (omega (arith, within, c.loop-c-test.false)) at)
