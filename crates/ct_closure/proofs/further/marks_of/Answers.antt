use Rattle.std.proofs.Common.{◌<◌, length, get_or, arith}
use Rattle.std.proofs.lemmas.Option.{slice_get-get_or}
use Rattle.ct_terms.specs.declared.ids.TermId.{TermId}
use Rattle.ct_closure.proofs.FurtherLemmas.{marks_none, marks_more, marks_all}
use Rattle.ct_closure.proofs.further.marks_of.Goals as goal

pub loop-t-init : goal.loop-t-init
loop-t-init c = marks_none c.args.terms.now c.args.count c.in_ok-marks.marks.items c.in_ok-marks.ensures.long c.in_ok-marks.ensures.none

pub loop-t-preserved : goal.loop-t-preserved
loop-t-preserved c =
    let t : TermId = get_or c.args.terms.now c.loop-t.t-index (record { 0 = 0 }) in
    let within : c.loop-t.t-index < length c.args.terms.now = omega arith in
    let at = slice_get-get_or c.args.terms.now c.loop-t.t-index (record { 0 = 0 }) within in
    marks_more c.args.terms.now c.args.count c.loop-t.marks.items c.set_mark.new.marks.items c.loop-t.t-index t at c.set_mark.ensures.long c.set_mark.ensures.marked c.loop-t.invariant

pub returns-clause-marks : goal.returns-clause-marks
returns-clause-marks c = marks_all c.args.terms.now c.args.count c.loop-t.marks.items c.loop-t.t-index (omega arith) c.loop-t.invariant
