use Rattle.std.proofs.Common.{◌≡◌, ◌<◌, List, [], length, map, subst, sym, arith}
use Rattle.std.proofs.lemmas.List.{nil_from_length}
use Rattle.ct_formulas.specs.TreeFormula.{formula_of}
use Rattle.ct_occurrence.specs.declared.under_way.Frame.{Frame}
use Rattle.ct_occurrence.specs.Marks.{worked_in}
use Rattle.ct_occurrence.specs.UnderWay.{AreFramesUnderWay, left_to_do}
use Rattle.ct_occurrence.proofs.UnderWayLemmas.{on_false, way_start, way_next, way_end}
use Rattle.ct_occurrence.proofs.under_way.work_out.Goals as goal

pub loop-frame-init : goal.loop-frame-init
loop-frame-init c = way_start c.args.sig.now (map formula_of c.args.bodies.now) (worked_in c.args.definitions.now) c.args.k c.in_ok-first.first c.new-stack.result.items c.push.new.self.items
    c.new-stack.ensures.items c.in_ok-push.ensures.items c.requires.right c.in_ok-first.ensures.begins (on_false c.is_known.result _ c.if-is_known.false c.is_known.ensures.unknown)

pub go_on-requires-clause-under_way : goal.go_on-requires-clause-under_way
go_on-requires-clause-under_way c = subst (AreFramesUnderWay c.args.sig.now (map formula_of c.args.bodies.now) (worked_in c.loop-frame.definitions)) c.in-Some.ensures.items c.loop-frame.invariant.under_way

pub loop-frame-preserved : goal.loop-frame-preserved
loop-frame-preserved c = way_next c.args.sig.now (map formula_of c.args.bodies.now) (worked_in c.args.definitions.now) c.args.k (worked_in c.loop-frame.definitions) (worked_in c.go_on.new.definitions) c.loop-frame.stack.items c.pop.new.self.items c.go_on.new.stack.items c.in-Some.frame
    c.in-Some.ensures.items c.in_ok-go_on.ensures.step c.loop-frame.invariant

pub loop-frame-smaller : goal.loop-frame-smaller
loop-frame-smaller c =
    let n = length (map formula_of c.args.bodies.now) in
    let rows = worked_in c.loop-frame.definitions in
    let later = left_to_do n (worked_in c.go_on.new.definitions) c.go_on.new.stack.items in
    subst (λ (fs : List Frame). later < left_to_do n rows fs) (sym c.in-Some.ensures.items) c.in_ok-go_on.ensures.step.less

pub returns-clause-right : goal.returns-clause-right
returns-clause-right c = c.loop-frame.invariant.under_way.right

pub returns-clause-stay : goal.returns-clause-stay
returns-clause-stay c = c.loop-frame.invariant.stay

pub returns-clause-known : goal.returns-clause-known
returns-clause-known c =
    let left = c.loop-frame.stack.items in
    let none_left : left ≡ [] = nil_from_length left (omega (arith, c.in_default.ensures.cases, c.loop-frame.stack.ok.0)) in
    way_end c.args.sig.now (map formula_of c.args.bodies.now) (worked_in c.args.definitions.now) c.args.k (worked_in c.loop-frame.definitions) left none_left c.loop-frame.invariant
