use Rattle.std.proofs.Common.{◌≡◌, List, [], None, subst, ◌∙◌, arith}
use Rattle.std.proofs.lemmas.List.{append-nil, nil_from_length}
use Rattle.ct_sorts.specs.declared.ids.DefId.{DefId}
use Rattle.ct_occurrence.specs.Marks.{worked_in}
use Rattle.ct_occurrence.specs.UnderWay.{AreLeftOut}
use Rattle.ct_occurrence.proofs.UnderWayLemmas.{on_true, on_false, left_start, left_known, left_unknown, left_end}
use Rattle.ct_occurrence.proofs.under_way.next_unknown.Goals as goal

pub loop-name-init : goal.loop-name-init
loop-name-init c = left_start (worked_in c.args.definitions.now) c.args.left.now.items

pub loop-name-preserved : goal.loop-name-preserved
loop-name-preserved c = left_known (worked_in c.args.definitions.now) c.args.left.now.items c.loop-name.left.items c.pop.new.self.items c.in-Some.name c.in-Some.ensures.items c.loop-name.invariant (on_true c.is_known.result _ c.if-not-is_known.false c.is_known.ensures.known)

pub returns-then-not-is_known : goal.returns-then-not-is_known
returns-then-not-is_known c = record { left = left_unknown (worked_in c.args.definitions.now) c.args.left.now.items c.loop-name.left.items c.pop.new.self.items c.in-Some.name c.in-Some.ensures.items c.loop-name.invariant c.push.new.self.items c.in_ok-push.ensures.items (on_false c.is_known.result _ c.if-not-is_known.true c.is_known.ensures.unknown) }

pub returns : goal.returns
returns c =
    let rows = worked_in c.args.definitions.now in
    let first = c.args.left.now.items in
    let left = c.loop-name.left.items in
    let same : left ≡ c.pop.new.self.items = c.in_default.ensures.items ∙ append-nil c.pop.new.self.items in
    let none_left : left ≡ [] = nil_from_length left (omega (arith, c.in_default.ensures.cases, c.loop-name.left.ok.0)) in
    record { left = subst (λ (js : List DefId). AreLeftOut rows first js None) same (left_end rows first left none_left c.loop-name.invariant) }
