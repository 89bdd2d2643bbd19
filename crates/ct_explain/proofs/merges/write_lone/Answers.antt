use Rattle.std.proofs.Common.{sym, subst, take}
use Rattle.ct_terms.specs.Terms.{Terms}
use Rattle.ct_explain.specs.Premises.{HasReason}
use Rattle.ct_explain.proofs.WritingLemmas.{IsGrown-then}
use Rattle.ct_explain.proofs.StepLemmas.{lone_step}
use Rattle.ct_terms.specs.Terms.{AreOrdered}
use Rattle.ct_congr.specs.Merges.{AreConnected}
use Rattle.ct_explain.specs.Premises.{IsConnectedPremise}
use Rattle.ct_explain.specs.Resting.{IsLone}
use Rattle.ct_explain.proofs.RestLemmas.{lone_inside}
use Rattle.ct_explain.proofs.merges.write_lone.Goals as goal

pub returns-clause-grown : goal.returns-clause-grown
returns-clause-grown c =
    let p = c.in-Some.p in
    let m = c.args.m.now in
    IsGrown-then c.args.classes.now c.args.writer.now c.write_premise.new.writer c.write.new.self c.in_ok-premise-in-Some.ensures.grown
    (c.in_ok-number-in-Some.ensures.grown c.args.classes.now
    (lone_step c.args.classes.now c.write_premise.new.writer c.table-2.result.now m.why m.left m.right p.rule p.left p.right c.in_ok-premise-in-Some.premise c.step_by_rule.result
    c.table-2.ensures.value c.in-Some.ensures.enough (take c.args.bound c.args.classes.now.merges, c.requires.reason) c.in_ok-premise-in-Some.ensures.told c.step_by_rule.ensures.value))

pub unreachable-requires : goal.unreachable-requires
unreachable-requires c =
    let state = c.args.classes.now in
    let m = c.args.m.now in
    let none = rw c.in-None.is at c.lone_premise.ensures.none in
    c.requires.lone (none state.declarations state.hypotheses (subst (λ (q : Terms). HasReason state.declarations q state.hypotheses m.left m.right m.why) (sym c.table-2.ensures.value) (take c.args.bound state.merges, c.requires.reason)))

pub write_premise-requires-clause-ready : goal.write_premise-requires-clause-ready
write_premise-requires-clause-ready c =
    let state = c.args.classes.now in
    let m = c.args.m.now in
    let p = c.in-Some.p in
    let known = AreConnected (take c.args.bound state.merges) in
    let ordered = subst AreOrdered c.table.ensures.value c.is_ordered.ensures.ordered in
    let sides = subst (λ (q : Terms). IsLone q m.right m.why p.left p.right) c.table-2.ensures.value c.in-Some.ensures.sides in
    record {
      inside = lone_inside state.declarations state.terms state.hypotheses known m.left m.right m.why p.left p.right ordered c.requires.reason sides;
      equal = (subst (λ (q : Terms). IsConnectedPremise q m.why m.left m.right p.left p.right) c.table-2.ensures.value c.in-Some.ensures.known) state.declarations state.hypotheses (take c.args.bound state.merges) c.requires.reason;
      paved = c.requires.paved p.left p.right sides;
    }
