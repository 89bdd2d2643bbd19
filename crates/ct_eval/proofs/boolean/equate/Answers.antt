use Rattle.std.proofs.Common.{◌≡◌, ◌↔◌, ℕ, Bool, IsTrue, nat_eq, ap, sym, ◌∙◌}
use Rattle.std.proofs.lemmas.Bool.Decides.{Decides-eqb}
use Rattle.ct_values.specs.declared.node.NodeId.{NodeId}
use Rattle.ct_terms.specs.declared.term.Core.TheVariants.{Eq}
use Rattle.ct_values.specs.TruthValue.{truth}
use Rattle.ct_eval.specs.EvaluationStep.{node_under}
use Rattle.ct_eval.proofs.StepTerms.{valued_under}
use Rattle.ct_eval.proofs.StepReady.{ready_Eq}
use Rattle.ct_eval.proofs.StepTruth.{answered, same_value}
use Rattle.ct_eval.proofs.boolean.equate.Goals as goal

pub node_at-requires : goal.node_at-requires
node_at-requires c =
    let r = c.requires.ready in
    record { there = (ready_Eq r.0 c.args.interp.now c.args.shared.now c.args.nodes.now c.args.a c.args.b r.1).0 }

pub node_at-requires-2 : goal.node_at-requires-2
node_at-requires-2 c =
    let r = c.requires.ready in
    record { there = (ready_Eq r.0 c.args.interp.now c.args.shared.now c.args.nodes.now c.args.a c.args.b r.1).1 }

-- the test of two nodes tells whether they are one
reported : (m n : NodeId) (b : Bool) → b ≡ nat_eq m.0 n.0 → IsTrue b ↔ (m ≡ n)
reported m n b is =
    let test = Decides-eqb m.0 n.0 in
    (λ e. ap (λ (k : ℕ). record { 0 = k }) (test.0 (sym is ∙ e)), λ e. is ∙ test.1 (ap (λ (k : NodeId). k.0) e))

pub returns-clause-value : goal.returns-clause-value
returns-clause-value c = λ d consistent fits.
    let i = c.args.interp.now in
    let g = c.args.shared.now in
    let nodes = c.args.nodes.now in
    let below = c.requires.ready.1.below in
    let m = node_under nodes c.args.a in
    let n = node_under nodes c.args.b in
    let is : c.eq-answer.result ≡ nat_eq m.0 n.0 = c.eq-answer.ensures ∙ ap (λ (k : NodeId). nat_eq k.0 c.node_at-2.result.0) c.node_at.ensures.value ∙ ap (λ (k : NodeId). nat_eq m.0 k.0) c.node_at-2.ensures.value in
    answered d i g c.truth.new.shared nodes (Eq c.args.a c.args.b) c.eq-answer.result c.truth.result (c.truth.ensures.value d i consistent fits) (λ terms value sort valued sorted.
    let left = valued_under d i terms g nodes value valued c.args.a sorted.side sorted.left below.0 in
    let right = valued_under d i terms g nodes value valued c.args.b sorted.side sorted.right below.1.0 in
    let same = same_value c.theorems.ensures.theorems d i g (value c.args.a) (value c.args.b) sorted.side sorted.side m n c.eq-answer.result c.closed.ensures.closed left right (reported m n c.eq-answer.result is) in
    (ap truth same, sorted.result))
