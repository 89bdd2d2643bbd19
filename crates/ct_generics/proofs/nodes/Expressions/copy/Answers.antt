use Rattle.std.proofs.Common.{◌≡◌, ℕ, List, [], ◌∷◌, ◌++◌, length, take, Some, slice_get, sym, ap, subst, ◌∙◌, arith}
use Rattle.std.proofs.lemmas.List.{length-take-le}
use Rattle.ct_lemmas.proofs.Prefixes.{take-slice_get_next, take-past}
use Rattle.ct_generics.specs.declared.nodes.Node.{Node}
use Rattle.ct_generics.specs.Nodes.{HasPartsBelow}
use Rattle.ct_generics.proofs.CopyLemmas.{new_after}
use Rattle.ct_generics.proofs.nodes.Expressions.copy.Goals as goal

pub push-requires : goal.push-requires
push-requires c =
    let n = c.loop-n.n in
    let nodes = c.args.self.now in
    let node = c.node.result in
    let long : length (take n nodes) ≡ n = length-take-le n nodes (omega (arith, c.loop-n-test.true, c.len-n-end.ensures.len)) in
    record {
      below = subst (λ k. HasPartsBelow k node) (sym (ap length c.loop-n.invariant ∙ long)) c.node.ensures.below;
      fresh = subst (λ (copied : List Node). (k : ℕ) → slice_get copied k ≡ Some node → ⊥) (sym c.loop-n.invariant) (new_after nodes n node c.len-n-end.ensures.single c.node.ensures.value);
    }

pub loop-n-preserved : goal.loop-n-preserved
loop-n-preserved c =
    let n = c.loop-n.n in
    c.in_ok-push.ensures.ok ∙ ap (λ (nodes : List Node). nodes ++ c.node.result ∷ []) c.loop-n.invariant ∙ sym (take-slice_get_next c.args.self.now n c.node.result c.node.ensures.value)

pub returns : goal.returns
returns c = record { ok = c.loop-n.invariant ∙ take-past c.loop-n.n c.args.self.now (omega (arith, c.loop-n-test.false, c.len-n-end.ensures.len)); err = tt }
