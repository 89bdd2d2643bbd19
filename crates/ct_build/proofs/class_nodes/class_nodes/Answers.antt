use Rattle.std.proofs.Common.{◌≡◌, ◌+◌, ◌⊎◌, ℕ, List, length, get_or, slice_get, Some, sym, ap, ◌∙◌, subst}
use Rattle.ct_build.proofs.ListLemmas.{length-push}
use Rattle.std.proofs.lemmas.Option.{slice_get-get_or}
use Rattle.ct_values.specs.declared.node.Node.{Node}
use Rattle.ct_terms.specs.declared.ids.TermId.{TermId}
use Rattle.ct_build.specs.Nodes.{IsOfTerm, IsCopied}
use Rattle.ct_build.proofs.ListedLemmas.{class_node_more}
use Rattle.ct_build.proofs.class_nodes.class_nodes.Goals as goal

pub loop-i-preserved : goal.loop-i-preserved
loop-i-preserved c =
    let state = c.args.classes.now in
    let g = c.args.g.now in
    let nodes = c.args.nodes.now in
    let values = c.args.values.now in
    let list = c.args.list.now in
    let rep = get_or list c.loop-i.i (record { 0 = 0 }) in
    record {
      many = ap length c.in_ok-push.ensures.items ∙ length-push c.loop-i.added.items c.in_ok-class_node.field-0 ∙ ap (λ k. k + 1) c.loop-i.invariant.many;
      each = subst (λ (l : List Node). (i : ℕ) (r : TermId) (node : Node) → slice_get list i ≡ Some r → slice_get l i ≡ Some node → IsOfTerm state nodes r node ⊎ IsCopied state g values r node) (sym c.in_ok-push.ensures.items)
          (class_node_more state g values nodes list c.loop-i.i c.loop-i.added.items rep c.in_ok-class_node.field-0 c.loop-i.invariant.many (slice_get-get_or list c.loop-i.i (record { 0 = 0 }) c.loop-i-test.true) c.in_ok-class_node.ensures.node c.loop-i.invariant.each);
    }
