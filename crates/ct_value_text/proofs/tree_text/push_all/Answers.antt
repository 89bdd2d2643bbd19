use Rattle.std.proofs.Common.{◌≡◌, ◌++◌, [], map, reverse, ap, ◌∙◌, sym}
use Rattle.std.proofs.lemmas.List.{nil_from_length}
use Rattle.ct_value_text.specs.declared.tree_text.Item.TheVariants.{Node}
use Rattle.ct_value_text.proofs.WalkLemmas.{pushed-node}
use Rattle.ct_value_text.proofs.tree_text.push_all.Goals as goal

pub loop-n-preserved : goal.loop-n-preserved
loop-n-preserved c = pushed-node _ _ _ c.loop-n.stack.items c.push.new.self.items _ c.in-Some.ensures.steps c.in_ok-push.ensures.items c.loop-n.invariant

pub returns : goal.returns
returns c =
    let none_left : c.loop-n.n-iterator.iter.rest.now ≡ [] = nil_from_length c.loop-n.n-iterator.iter.rest.now c.in-None.ensures.steps.0 in
    record { pushed = ap (λ ns. map Node ns ++ reverse c.loop-n.stack.items) (sym none_left) ∙ c.loop-n.invariant }
