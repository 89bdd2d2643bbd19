use Rattle.std.proofs.Common.{◌≡◌, ◌+◌, List, Option, None, replicate, rules, length, sym, ◌∙◌, ap, subst}
use Rattle.std.proofs.lemmas.List.{length-replicate}
use Rattle.ct_values.specs.declared.node.NodeId.{NodeId}
use Rattle.ct_build.specs.Nodes.{AreStored}
use Rattle.ct_build.proofs.ListLemmas.{begins_itself, begins_further}
use Rattle.ct_build.proofs.DefaultLemmas.{stored_none, AreOfFirstSorts, first_sorts_none, first_sorts_longer, first_sorts_more}
use Rattle.ct_build.proofs.defaults.default_nodes.Goals as goal

pub loop-s-init : goal.loop-s-init
loop-s-init c =
    let d = c.args.sig.now in
    let g = c.args.g.now in
    let none : c.in_ok-found.found.items ≡ replicate c.sorts.result None = c.in_ok-found.ensures.items_if_clones_equal (search rules) in
    record {
      grown = begins_itself g;
      formed = λ formed. formed;
      many = ap length none ∙ length-replicate c.sorts.result None ∙ c.sorts.ensures.count;
      stored = subst (λ (found : List (Option NodeId)). AreStored d g found) (sym none) (stored_none d g c.sorts.result);
      nodes = subst (λ (list : List NodeId). AreOfFirstSorts d g 0 list) (sym c.new-list.ensures.items) (first_sorts_none d g);
    }

pub loop-s-preserved : goal.loop-s-preserved
loop-s-preserved c =
    let d = c.args.sig.now in
    let old = c.loop-s.invariant in
    let step = c.in_ok-n.ensures in
    let new = c.node_of_sort.new.g in
    record {
      grown = begins_further c.args.g.now c.loop-s.g new old.grown step.grown;
      formed = λ formed. step.well_formed (old.formed formed);
      many = step.long;
      stored = step.stored;
      nodes = subst (λ (list : List NodeId). AreOfFirstSorts d new (c.loop-s.s + 1) list) (sym c.in_ok-push.ensures.items)
          (first_sorts_more d new c.loop-s.s c.loop-s.list.items c.in_ok-n.n (first_sorts_longer d c.loop-s.g new c.loop-s.s c.loop-s.list.items step.grown old.nodes) step.sorted);
    }
