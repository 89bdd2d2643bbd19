use Rattle.std.proofs.Common.{◌≡◌, length, Some, slice_get, sym, ap, subst, ◌∙◌, arith}
use Rattle.ct_values.specs.Graph.{Nodes}
use Rattle.ct_values.specs.Minimal.{IsBreadthFirst}
use Rattle.ct_values.specs.Numbering.{IsInOrder}
use Rattle.ct_values.specs.Renumbering.{IsPart}
use Rattle.ct_values.proofs.CountLemmas.{CountsUp-first}
use Rattle.ct_values.proofs.NumberedLemmas.{IsBreadthFirst-numbered}
use Rattle.ct_values.proofs.RenumberLemmas.{IsClosed-renumbered, unique_indices}
use Rattle.ct_values.proofs.reach.reached_from.Goals as goal

pub from_nodes-requires : goal.from_nodes-requires
from_nodes-requires c =
    let done = c.in_ok-nodes.ensures in
    record { closed = IsClosed-renumbered c.args.g.now c.renumber_all.new.ids.keys c.in_ok-nodes.nodes done.renumbered done.all }

pub returns-clause-part : goal.returns-clause-part
returns-clause-part c =
    let g = c.args.g.now in
    let root = c.args.root.0 in
    let done = c.in_ok-nodes.ensures in
    let numbered = c.in_ok-number.ensures in
    let index = c.in_ok-number.field-0.0 in
    let keys = c.renumber_all.new.ids.keys in
    let nodes = c.in_ok-nodes.nodes in
    let start = CountsUp-first (length c.new-ids.result.keys) index (length c.number.new.ids.keys) (omega (arith, c.new-ids.ensures.len)) numbered.counts in
    let at : slice_get keys 0 ≡ Some root = ap (slice_get keys) (sym start.0) ∙ done.stay index root numbered.at in
    let is : IsPart g root nodes = record {
      ids = keys;
      unique = unique_indices keys done.numbering.unique;
      first = at;
      all = done.all;
      renumbered = done.renumbered;
    } in
    subst (λ (part : Nodes). IsPart g root part) (sym c.from_nodes.ensures.value) is

pub returns-clause-breadth_first : goal.returns-clause-breadth_first
returns-clause-breadth_first c =
    let done = c.in_ok-nodes.ensures in
    let nodes = c.in_ok-nodes.nodes in
    let start = CountsUp-first (length c.new-ids.result.keys) c.in_ok-number.field-0.0 (length c.number.new.ids.keys) (omega (arith, c.new-ids.ensures.len)) c.in_ok-number.ensures.counts in
    let from_one : IsInOrder 1 0 nodes (length c.renumber_all.new.ids.keys) = subst (λ k. IsInOrder k 0 nodes (length c.renumber_all.new.ids.keys)) start.1 done.in_order in
    let order : IsInOrder 1 0 nodes (length nodes) = subst (λ k. IsInOrder 1 0 nodes k) (sym done.all) from_one in
    subst (λ (part : Nodes). IsBreadthFirst part) (sym c.from_nodes.ensures.value) (IsBreadthFirst-numbered nodes order)
