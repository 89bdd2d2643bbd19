use Rattle.std.proofs.Common.{◌≡◌, ℕ, ◌<◌, List, length, Some, slice_get, sym, subst, arith}
use Rattle.std.proofs.lemmas.Option.{slice_get_within}
use Rattle.ct_values.specs.Graph.{Nodes}
use Rattle.ct_values.specs.Agreement.{node_point, AgreeAlways}
use Rattle.ct_values.proofs.RenumberLemmas.{IsClosed-renumbered, AgreeAlways-renumbered}
use Rattle.ct_values.proofs.reach.reached.Goals as goal

-- a number that stands for a node is one of the part
within : (keys : List ℕ) (nodes : Nodes) (p n : ℕ) → length nodes ≡ length keys → slice_get keys p ≡ Some n → p < length nodes
within keys nodes p n long at = omega (arith, slice_get_within keys p n at)

pub from_nodes-requires : goal.from_nodes-requires
from_nodes-requires c =
    let done = c.in_ok-nodes.ensures in
    record { closed = IsClosed-renumbered c.args.g.now c.renumber_all.new.ids.keys c.in_ok-nodes.nodes done.renumbered done.all }

pub returns-clause-first_within : goal.returns-clause-first_within
returns-clause-first_within c =
    let first = c.in_ok-first.first in
    let at = c.in_ok-nodes.ensures.stay first.0 c.args.a.0 (c.in_ok-second.ensures.stay first.0 c.args.a.0 c.in_ok-first.ensures.at) in
    let inside = within c.renumber_all.new.ids.keys c.in_ok-nodes.nodes first.0 c.args.a.0 c.in_ok-nodes.ensures.all at in
    subst (λ (part : Nodes). first.0 < length part) (sym c.from_nodes.ensures.value) inside

pub returns-clause-second_within : goal.returns-clause-second_within
returns-clause-second_within c =
    let second = c.in_ok-second.second in
    let at = c.in_ok-nodes.ensures.stay second.0 c.args.b.0 c.in_ok-second.ensures.at in
    let inside = within c.renumber_all.new.ids.keys c.in_ok-nodes.nodes second.0 c.args.b.0 c.in_ok-nodes.ensures.all at in
    subst (λ (part : Nodes). second.0 < length part) (sym c.from_nodes.ensures.value) inside

pub returns-clause-first : goal.returns-clause-first
returns-clause-first c =
    let done = c.in_ok-nodes.ensures in
    let first = c.in_ok-first.first in
    let at = done.stay first.0 c.args.a.0 (c.in_ok-second.ensures.stay first.0 c.args.a.0 c.in_ok-first.ensures.at) in
    let alike = AgreeAlways-renumbered c.args.g.now c.renumber_all.new.ids.keys c.in_ok-nodes.nodes done.renumbered done.all first c.args.a at in
    subst (λ (part : Nodes). AgreeAlways (node_point part first) (node_point c.args.g.now c.args.a)) (sym c.from_nodes.ensures.value) alike

pub returns-clause-second : goal.returns-clause-second
returns-clause-second c =
    let done = c.in_ok-nodes.ensures in
    let second = c.in_ok-second.second in
    let at = done.stay second.0 c.args.b.0 c.in_ok-second.ensures.at in
    let alike = AgreeAlways-renumbered c.args.g.now c.renumber_all.new.ids.keys c.in_ok-nodes.nodes done.renumbered done.all second c.args.b at in
    subst (λ (part : Nodes). AgreeAlways (node_point part second) (node_point c.args.g.now c.args.b)) (sym c.from_nodes.ensures.value) alike
