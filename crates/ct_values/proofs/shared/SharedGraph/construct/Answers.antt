use Rattle.std.proofs.Common.{◌≡◌, ◌<◌, length, sym, ap, subst, ◌∙◌}
use Rattle.std.specs.List.{AllByRecursion}
use Rattle.std.proofs.lemmas.List.Elements.{recursion_from_All}
use Rattle.indexmap.specs.IndexMap.{get}
use Rattle.ct_values.specs.declared.node.Node.{Node}
use Rattle.ct_values.specs.declared.node.Node.TheVariants.{Con}
use Rattle.ct_values.specs.Graph.{Nodes}
use Rattle.ct_values.specs.Value.{node_value}
use Rattle.ct_values.specs.Agreement.{point}
use Rattle.ct_values.specs.KeyTest.{same_key}
use Rattle.ct_values.specs.Partition.{node_key}
use Rattle.ct_values.specs.Sharing.{IsRepresentative}
use Rattle.ct_values.proofs.SharedLemmas.{IsRepresentative-known}
use Rattle.ct_values.proofs.shared.SharedGraph.construct.Goals as goal

pub returns-in-Some-clause-first : goal.returns-in-Some-clause-first
returns-in-Some-clause-first c =
    let stored = c.self.inside in
    let g : Nodes = stored.graph in
    let x : Node = Con c.args.c c.args.children in
    let n = c.in-Some.first in
    let key : c.in_ok-key.key ≡ node_key stored.classes.items x = rw (c.deref.ensures.value, c.as_slice.ensures.value) at c.in_ok-key.ensures.value in
    let below : AllByRecursion (λ child. child.0 < length g) c.args.children = subst (λ (h : Nodes). AllByRecursion (λ child. child.0 < length h) c.args.children) (sym c.self.view_is) (recursion_from_All (λ child. child.0 < length c.args.self.now) c.args.children c.requires.within) in
    let first = IsRepresentative-known g stored.classes.items stored.representatives x c.self.invariant below n.0 (ap (get same_key stored.representatives) (sym key) ∙ c.in-Some.ensures.found) in
    subst (λ (h : Nodes). IsRepresentative h (point h (node_value x)) n) c.self.view_is first
