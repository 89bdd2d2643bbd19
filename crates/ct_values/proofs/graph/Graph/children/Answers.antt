use Rattle.std.proofs.Common.{◌≡◌, ℕ, ◌<◌, length, slice_get, get_or, option_map, Some, refl, ap, subst, ◌∙◌}
use Rattle.std.proofs.lemmas.Option.{slice_get_read}
use Rattle.ct_lemmas.proofs.Each.{All-at}
use Rattle.ct_values.specs.declared.node.Node.{Node}
use Rattle.ct_values.specs.Graph.{Nodes, IsClosed, HasChildrenBelow, node_children}
use Rattle.ct_values.proofs.graph.Graph.children.Goals as goal

-- what is read at a number within a graph stands there
stands : (stored g : Nodes) (i : ℕ) (x y : Node) → stored ≡ g → i < length g → x ≡ get_or stored i x → x ≡ y → slice_get g i ≡ Some y
stands stored g i x y same within read is =
    let here : x ≡ get_or g i x = subst (λ (l : Nodes). x ≡ get_or l i x) same read in
    slice_get_read g (length g) i x refl within here ∙ ap Some is

pub returns-in-Con-clause-below : goal.returns-in-Con-clause-below
returns-in-Con-clause-below c =
    let g = c.args.self.now in
    let closed : IsClosed g = rw c.self.view_is at c.self.invariant in
    let at = stands c.self.inside.nodes.items g c.args.n.0 c.index.result.now _ c.self.view_is c.requires.within c.index.ensures c.in-Con.is in
    rw c.as_slice.ensures.value (All-at (HasChildrenBelow (length g)) g c.args.n.0 _ closed at)

pub returns-in-Elem-clause-value : goal.returns-in-Elem-clause-value
returns-in-Elem-clause-value c =
    let at = stands c.self.inside.nodes.items c.args.self.now c.args.n.0 c.index.result.now _ c.self.view_is c.requires.within c.index.ensures c.in-Elem.is in
    ap (option_map node_children) at
