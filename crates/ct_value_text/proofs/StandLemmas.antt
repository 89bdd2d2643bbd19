-- Which finite trees a node stands for: those of its head over trees that its children stand for.
use Rattle.std.proofs.Common.{◌≡◌, ℕ, ◌<◌, List, [], ◌∷◌, length, map, Some, option_map, slice_get, refl, sym, ap, subst, ◌∙◌, arith}
use Rattle.std.specs.List.{AllZip}
use Rattle.std.proofs.lemmas.Option.{same_Some}
use Rattle.ct_lemmas.proofs.Options.{option_map-source}
use Rattle.ct_sorts.specs.declared.ids.CtorId.{CtorId}
use Rattle.ct_sorts.specs.declared.ids.SortId.{SortId}
use Rattle.ct_values.specs.declared.node.NodeId.{NodeId}
use Rattle.ct_values.specs.declared.node.Node.{Node}
use Rattle.ct_values.specs.declared.node.Node.TheVariants as nodes
use Rattle.ct_values.specs.declared.node.Head.TheVariants.{Con, Elem}
use Rattle.ct_values.specs.Graph.{Nodes, node_head, node_children}
use Rattle.ct_values.specs.Value.{Value, Values, reference, element, construct, no_values, with_value, list_of, subterms, AreOver}
use Rattle.ct_values.specs.Agreement.{Point, point, node_point, AgreeAlways}
use Rattle.ct_value_text.specs.ValueText.{StandsFor}
use Rattle.ct_values.proofs.AgreeLemmas.{AgreeAlways-parts}
use Rattle.ct_values.proofs.NodeLemmas.{node_points, children_are}

-- the nodes stand for these trees, one for one
abbrev pub StandForAll : Nodes → List NodeId → Values → Type 0
StandForAll g [] no_values = Unit {0}
StandForAll g [] (with_value v vs) = ⊥
StandForAll g (n ∷ ns) no_values = ⊥
StandForAll g (n ∷ ns) (with_value v vs) = StandsFor g n v × StandForAll g ns vs

from_points : (g : Nodes) (ns : List NodeId) (vs : Values) → AreOver [] vs → AllZip AgreeAlways (node_points g ns) (map (point []) (list_of vs)) → StandForAll g ns vs
from_points g [] no_values over pairs = tt
from_points g [] (with_value v vs) over pairs = absurd pairs
from_points g (n ∷ ns) no_values over pairs = absurd pairs
from_points g (n ∷ ns) (with_value v vs) over pairs = ((over.0, pairs.0), from_points g ns vs over.1 pairs.1)

to_points : (g : Nodes) (ns : List NodeId) (vs : Values) → StandForAll g ns vs → AreOver [] vs × AllZip AgreeAlways (node_points g ns) (map (point []) (list_of vs))
to_points g [] no_values all = (tt, tt)
to_points g [] (with_value v vs) all = absurd all
to_points g (n ∷ ns) no_values all = absurd all
to_points g (n ∷ ns) (with_value v vs) all =
    let rest = to_points g ns vs all.1 in
    ((all.0.0, rest.0), (all.0.1, rest.1))

-- a constructor stands for itself over the trees of its children
pub stands_constructor : (g : Nodes) (n : NodeId) (c : CtorId) (ns : List NodeId) (v : Value) → option_map node_head (slice_get g n.0) ≡ Some (Con c) → option_map node_children (slice_get g n.0) ≡ Some ns → StandsFor g n v → (vs : Values) × (v ≡ construct c vs) × StandForAll g ns vs
stands_constructor g n c ns (reference m) head_is below stands = absurd (omega (arith, stands.0))
stands_constructor g n c ns (element s k) head_is below stands =
    let parts = (AgreeAlways-parts (node_point g n) (point [] (element s k))).0 stands.1 in
    let same : Con c ≡ Elem s k = same_Some (Con c) (Elem s k) (sym head_is ∙ parts.0) in
    cc
stands_constructor g n c ns (construct e vs) head_is below stands =
    let parts = (AgreeAlways-parts (node_point g n) (point [] (construct e vs))).0 stands.1 in
    let same : Con c ≡ Con e = same_Some (Con c) (Con e) (sym head_is ∙ parts.0) in
    let is : e ≡ c = cc in
    let pairs = subst (λ (ps : List Point). AllZip AgreeAlways ps (map (point []) (list_of vs))) (children_are g n ns below) parts.1 in
    (vs, ap (λ k. construct k vs) is, from_points g ns vs stands.0 pairs)

pub constructor_stands : (g : Nodes) (n : NodeId) (c : CtorId) (ns : List NodeId) (vs : Values) → option_map node_head (slice_get g n.0) ≡ Some (Con c) → option_map node_children (slice_get g n.0) ≡ Some ns → StandForAll g ns vs → StandsFor g n (construct c vs)
constructor_stands g n c ns vs head_is below all =
    let rest = to_points g ns vs all in
    let pairs = subst (λ (ps : List Point). AllZip AgreeAlways ps (map (point []) (list_of vs))) (sym (children_are g n ns below)) rest.1 in
    (rest.0, (AgreeAlways-parts (node_point g n) (point [] (construct c vs))).1 (head_is, pairs))

-- an element stands for itself
pub stands_element : (g : Nodes) (n : NodeId) (s : SortId) (k : ℕ) (v : Value) → option_map node_head (slice_get g n.0) ≡ Some (Elem s k) → StandsFor g n v → v ≡ element s k
stands_element g n s k (reference m) head_is stands = absurd (omega (arith, stands.0))
stands_element g n s k (element t j) head_is stands =
    let parts = (AgreeAlways-parts (node_point g n) (point [] (element t j))).0 stands.1 in
    let same : Elem s k ≡ Elem t j = same_Some (Elem s k) (Elem t j) (sym head_is ∙ parts.0) in
    cc
stands_element g n s k (construct e vs) head_is stands =
    let parts = (AgreeAlways-parts (node_point g n) (point [] (construct e vs))).0 stands.1 in
    let same : Elem s k ≡ Con e = same_Some (Elem s k) (Con e) (sym head_is ∙ parts.0) in
    cc

no_children : (x : Node) (s : SortId) (k : ℕ) → node_head x ≡ Elem s k → node_children x ≡ []
no_children (nodes.Con c ns) s k e = cc
no_children (nodes.Elem t j) s k e = refl

pub element_stands : (g : Nodes) (n : NodeId) (s : SortId) (k : ℕ) → option_map node_head (slice_get g n.0) ≡ Some (Elem s k) → StandsFor g n (element s k)
element_stands g n s k head_is =
    let x = option_map-source node_head (slice_get g n.0) (Elem s k) head_is in
    let below : option_map node_children (slice_get g n.0) ≡ Some [] = ap (option_map node_children) x.1 ∙ ap Some (no_children x.0 s k x.2) in
    let pairs = subst (λ (ps : List Point). AllZip AgreeAlways ps []) (sym (children_are g n [] below)) tt in
    (tt, (AgreeAlways-parts (node_point g n) (point [] (element s k))).1 (head_is, pairs))

-- a tree has a node
pub subterms_positive : (v : Value) → 0 < length (subterms v)
subterms_positive (reference n) = omega arith
subterms_positive (element s n) = omega arith
subterms_positive (construct c vs) = omega arith
