-- What nodes of one value stand for.
use Rattle.std.proofs.Common.{[]}
use Rattle.ct_values.specs.declared.node.NodeId.{NodeId}
use Rattle.ct_values.specs.Graph.{Nodes}
use Rattle.ct_values.specs.Value.{Value}
use Rattle.ct_values.specs.Agreement.{point, node_point, AgreeAlways}
use Rattle.ct_value_text.specs.ValueText.{StandsFor}
use Rattle.ct_values.proofs.AgreeLemmas.{AgreeAlways-sym, AgreeAlways-trans}

-- nodes that agree at every depth stand for the same trees
pub stands_across : (g h : Nodes) (m n : NodeId) (v : Value) → AgreeAlways (node_point g m) (node_point h n) → StandsFor g m v → StandsFor h n v
stands_across g h m n v alike stands =
    (stands.0, AgreeAlways-trans (node_point h n) (node_point g m) (point [] v) (AgreeAlways-sym (node_point g m) (node_point h n) alike) stands.1)
