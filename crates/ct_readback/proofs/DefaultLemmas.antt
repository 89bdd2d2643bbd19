-- Default values, which stay where a graph grows.
use Rattle.std.proofs.Common.{◌≡◌, ℕ, List, ◌++◌, Some}
use Rattle.ct_lemmas.proofs.Lists.{slice_get-append_left}
use Rattle.ct_sorts.specs.declared.ids.SortId.{SortId}
use Rattle.ct_sorts.specs.Declarations.{Declarations}
use Rattle.ct_values.specs.declared.node.NodeId.{NodeId}
use Rattle.ct_values.specs.Graph.{Nodes}
use Rattle.ct_card.specs.Defaults.{node_of_sort, default_node}
use Rattle.ct_card.specs.Sizes.{AreDefaultValues, IsDefaultValue, Table as Sizes}
use Rattle.ct_card.proofs.WellFormedLemmas.{longer_sort}
use Rattle.ct_eval.specs.declared.interp.Table.{Table}
use Rattle.ct_readback.specs.Progress.{IsDefaultNode, IsOtherTable, AreDefaults}

value_longer : (d : Declarations) (sizes : Sizes) (g more : Nodes) (s : ℕ) (n : NodeId) → IsDefaultValue d sizes g s n → IsDefaultValue d sizes (g ++ more) s n
value_longer d sizes g more s n h = record {
  base = h.base;
  stand = λ t c within chosen.
      slice_get-append_left g more (node_of_sort h.base sizes.ranks t).0 (default_node d sizes.ranks h.base t c) (h.stand t c within chosen);
  node = h.node;
}

pub default_longer : (d : Declarations) (sizes : Sizes) (g more : Nodes) (s : SortId) (n : NodeId) → IsDefaultNode d sizes g s n → IsDefaultNode d sizes (g ++ more) s n
default_longer d sizes g more s n h = record { sorted = longer_sort d g more n s h.sorted; value = value_longer d sizes g more s.0 n h.value }

pub other_longer : (d : Declarations) (sizes : Sizes) (g more : Nodes) (s : SortId) (table : Table) → IsOtherTable d sizes g s table → IsOtherTable d sizes (g ++ more) s table
other_longer d sizes g more s table h = record { no_rows = h.no_rows; default = default_longer d sizes g more s table.default h.default }

pub defaults_longer : (d : Declarations) (sizes : Sizes) (g more : Nodes) (nodes : List NodeId) → AreDefaults d sizes g nodes → AreDefaults d sizes (g ++ more) nodes
defaults_longer d sizes g more nodes h = record { each = λ s n at. default_longer d sizes g more s n (h.each s n at) }

-- the nodes of all sorts
pub defaults_all : (d : Declarations) (sizes : Sizes) (g : Nodes) (nodes : List NodeId) → AreDefaultValues d sizes g nodes → AreDefaults d sizes g nodes
defaults_all d sizes g nodes h = record { each = λ s n at. record { sorted = h.sorted s n at; value = h.value s.0 n at } }
