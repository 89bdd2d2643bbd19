-- Nodes that were chosen are nodes of the graph.
use Rattle.std.proofs.Common.{◌≡◌, ℕ, ◌<◌, List, length, slice_get, Some, arith}
use Rattle.std.proofs.lemmas.Option.{slice_get_within}
use Rattle.ct_lemmas.proofs.Lists.{slice_get-there}
use Rattle.ct_values.specs.declared.node.NodeId.{NodeId}
use Rattle.ct_values.specs.Graph.{Nodes}
use Rattle.ct_congr.specs.State.{State}
use Rattle.ct_build.specs.declared.open_classes.OpenClass.{OpenClass}
use Rattle.ct_build.specs.OpenClasses.{AreOpenClasses}
use Rattle.ct_build.specs.Chosen.{AreChosen}

pub chosen_below : (state : State) (g : Nodes) (defaults : List NodeId) (unbuilt : List OpenClass) (chosen : List NodeId) → AreOpenClasses state unbuilt → AreChosen state g defaults unbuilt chosen
    → (i : ℕ) (n : NodeId) → slice_get chosen i ≡ Some n → n.0 < length g
chosen_below state g defaults unbuilt chosen open_classes are i n at =
    let (class, listed) = slice_get-there unbuilt i (omega (arith, are.few, slice_get_within chosen i n at)) in
    let is = open_classes.only i class listed in
    let (node, there, sorted) = are.sorted i class n is.sort listed at is.sorted in
    slice_get_within g n.0 node there
