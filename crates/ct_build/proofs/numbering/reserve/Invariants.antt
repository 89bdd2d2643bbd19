use Rattle.std.proofs.Common.{◌≡◌, ℕ, ◌<◌, length, slice_get, Some}
use Rattle.ct_terms.specs.declared.ids.TermId.{TermId}
use Rattle.ct_values.specs.declared.node.NodeId.{NodeId}
use Rattle.ct_build.specs.Nodes.{IsReserved}
use Rattle.ct_build.proofs.numbering.reserve.Given as goal

abbrev pub invariant-loop-i : goal.invariant-loop-i
invariant-loop-i l = record {
  many : length l.nodes.items ≡ length l.initial.nodes.items;
  each : (k : ℕ) (r : TermId) → k < l.i → slice_get l.list k ≡ Some r → (m : NodeId) × (slice_get l.nodes.items r.0 ≡ Some m) × IsReserved l.list l.base r m;
}
