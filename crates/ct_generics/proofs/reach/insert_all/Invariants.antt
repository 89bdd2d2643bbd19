use Rattle.std.proofs.Common.{◌≡◌, ℕ, Some, slice_get, take}
use Rattle.std.specs.List.{AllZip}
use Rattle.ct_generics.specs.declared.nodes.ExprId.{ExprId}
use Rattle.ct_generics.specs.Nodes.{Stay}
use Rattle.ct_generics.proofs.ImageLemmas.{AddsOnly}
use Rattle.ct_generics.proofs.reach.insert_all.Given as goal

abbrev pub invariant-loop-root : goal.invariant-loop-root
invariant-loop-root l =
    record {
      stay : Stay l.fn.ids l.ids;
      at : AllZip (λ i (id : ExprId). slice_get l.ids i ≡ Some id) l.starts.items (take l.root-index l.roots);
      only : AddsOnly l.fn.ids l.ids (λ id. (k : ℕ) × (slice_get (take l.root-index l.roots) k ≡ Some id));
    }
