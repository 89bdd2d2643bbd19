use Rattle.std.proofs.Common.{◌≡◌, ◌<◌, length, drop, slice_get}
use Rattle.std.specs.List.{flat_map}
use Rattle.ct_listing.specs.Listing.{built_by, listed}
use Rattle.ct_finite.proofs.parts.counted_at.Given as goal

abbrev pub invariant-loop-c : goal.invariant-loop-c
invariant-loop-c l =
    record {
      less : l.left < length (flat_map (built_by l.sig (listed l.sig)) (drop l.c-index l.c-items));
      entry : slice_get (listed l.sig l.fn.s) l.fn.k ≡ slice_get (flat_map (built_by l.sig (listed l.sig)) (drop l.c-index l.c-items)) l.left;
    }
