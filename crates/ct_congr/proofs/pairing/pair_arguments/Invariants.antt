use Rattle.std.proofs.Common.{◌≡◌, ℕ, ◌<◌, slice_get, Some}
use Rattle.ct_terms.specs.declared.ids.TermId.{TermId}
use Rattle.ct_terms.specs.declared.term.Core.TheVariants.{Con}
use Rattle.ct_terms.specs.Terms.{Terms, Has}
use Rattle.ct_congr.specs.Partition.{InOneClass}
use Rattle.ct_congr.specs.Joined.{AreJoined, WaitsOn}
use Rattle.ct_congr.proofs.pairing.pair_arguments.Given as goal

abbrev pub invariant-loop-s : goal.invariant-loop-s
invariant-loop-s l = record {
  pairs : (k : ℕ) (x y : TermId) → k < l.s-index → slice_get l.xs k ≡ Some x → slice_get l.ys k ≡ Some y → AreJoined l.reps l.waiting.items x y;
  waits : (terms : Terms) → InOneClass l.reps l.sides.0 l.sides.1 → Has terms (Con l.fn.c l.xs) l.sides.0.0 → Has terms (Con l.fn.c l.ys) l.sides.1.0 → WaitsOn l.sig terms l.reps l.initial.waiting.items l.waiting.items;
}
