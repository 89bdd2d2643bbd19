use Rattle.std.proofs.Common.{ℕ, ◌⊎◌}
use Rattle.ct_sorts.specs.declared.ids.SortId.{SortId}
use Rattle.ct_readback.specs.Descent.{HasSort, HasPair, Keeps}
use Rattle.ct_readback.proofs.descent.note.Given as goal

abbrev pub invariant-loop-place : goal.invariant-loop-place
invariant-loop-place l = Keeps l.initial.known.items l.known.items × ((i : ℕ) (s : SortId) → HasSort l.known.items i s → HasSort l.initial.known.items i s ⊎ HasPair l.pairs.keys (i, s))
