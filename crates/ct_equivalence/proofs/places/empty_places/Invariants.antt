use Rattle.std.proofs.Common.{◌≡◌, [], length}
use Rattle.ct_terms.specs.declared.ids.TermId.{TermId}
use Rattle.ct_equivalence.specs.Digests.{places_of}
use Rattle.ct_equivalence.proofs.places.empty_places.Given as goal

abbrev pub invariant-loop : goal.invariant-loop
invariant-loop l = record { long : length l.rows ≡ l.counter; empty : (m : TermId) → places_of l.rows m ≡ [] }
