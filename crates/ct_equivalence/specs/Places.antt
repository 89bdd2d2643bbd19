-- The places at which terms stand in wide terms, while they are listed term by term.
use Rattle.std.specs.Prelude.{◌≡◌, ℕ, ◌<◌, ◌++◌, List, []}
use Rattle.ct_terms.specs.declared.ids.TermId.{TermId}
use Rattle.ct_terms.specs.declared.term.Core.{Core}
use Rattle.ct_terms.specs.Children.{core_children}
use Rattle.ct_terms.specs.Terms.{Terms, Has}
use Rattle.ct_equivalence.specs.declared.places.Place.{Place}
use Rattle.ct_equivalence.specs.Digests.{IsWide, places_in, places_among, places_of}

-- the places of these arguments of the term stand at the end of the rows, and those in other terms are as they were
pub record IsPlaced (t : TermId) (args : List TermId) (old new : List (List Place)) : Type 0 where
  pub adds : (m : TermId) → places_in t (places_of new m) ≡ places_in t (places_of old m) ++ places_among m 0 args
  pub others : (w m : TermId) → (w ≡ t → ⊥) → places_in w (places_of new m) ≡ places_in w (places_of old m)

-- the rows have the places in the wide terms below a number, and none in others
pub record ArePlacesBelow (terms : Terms) (n : ℕ) (rows : List (List Place)) : Type 0 where
  pub listed : (w : TermId) (core : Core) → w.0 < n → Has terms core w.0 → IsWide core → (m : TermId) → places_in w (places_of rows m) ≡ places_among m 0 (core_children core)
  pub none : (w m : TermId) → (w.0 < n → ⊥) → places_in w (places_of rows m) ≡ []
