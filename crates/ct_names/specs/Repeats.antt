-- Names that were met.
use Rattle.std.specs.Prelude.{ℕ, Bool, List, map}
use Rattle.std.specs.Borrow.{Bor}
use Rattle.std.specs.List.{list_any}
use Rattle.std.specs.Str.{bytes_eq}
use Rattle.indexmap.specs.IndexSet.{IndexSet}

-- the names in a set
abbrev pub names_in_set : {S : Type 0} → IndexSet (Bor (List ℕ)) S → List (List ℕ)
names_in_set met = map (λ (text : Bor (List ℕ)). text.now) met.keys

-- one of the names was met
abbrev pub are_met : List (List ℕ) → List (List ℕ) → Bool
are_met met names = list_any (λ name. list_any (bytes_eq name) met) names
