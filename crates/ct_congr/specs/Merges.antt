-- The classes of a list of merges: the least equivalence that holds them all.
use Rattle.std.specs.Prelude.{◌≡◌, ℕ, ◌⊎◌, List, [], ◌∷◌, take, Some, slice_get, Contains}
use Rattle.ct_sorts.specs.Declarations.{Declarations}
use Rattle.ct_terms.specs.declared.ids.TermId.{TermId}
use Rattle.ct_terms.specs.declared.ids.Lit.{Lit}
use Rattle.ct_terms.specs.Terms.{Terms}
use Rattle.ct_congr.specs.declared.merge.Merge.{Merge}
use Rattle.ct_congr.specs.Reasons.{IsJustified}

-- the two terms are the sides of a merge
abbrev pub IsLink : List Merge → TermId → TermId → Type 0
IsLink merges x y = (m : Merge) × Contains merges m × (((m.left ≡ x) × (m.right ≡ y)) ⊎ ((m.left ≡ y) × (m.right ≡ x)))

-- from x over the terms of the list to y, each next two are the sides of a merge
abbrev pub IsChain : List Merge → TermId → List TermId → TermId → Type 0
IsChain merges x [] y = x ≡ y
IsChain merges x (z ∷ zs) y = IsLink merges x z × IsChain merges z zs y

-- some chain of merges leads from one term to the other
abbrev pub AreConnected : List Merge → TermId → TermId → Type 0
AreConnected merges x y = (zs : List TermId) × IsChain merges x zs y

-- each merge is justified in the classes of those before it
abbrev pub AreJustified : Declarations → Terms → List Lit → List Merge → Type 0
AreJustified d terms hyps merges = (k : ℕ) (m : Merge) → slice_get merges k ≡ Some m → IsJustified d terms hyps (AreConnected (take k merges)) m
