-- An equivalence that holds merges holds of what they connect.
use Rattle.std.proofs.Common.{◌≡◌, Bool, true, List, [], ◌∷◌, subst, inl, inr}
use Rattle.std.specs.List.{Contains}
use Rattle.ct_terms.specs.declared.ids.TermId.{TermId}
use Rattle.ct_congr.specs.declared.merge.Merge.{Merge}
use Rattle.ct_congr.specs.Merges.{IsChain, AreConnected}

module _ (merges : List Merge) (related : TermId → TermId → Bool) (reflexive : (x : TermId) → related x x ≡ true) (symmetric : (x y : TermId) → related x y ≡ true → related y x ≡ true) (transitive : (x y z : TermId) → related x y ≡ true → related y z ≡ true → related x z ≡ true) (holds : (m : Merge) → Contains merges m → related m.left m.right ≡ true) where
  IsChain-least : (x : TermId) (zs : List TermId) (y : TermId) → IsChain merges x zs y → related x y ≡ true
  IsChain-least x [] y h = subst (λ (t : TermId). related x t ≡ true) h (reflexive x)
  IsChain-least x (z ∷ zs) y h =
      let m = h.0.0 in
      let one = holds m h.0.1 in
      let step : related x z ≡ true = elim h.0.2 [
        | inl p ↦ subst (λ (t : TermId). related t z ≡ true) p.0 (subst (λ (t : TermId). related m.left t ≡ true) p.1 one)
        | inr p ↦ symmetric z x (subst (λ (t : TermId). related t x ≡ true) p.0 (subst (λ (t : TermId). related m.left t ≡ true) p.1 one))
      ] in
      transitive x z y step (IsChain-least z zs y h.1)

  pub AreConnected-least : (x y : TermId) → AreConnected merges x y → related x y ≡ true
  AreConnected-least x y h = IsChain-least x h.0 y h.1
