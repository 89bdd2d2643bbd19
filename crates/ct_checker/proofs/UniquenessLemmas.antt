-- Uniqueness is sound: the sides of pairs that match agree to each depth, by induction on the depth for all pairs at once.
use Rattle.std.proofs.Common.{ℕ, zero, suc, inl, inr, IsTrue, List, [], ◌∷◌, map, Contains, sym, ◌∙◌}
use Rattle.std.specs.List.{AllZip}
use Rattle.ct_sorts.specs.Declarations.{Declarations}
use Rattle.ct_values.specs.Agreement.{point, agree}
use Rattle.ct_terms.specs.declared.ids.TermId.{TermId}
use Rattle.ct_terms.specs.Terms.{Terms}
use Rattle.ct_eval.specs.declared.interp.Interp.{Interp}
use Rattle.ct_eval.specs.Evaluation.{value_of}
use Rattle.ct_rules.specs.declared.equation.Equation.{Equation}
use Rattle.ct_rules.specs.Rules.{Equations}
use Rattle.ct_rules.specs.Uniqueness.{AreMatched, AreAllMatched, IsUniqueness}
use Rattle.ct_checker.proofs.Setting.{Setting, Equal, value_point}
use Rattle.ct_checker.proofs.ValueLemmas.{over_arguments}

module _ (d : Declarations) (i : Interp) (terms : Terms) (setting : Setting d i terms) (known : Equations) (sound : (x y : TermId) → known x y → Equal d i terms x y) where
  -- the terms' values agree to this depth
  abbrev AgreeTo : ℕ → TermId → TermId → Type 0
  AgreeTo k x y = IsTrue (agree k (value_point d i terms x) (value_point d i terms y))

  agree_chained : (k : ℕ) (x y z : TermId) → AgreeTo k x y → AgreeTo k y z → AgreeTo k x z
  agree_chained k x y z first second = (setting.same.equivalence k).congr (value_point d i terms x) (value_point d i terms y) (value_point d i terms z) first ∙ second

  module _ (pairs : List Equation) (matched : AreAllMatched terms known pairs) where
    -- the sides of every pair agree to this depth
    abbrev PairsAgreeTo : ℕ → Type 0
    PairsAgreeTo k = (pair : Equation) → Contains pairs pair → AgreeTo k pair.left pair.right

    -- so do terms that match
    match_agrees : (k : ℕ) → PairsAgreeTo k → (x y : TermId) → AreMatched known pairs x y → AgreeTo k x y
    match_agrees k each x y (inl equal) = sound x y equal k
    match_agrees k each x y (inr (pair, listed, left, right)) =
        agree_chained k x pair.left y (sound x pair.left left k) (agree_chained k pair.left pair.right y (each pair listed) (sound pair.right y right k))

    matches_agree : (k : ℕ) → PairsAgreeTo k → (xs ys : List TermId) → AllZip (AreMatched known pairs) xs ys → AllZip (λ p q. IsTrue (agree k p q)) (map (point i.graph) (map (value_of d i terms) xs)) (map (point i.graph) (map (value_of d i terms) ys))
    matches_agree k each [] [] all = tt
    matches_agree k each [] (y ∷ ys) all = absurd all
    matches_agree k each (x ∷ xs) [] all = absurd all
    matches_agree k each (x ∷ xs) (y ∷ ys) all = (match_agrees k each x y all.0, matches_agree k each xs ys all.1)

    pairs_agree : (k : ℕ) → PairsAgreeTo k
    pairs_agree zero pair listed = setting.same.start (value_point d i terms pair.left) (value_point d i terms pair.right)
    pairs_agree (suc k) pair listed =
        let match = matched pair listed in
        (setting.same.step k (value_point d i terms pair.left) (value_point d i terms pair.right)).1 (
          setting.table.ctor_head pair.left match.ctor match.xs match.left_stands ∙ sym (setting.table.ctor_head pair.right match.ctor match.ys match.right_stands),
          over_arguments d i terms setting (λ p q. IsTrue (agree k p q)) pair.left pair.right match.ctor match.ctor match.xs match.ys match.left_stands match.right_stands (matches_agree k (pairs_agree k) match.xs match.ys match.arguments),
        )

  pub uniqueness_sound : (x y : TermId) → IsUniqueness terms known x y → Equal d i terms x y
  uniqueness_sound x y rule k = pairs_agree rule.pairs rule.matched k (record { left = x; right = y }) rule.listed
