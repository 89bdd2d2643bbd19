-- The truth of a term from its node, and tests that two lists pass together.
use Rattle.std.proofs.Common.{◌≡◌, Bool, true, List, [], ◌∷◌, All, Some, slice_get, sym, ap, ◌∙◌, ◌↔◌}
use Rattle.std.specs.List.{AllZip, AllByRecursion}
use Rattle.std.proofs.lemmas.List.Elements.{recursion_from_All, All-from_recursion}
use Rattle.ct_sorts.specs.Declarations.{Declarations}
use Rattle.ct_values.specs.declared.node.NodeId.{NodeId}
use Rattle.ct_values.specs.Value.{reference}
use Rattle.ct_values.specs.Agreement.{Point, point, node_point, head, children, AgreeAlways}
use Rattle.ct_terms.specs.declared.ids.TermId.{TermId}
use Rattle.ct_terms.specs.Terms.{Terms}
use Rattle.ct_eval.specs.declared.interp.Interp.{Interp}
use Rattle.ct_eval.specs.declared.interp.Valuation.{Valuation}
use Rattle.ct_values.specs.TruthValue.{is_head, is_true}
use Rattle.ct_eval.specs.Evaluation.{value_of}
use Rattle.ct_eval.specs.Truth.{truth_value}
use Rattle.ct_eval.specs.Valued.{IsValuation}

-- the term is true where its node is `true`
pub truth_of-node : ((p q : Point) → AgreeAlways p q ↔ ((head p ≡ head q) × AllZip AgreeAlways (children p) (children q))) → (d : Declarations) (i : Interp) (terms : Terms) (v : Valuation) (t : TermId) → IsValuation d i terms v → (node : NodeId) → slice_get v.nodes t.0 ≡ Some node → is_true v.graph (reference node) ≡ truth_value d i terms t
truth_of-node always d i terms v t valued node at =
    ap (is_head (record { 0 = 0 })) ((always (node_point v.graph node) (point i.graph (value_of d i terms t))).0 (valued.values t node at).same).0

-- tests of two lists that are the same element by element, where the elements of the second have a property
module _ {X Y : Type 0} (R : X → Y → Type 0) (S : Y → Type 0) (p : X → Bool) (q : Y → Bool) (same : (x : X) (y : Y) → R x y → S y → p x ≡ q y) where
  each_pass : (xs : List X) (ys : List Y) → AllZip R xs ys → AllByRecursion S ys → AllByRecursion (λ x. p x ≡ true) xs ↔ AllByRecursion (λ y. q y ≡ true) ys
  each_pass [] [] h k = (λ a. tt, λ a. tt)
  each_pass [] (y ∷ ys) h k = absurd h
  each_pass (x ∷ xs) [] h k = absurd h
  each_pass (x ∷ xs) (y ∷ ys) h k =
      let e = same x y h.0 k.0 in
      let rest = each_pass xs ys h.1 k.1 in
      (λ a. (sym e ∙ a.0, rest.0 a.1), λ a. (e ∙ a.0, rest.1 a.1))

  pub all_pass : (xs : List X) (ys : List Y) → AllZip R xs ys → All S ys → All (λ x. p x ≡ true) xs ↔ All (λ y. q y ≡ true) ys
  all_pass xs ys h k =
      let both = each_pass xs ys h (recursion_from_All S ys k) in (
        λ a. All-from_recursion (λ y. q y ≡ true) ys (both.0 (recursion_from_All (λ x. p x ≡ true) xs a)),
        λ a. All-from_recursion (λ x. p x ≡ true) xs (both.1 (recursion_from_All (λ y. q y ≡ true) ys a)),
      )
