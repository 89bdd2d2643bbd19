-- Labels, one more.
use Rattle.std.proofs.Common.{◌≡◌, ℕ, ◌+◌, List, [], ◌∷◌, ◌++◌, slice_index, sym, subst, inl, inr, arith, length-append}
use Rattle.std.proofs.lemmas.Bool.{cases_order}
use Rattle.ct_lemmas.proofs.Slices.{index-last, index-left}
use Rattle.ct_congr.specs.State.{State}
use Rattle.ct_unique.specs.Nodes.{IsLabel, AreLabels}

pub AreLabels-more : (state : State) (count label : ℕ) (labels : List ℕ) → AreLabels state count labels → IsLabel state count label → AreLabels state (count + 1) (labels ++ label ∷ [])
AreLabels-more state count label labels old is = record {
  long = omega (arith, old.long, length-append labels (label ∷ []));
  each = λ t before. elim (cases_order t count) [
    | inl e ↦
        let same : slice_index (labels ++ label ∷ []) t ≡ label = index-last labels label t (omega (arith, e, old.long)) in
        subst (IsLabel state t) (sym same) (subst (λ n. IsLabel state n label) (sym e) is)
    | inr h ↦ elim h [
      | inl less ↦
          let same : slice_index (labels ++ label ∷ []) t ≡ slice_index labels t = index-left labels label t (omega (arith, less, old.long)) in
          subst (IsLabel state t) (sym same) (old.each t less)
      | inr greater ↦ absurd (omega (arith, before, greater))
    ]
  ];
}
