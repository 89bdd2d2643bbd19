-- How the clause of steps grows, and the stamps with it.
use Rattle.std.proofs.Common.{◌≡◌, ℕ, ◌+◌, ◌*◌, ◌<◌, Bool, true, false, List, [], ◌∷◌, ◌++◌, length, set, replicate, slice_get, Some, refl, sym, ap, subst, ◌∙◌, inl, inr, arith, true≢false}
use Rattle.std.specs.List.{Contains}
use Rattle.std.proofs.lemmas.Bool.{cases_order}
use Rattle.std.proofs.lemmas.Option.{none-some}
use Rattle.std.proofs.lemmas.List.Elements.{Contains-append_left, Contains-push, Contains-push_cases}
use Rattle.ct_lemmas.proofs.Booleans.{not_twice}
use Rattle.ct_lemmas.proofs.Contained.{Contains-from_slice_get, slice_get-from_Contains}
use Rattle.ct_lemmas.proofs.Lists.{slice_get-push_cases, slice_get-replicate, slice_get-set_other, slice_get-set_same}
use Rattle.ct_terms.specs.declared.ids.Lit.{Lit}
use Rattle.ct_terms.specs.Literal.{opposite}
use Rattle.ct_terms.specs.Clause.{Clause}
use Rattle.ct_log.specs.declared.rules.EqStep.{EqStep}
use Rattle.ct_log.specs.declared.rules.EqStep.TheVariants.{Hyp}
use Rattle.ct_theory.specs.Entailment.{StandOnce}
use Rattle.ct_theory.specs.Steps.{Covers, sign_index, stamp_index, IsClauseOf, AreStamped}

-- ---- literals

pub opposite-twice : (l : Lit) → opposite (opposite l) ≡ l
opposite-twice l = λ i. record { term = l.term; positive = not_twice l.positive i }

opposite-one : (l m : Lit) → opposite l ≡ opposite m → l ≡ m
opposite-one l m e = sym (opposite-twice l) ∙ ap opposite e ∙ opposite-twice m

same_sign : (a b : Bool) (m n : ℕ) → m * 2 + sign_index a ≡ n * 2 + sign_index b → (m ≡ n) × (a ≡ b)
same_sign true true m n e = (omega (arith, e), refl)
same_sign true false m n e = absurd (omega (arith, e))
same_sign false true m n e = absurd (omega (arith, e))
same_sign false false m n e = (omega (arith, e), refl)

-- literals with one place of a stamp are one
stamp_index-one : (l m : Lit) → stamp_index l ≡ stamp_index m → l ≡ m
stamp_index-one l m e =
    let same = same_sign l.positive m.positive l.term.0 m.term.0 e in
    λ i. record { term = record { 0 = same.0 i }; positive = same.1 i }

-- the place is within two stamps a term
pub stamp_index-within : (l : Lit) (terms : ℕ) → l.term.0 < terms → stamp_index l < terms * 2
stamp_index-within l terms below = sign l.positive
  where
    sign : (b : Bool) → l.term.0 * 2 + sign_index b < terms * 2
    sign true = omega (arith, below)
    sign false = omega (arith, below)

-- two steps that name literals are one where the literals are
pub Hyp-one : (l m : Lit) → Hyp l ≡ Hyp m → l ≡ m
Hyp-one l m e = cc

-- ---- no steps

pub AreStamped-none : (n : ℕ) → AreStamped (replicate n false) []
AreStamped-none n l = (
  λ at. absurd (true≢false (slice_get-replicate n (stamp_index l) false true at)),
  λ h. absurd (none-some (opposite l) (slice_get-from_Contains [] (opposite l) h).1),
)

pub IsClauseOf-none : IsClauseOf [] []
IsClauseOf-none = record {
  covers = λ l h. absurd (none-some (Hyp l) (slice_get-from_Contains [] (Hyp l) h).1);
  used = λ l h. absurd (none-some l (slice_get-from_Contains [] l h).1);
  once = λ i j l at_i at_j. absurd (none-some l at_i);
}

-- ---- one step more

module _ (steps : List EqStep) (clause : Clause) (is : IsClauseOf steps clause) where
  used-more : (step : EqStep) (l : Lit) → Contains clause l → Contains (steps ++ step ∷ []) (Hyp (opposite l))
  used-more step l h = Contains-append_left steps (step ∷ []) (Hyp (opposite l)) (is.used l h)

  -- a step that names no literal, or one whose opposite stands in the clause
  pub IsClauseOf-same : (step : EqStep) → ((l : Lit) → step ≡ Hyp l → Contains clause (opposite l)) → IsClauseOf (steps ++ step ∷ []) clause
  IsClauseOf-same step stands = record {
    covers = λ l h. elim (Contains-push_cases steps step (Hyp l) h) [ inl before ↦ is.covers l before | inr here ↦ stands l here ];
    used = used-more step;
    once = is.once;
  }

  -- a literal whose opposite is put into the clause
  pub IsClauseOf-more : (l : Lit) → (Contains clause (opposite l) → ⊥) → IsClauseOf (steps ++ Hyp l ∷ []) (clause ++ opposite l ∷ [])
  IsClauseOf-more l absent = record {
    covers = covers;
    used = used;
    once = once;
  }
    where
      covers : Covers (clause ++ opposite l ∷ []) (steps ++ Hyp l ∷ [])
      covers m h = elim (Contains-push_cases steps (Hyp l) (Hyp m) h) [
        | inl before ↦ Contains-append_left clause (opposite l ∷ []) (opposite m) (is.covers m before)
        | inr here ↦ let same : l ≡ m = cc in subst (λ (k : Lit). Contains (clause ++ opposite l ∷ []) (opposite k)) same (Contains-push clause (opposite l))
      ]

      used : (m : Lit) → Contains (clause ++ opposite l ∷ []) m → Contains (steps ++ Hyp l ∷ []) (Hyp (opposite m))
      used m h = elim (Contains-push_cases clause (opposite l) m h) [
        | inl before ↦ used-more (Hyp l) m before
        | inr here ↦ subst (λ (k : Lit). Contains (steps ++ Hyp l ∷ []) (Hyp k)) (sym (opposite-twice l) ∙ ap opposite here) (Contains-push steps (Hyp l))
      ]

      once : StandOnce (clause ++ opposite l ∷ [])
      once i j m at_i at_j = elim (slice_get-push_cases clause (opposite l) m i at_i) [
        | inl old_i ↦ elim (slice_get-push_cases clause (opposite l) m j at_j) [
          | inl old_j ↦ is.once i j m old_i old_j
          | inr new_j ↦ absurd (absent (subst (Contains clause) (sym new_j.1) (Contains-from_slice_get clause i m old_i)))
        ]
        | inr new_i ↦ elim (slice_get-push_cases clause (opposite l) m j at_j) [
          | inl old_j ↦ absurd (absent (subst (Contains clause) (sym new_i.1) (Contains-from_slice_get clause j m old_j)))
          | inr new_j ↦ new_i.0 ∙ sym new_j.0
        ]
      ]

-- the stamp of the literal is set, and its opposite put into the clause
pub AreStamped-more : (stamps : List Bool) (clause : Clause) (l : Lit) → stamp_index l < length stamps → AreStamped stamps clause → AreStamped (set stamps (stamp_index l) true) (clause ++ opposite l ∷ [])
AreStamped-more stamps clause l within stamped m = elim (cases_order (stamp_index m) (stamp_index l)) [
  | inl e ↦
      let same = stamp_index-one m l e in (
        λ at. subst (λ (k : Lit). Contains (clause ++ opposite l ∷ []) (opposite k)) (sym same) (Contains-push clause (opposite l)),
        λ h. subst (λ k. slice_get (set stamps (stamp_index l) true) k ≡ Some true) (sym e) (slice_get-set_same stamps (stamp_index l) true within),
      )
  | inr apart ↦
      let differ : stamp_index m ≡ stamp_index l → ⊥ = λ e. elim apart [ inl less ↦ omega (arith, less, e) | inr greater ↦ omega (arith, greater, e) ] in
      let stays = slice_get-set_other stamps (stamp_index l) (stamp_index m) true differ in (
        λ at. Contains-append_left clause (opposite l ∷ []) (opposite m) ((stamped m).0 (sym stays ∙ at)),
        λ h. elim (Contains-push_cases clause (opposite l) (opposite m) h) [
          | inl before ↦ stays ∙ (stamped m).1 before
          | inr here ↦ absurd (differ (ap stamp_index (sym (opposite-one l m here))))
        ],
      )
]
