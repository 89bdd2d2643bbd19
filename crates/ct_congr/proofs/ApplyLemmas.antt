-- Adding the merges of a list one after the other.
use Rattle.std.proofs.Common.{◌≡◌, ◌<◌, ◌⊎◌, List, [], ◌∷◌, ◌++◌, length, Option, slice_get, Some, refl, sym, ap, subst, ◌∙◌, inl, inr, arith}
use Rattle.std.proofs.lemmas.List.{append-nil, append_assoc}
use Rattle.ct_lemmas.proofs.Lists.{slice_get-append_left, slice_get-last}
use Rattle.ct_sorts.specs.Declarations.{Declarations}
use Rattle.ct_terms.specs.declared.ids.TermId.{TermId}
use Rattle.ct_terms.specs.declared.ids.Lit.{Lit}
use Rattle.ct_terms.specs.Terms.{Terms}
use Rattle.ct_rules.specs.declared.equation.Equation.{Equation}
use Rattle.ct_congr.specs.declared.merge.Merge.{Merge}
use Rattle.ct_congr.specs.Partition.{InOneClass}
use Rattle.ct_congr.specs.Needed.{IsNeeded}
use Rattle.ct_congr.specs.Sound.{roots, AreCons, IsJoined, IsSound}
use Rattle.ct_congr.specs.Grown.{IsLater, AreApart}
use Rattle.ct_congr.proofs.MergeLemmas.{IsReason-wider, IsSound-more}
use Rattle.ct_congr.proofs.StoreLemmas.{IsLater-more}
use Rattle.ct_congr.proofs.CompleteLemmas.{Theorems, Derives-reason}

-- how far the merges of a list are added: those at the end are, and the first ones are left
pub record IsAdding (old now : List TermId) (merges between : List Merge) (found left : List Merge) : Type 0 where
  pub done : List Merge
  pub split : found ≡ left ++ done
  pub later : IsLater old now merges between
  pub fewer : ((done ≡ []) × (now ≡ old)) ⊎ (AreApart old found → roots now < roots old)

pub IsAdding-none : (old : List TermId) (merges found : List Merge) → IsLater old old merges merges → IsAdding old old merges merges found found
IsAdding-none old merges found same = record { done = []; split = sym (append-nil found); later = same; fewer = inl (refl, refl) }

pub IsAdding-more : (old now new : List TermId) (merges between after : List Merge) (found left : List Merge) (m : Merge) → IsAdding old now merges between found (left ++ m ∷ []) → IsJoined now new m.left m.right → after ≡ between ++ m ∷ [] → IsAdding old new merges after found left
IsAdding-more old now new merges between after found left m adding joined is = record {
  done = m ∷ adding.done;
  split = adding.split ∙ append_assoc left (m ∷ []) adding.done;
  later = IsLater-more old now new merges between after m adding.later joined is;
  fewer = inr (λ apart. elim adding.fewer [
    | inl first ↦
        let here : slice_get found (length left) ≡ Some m = rw adding.split (slice_get-append_left (left ++ m ∷ []) adding.done (length left) m (slice_get-last left m)) in
        let separate : InOneClass now m.left m.right → ⊥ = λ one. apart (length left) m here (subst (λ (reps : List TermId). InOneClass reps m.left m.right) first.1 one) in
        let less = joined.fewer separate in
        subst (λ (reps : List TermId). roots new < roots reps) first.1 less
    | inr less ↦ omega (arith, less apart, joined.no_more)
  ]);
}

-- the next merge is one of the list
pub next_of : (old now : List TermId) (merges between : List Merge) (found left : List Merge) (m : Merge) → IsAdding old now merges between found (left ++ m ∷ []) → slice_get found (length left) ≡ Some m
next_of old now merges between found left m adding = rw adding.split (slice_get-append_left (left ++ m ∷ []) adding.done (length left) m (slice_get-last left m))

-- all are added
pub IsAdding-all : (old now : List TermId) (merges between : List Merge) (found : List Merge) → IsAdding old now merges between found [] → 0 < length found → AreApart old found → roots now < roots old
IsAdding-all old now merges between found adding some apart = elim adding.fewer [
  | inl none ↦ absurd (omega (arith, some, ap length adding.split, ap length none.0))
  | inr less ↦ less apart
]

-- a merge that was needed keeps classes sound
pub IsSound-needed : (d : Declarations) (terms : Terms) (hyps : List Lit) (given : List Equation) → Theorems d terms hyps given → (old now new : List TermId) (cons more : List (Option TermId)) (merges : List Merge) (m : Merge) → IsNeeded d terms hyps old m → ((x y : TermId) → InOneClass old x y → InOneClass now x y) → IsSound d terms hyps given now cons merges → IsJoined now new m.left m.right → length more ≡ length cons → (AreCons terms now cons → AreCons terms new more) → IsSound d terms hyps given new more (merges ++ m ∷ [])
IsSound-needed d terms hyps given theorems old now new cons more merges m needed keeps sound joined long stored =
    let why = IsReason-wider d terms hyps (InOneClass old) (InOneClass now) keeps m.left m.right m.why needed.justified in
    IsSound-more d terms hyps given now new cons more merges m sound joined why (Derives-reason d terms hyps given theorems now cons merges sound m why needed.rule) long (stored sound.stored)
