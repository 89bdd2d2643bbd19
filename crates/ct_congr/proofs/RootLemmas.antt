-- How many classes there are: fewer where two became one. And what uniting two classes comes to.
use Rattle.std.proofs.Common.{◌≡◌, ℕ, zero, suc, ◌+◌, ◌<◌, ◌≤◌, Bool, true, false, cond, nat_eq, List, [], ◌∷◌, length, Option, slice_get, Some, None, refl, sym, ap, subst, ◌∙◌, inl, inr, arith}
use Rattle.std.proofs.lemmas.Bool.Decides.{Decides-eqb}
use Rattle.std.proofs.lemmas.Option.{none-some, same_Some}
use Rattle.ct_terms.specs.declared.ids.TermId.{TermId}
use Rattle.ct_congr.specs.Partition.{InOneClass, IsUnion, IsUnited}
use Rattle.ct_congr.specs.Sound.{roots_from, roots, IsJoined}
use Rattle.ct_congr.proofs.PartitionLemmas.{relabelled_from, IsUnion-keeps, IsUnion-joins, IsUnion-cases}

-- the term at the index is the one with this number, in lists that begin with the number n
abbrev IsOwn : ℕ → List TermId → ℕ → Type 0
IsOwn n reps k = (r : TermId) × (slice_get reps k ≡ Some r) × (r.0 ≡ n + k)

count-le : (b c : Bool) → (b ≡ true → c ≡ true) → cond b 1 0 ≤ cond c 1 0
count-le true c h = let e = h refl in rw e (omega arith)
count-le false true h = omega arith
count-le false false h = omega arith

count-lt : (b c : Bool) → (b ≡ true → ⊥) → c ≡ true → cond b 1 0 < cond c 1 0
count-lt true c not_first second = absurd (not_first refl)
count-lt false c not_first second = rw second (omega arith)

-- the first elements
head_own : (n : ℕ) (r : TermId) (rs : List TermId) → nat_eq r.0 n ≡ true → IsOwn n (r ∷ rs) 0
head_own n r rs h = (r, refl, (Decides-eqb r.0 n).0 h ∙ omega arith)

own_head : (n : ℕ) (r : TermId) (rs : List TermId) → IsOwn n (r ∷ rs) 0 → nat_eq r.0 n ≡ true
own_head n r rs h = (Decides-eqb r.0 n).1 (ap (λ (t : TermId). t.0) (same_Some r h.0 h.1) ∙ h.2 ∙ omega arith)

-- the later elements
later_own : (n : ℕ) (r : TermId) (rs : List TermId) (k : ℕ) → IsOwn (suc n) rs k → IsOwn n (r ∷ rs) (suc k)
later_own n r rs k h = (h.0, h.1, h.2 ∙ omega arith)

own_later : (n : ℕ) (r : TermId) (rs : List TermId) (k : ℕ) → IsOwn n (r ∷ rs) (suc k) → IsOwn (suc n) rs k
own_later n r rs k h = (h.0, h.1, h.2 ∙ omega arith)

roots-le : (n : ℕ) (old new : List TermId) → length new ≡ length old → ((k : ℕ) → IsOwn n new k → IsOwn n old k) → roots_from n new ≤ roots_from n old
roots-le n [] [] long each = omega arith
roots-le n [] (r ∷ rs) long each = absurd (omega (arith, long))
roots-le n (s ∷ ss) [] long each = absurd (omega (arith, long))
roots-le n (s ∷ ss) (r ∷ rs) long each =
    let first = count-le (nat_eq r.0 n) (nat_eq s.0 n) (λ h. own_head n s ss (each 0 (head_own n r rs h))) in
    let rest = roots-le (suc n) ss rs (omega (arith, long)) (λ k h. own_later n s ss k (each (suc k) (later_own n r rs k h))) in
    omega (arith, first, rest)

roots-lt : (n : ℕ) (old new : List TermId) → length new ≡ length old → ((k : ℕ) → IsOwn n new k → IsOwn n old k) → (k : ℕ) → IsOwn n old k → (IsOwn n new k → ⊥) → roots_from n new < roots_from n old
roots-lt n [] new long each k own lost = absurd (none-some own.0 own.1)
roots-lt n (s ∷ ss) [] long each k own lost = absurd (omega (arith, long))
roots-lt n (s ∷ ss) (r ∷ rs) long each zero own lost =
    let first = count-lt (nat_eq r.0 n) (nat_eq s.0 n) (λ h. lost (head_own n r rs h)) (own_head n s ss own) in
    let rest = roots-le (suc n) ss rs (omega (arith, long)) (λ k h. own_later n s ss k (each (suc k) (later_own n r rs k h))) in
    omega (arith, first, rest)
roots-lt n (s ∷ ss) (r ∷ rs) long each (suc k) own lost =
    let first = count-le (nat_eq r.0 n) (nat_eq s.0 n) (λ h. own_head n s ss (each 0 (head_own n r rs h))) in
    let rest = roots-lt (suc n) ss rs (omega (arith, long)) (λ j h. own_later n s ss j (each (suc j) (later_own n r rs j h))) k (own_later n s ss k own) (λ h. lost (later_own n r rs k h)) in
    omega (arith, first, rest)

module _ (old new : List TermId) (a b winner loser : TermId) (union : IsUnion old new a b winner loser) where
  stay_own : (k : ℕ) → IsOwn 0 new k → IsOwn 0 old k
  stay_own k h =
      let is : h.0.0 ≡ k = h.2 ∙ omega arith in
      let own : slice_get new h.0.0 ≡ Some h.0 = ap (slice_get new) is ∙ h.1 in
      elim (relabelled_from old new winner loser union.relabelled h.0 h.0 own) [
        | inl p ↦ (winner, ap (slice_get old) (sym is ∙ ap (λ (t : TermId). t.0) p.0) ∙ union.winner_is, sym (ap (λ (t : TermId). t.0) p.0) ∙ h.2)
        | inr p ↦ (h.0, ap (slice_get old) (sym is) ∙ p.1, h.2)
      ]

  lost_own : IsOwn 0 new loser.0 → ⊥
  lost_own h =
      let now : slice_get new loser.0 ≡ Some winner = elim (union.relabelled.each loser loser union.loser_is) [ inl p ↦ p.1 | inr p ↦ absurd (p.0 refl) ] in
      let same : h.0 ≡ winner = same_Some h.0 winner (sym h.1 ∙ now) in
      let e : winner.0 ≡ loser.0 = sym (ap (λ (t : TermId). t.0) same) ∙ h.2 ∙ omega arith in
      union.apart (λ i. record { 0 = e i })

  IsJoined-union : IsJoined old new a b
  unfolding roots
  IsJoined-union =
      let less = roots-lt 0 old new union.relabelled.long stay_own loser.0 (loser, union.loser_is, omega arith) lost_own in
      record {
        long = union.relabelled.long;
        keeps = IsUnion-keeps old new a b winner loser union;
        joins = IsUnion-joins old new a b winner loser union;
        cases = IsUnion-cases old new a b winner loser union;
        no_more = omega (arith, less);
        fewer = λ apart. less;
      }

-- two classes that were one stay as they are
IsJoined-same : (reps : List TermId) (a b : TermId) → InOneClass reps a b → IsJoined reps reps a b
IsJoined-same reps a b one = record {
  long = refl;
  keeps = λ x y h. h;
  joins = one;
  cases = λ x y h. inl h;
  no_more = omega arith;
  fewer = λ apart. absurd (apart one);
}

-- what uniting comes to
pub IsJoined-united : (old new : List TermId) (a b : TermId) (answer : Option (TermId × TermId)) → IsUnited old new a b answer → IsJoined old new a b
IsJoined-united old new a b None h = subst (λ (reps : List TermId). IsJoined old reps a b) (sym h.0) (IsJoined-same old a b h.1)
IsJoined-united old new a b (Some pair) h = IsJoined-union old new a b pair.0 pair.1 h
