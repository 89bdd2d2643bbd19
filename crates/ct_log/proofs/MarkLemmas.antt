-- Marks: what one more marked literal and a new round do to the set.
use Rattle.std.proofs.Common.{◌≡◌, ℕ, ◌+◌, ◌*◌, ◌<◌, ◌≤◌, ◌↔◌, inl, inr, Bool, true, false, not, List, [], ◌∷◌, ◌++◌, length, set, slice_get, All, Contains, refl, sym, ap, subst, ◌∙◌, arith}
use Rattle.std.proofs.lemmas.List.Elements.{Contains-append_left, Contains-push, Contains-push_cases, All-set}
use Rattle.std.proofs.lemmas.Option.{none-some}
use Rattle.ct_lemmas.proofs.Contained.{Contains-map, Contains-map_cases, slice_get-from_Contains}
use Rattle.ct_lemmas.proofs.Each.{All-at}
use Rattle.ct_lemmas.proofs.Lists.{slice_get-set_other, slice_get-set_same}
use Rattle.ct_lemmas.proofs.Numbers.{same_or_other}
use Rattle.ct_terms.specs.declared.ids.Lit.{Lit}
use Rattle.ct_terms.specs.Literal.{opposite}
use Rattle.ct_terms.specs.Clause.{Clause, opposites}
use Rattle.ct_log.specs.Marks.{Marking, sign_index, stamp_index, AreMarked}

-- one index is that of one literal
stamp_parts : (s t : ℕ) (p q : Bool) → s * 2 + sign_index p ≡ t * 2 + sign_index q → (s ≡ t) × (p ≡ q)
stamp_parts s t true true e = (omega arith, refl)
stamp_parts s t true false e = absurd (omega arith)
stamp_parts s t false true e = absurd (omega arith)
stamp_parts s t false false e = (omega arith, refl)

stamp_one : (l k : Lit) → stamp_index l ≡ stamp_index k → l ≡ k
stamp_one l k e =
    let parts = stamp_parts l.term.0 k.term.0 l.positive k.positive e in
    let of : ℕ → Bool → Lit = λ n s. record { term = record { 0 = n }; positive = s } in
    ap (λ n. of n l.positive) parts.0 ∙ ap (λ s. of k.term.0 s) parts.1

-- the index of a literal is one of the two of its term
stamp_bound : (n : ℕ) (p : Bool) → n * 2 + sign_index p ≤ n * 2 + 1
stamp_bound n true = omega arith
stamp_bound n false = omega arith

pub stamp_below : (l : Lit) (bound : ℕ) → l.term.0 * 2 + 1 < bound → stamp_index (opposite l) < bound
stamp_below l bound within = let h = stamp_bound l.term.0 (not l.positive) in omega (arith, h)

-- no stamp is of a round that is above them all, so that no literal is marked
pub AreMarked-none : (stamps : List ℕ) (round room : ℕ) (others : List Lit) → All (λ s. s < round) stamps → others ≡ [] → AreMarked (record { stamps = stamps; round = round; others = others; room = room }) []
AreMarked-none stamps round room others below empty l = (
  λ h. elim h [
    | inl at ↦ absurd (let b : round < round = All-at (λ s. s < round) stamps (stamp_index l) round below at in omega arith)
    | inr c ↦ subst (λ (ls : List Lit). Contains ls l) empty c
  ],
  λ c. absurd (none-some l (slice_get-from_Contains [] l c).1),
)

-- a literal that is stamped
pub AreMarked-stamp : (m : Marking) (l : Lit) (stamps : List ℕ) (set_of : List Lit) → stamps ≡ set m.stamps (stamp_index l) m.round → stamp_index l < length m.stamps → AreMarked m set_of → AreMarked (record { stamps = stamps; round = m.round; others = m.others; room = m.room }) (set_of ++ l ∷ [])
AreMarked-stamp m l stamps set_of is within marked k = (
  λ h. elim h [
    | inl at ↦ elim (same_or_other (stamp_index k) (stamp_index l)) [
      | inl same ↦ subst (λ (j : Lit). Contains (set_of ++ l ∷ []) j) (sym (stamp_one k l same)) (Contains-push set_of l)
      | inr other ↦ Contains-append_left set_of (l ∷ []) k ((marked k).0 (inl (sym (slice_get-set_other m.stamps (stamp_index l) (stamp_index k) m.round other) ∙ ap (λ (s : List ℕ). slice_get s (stamp_index k)) (sym is) ∙ at)))
    ]
    | inr c ↦ Contains-append_left set_of (l ∷ []) k ((marked k).0 (inr c))
  ],
  λ c. elim (same_or_other (stamp_index k) (stamp_index l)) [
    | inl same ↦ inl (ap (λ (s : List ℕ). slice_get s (stamp_index k)) is ∙ ap (λ (i : ℕ). slice_get (set m.stamps (stamp_index l) m.round) i) same ∙ slice_get-set_same m.stamps (stamp_index l) m.round within)
    | inr other ↦ elim (Contains-push_cases set_of l k c) [
      | inl old ↦ elim ((marked k).1 old) [
        | inl at ↦ inl (ap (λ (s : List ℕ). slice_get s (stamp_index k)) is ∙ slice_get-set_other m.stamps (stamp_index l) (stamp_index k) m.round other ∙ at)
        | inr d ↦ inr d
      ]
      | inr same ↦ absurd (other (ap stamp_index (sym same)))
    ]
  ],
)

-- a literal that is put beside the stamps
pub AreMarked-other : (m : Marking) (l : Lit) (others : List Lit) (set_of : List Lit) → others ≡ m.others ++ l ∷ [] → AreMarked m set_of → AreMarked (record { stamps = m.stamps; round = m.round; others = others; room = m.room }) (set_of ++ l ∷ [])
AreMarked-other m l others set_of is marked k = (
  λ h. elim h [
    | inl at ↦ Contains-append_left set_of (l ∷ []) k ((marked k).0 (inl at))
    | inr c ↦ elim (Contains-push_cases m.others l k (subst (λ (ls : List Lit). Contains ls k) is c)) [
      | inl old ↦ Contains-append_left set_of (l ∷ []) k ((marked k).0 (inr old))
      | inr same ↦ subst (λ (j : Lit). Contains (set_of ++ l ∷ []) j) same (Contains-push set_of l)
    ]
  ],
  λ c. elim (Contains-push_cases set_of l k c) [
    | inl old ↦ elim ((marked k).1 old) [
      | inl at ↦ inl at
      | inr d ↦ inr (subst (λ (ls : List Lit). Contains ls k) (sym is) (Contains-append_left m.others (l ∷ []) k d))
    ]
    | inr same ↦ inr (subst (λ (ls : List Lit). Contains ls k) (sym is) (subst (λ (j : Lit). Contains (m.others ++ l ∷ []) j) same (Contains-push m.others l)))
  ],
)

-- a stamp of the present round keeps the stamps at most that
pub All-stamp : (stamps : List ℕ) (i round : ℕ) → All (λ s. s ≤ round) stamps → All (λ s. s ≤ round) (set stamps i round)
All-stamp stamps i round all = All-set (λ s. s ≤ round) stamps i round (omega arith) all

-- the other sign twice
pub opposite_twice : (l : Lit) → opposite (opposite l) ≡ l
opposite_twice l =
    let of : Bool → Lit = λ s. record { term = l.term; positive = s } in
    ap of (twice l.positive)
  where
    twice : (b : Bool) → not (not b) ≡ b
    twice true = refl
    twice false = refl

-- a literal is among the opposites where its opposite is in the clause
pub Contains-opposites : (clause : Clause) (l : Lit) → Contains (opposites clause) l ↔ Contains clause (opposite l)
Contains-opposites clause l = (
  λ h. (
      let found = Contains-map_cases opposite clause l h in
      let same : found.0 ≡ opposite l = sym (opposite_twice found.0) ∙ ap opposite found.2 in
      subst (λ (k : Lit). Contains clause k) same found.1),
  λ h. subst (λ (k : Lit). Contains (opposites clause) k) (opposite_twice l) (Contains-map opposite clause (opposite l) h),
)

-- one literal more
pub opposites-push : (clause : Clause) (l : Lit) → opposites (clause ++ l ∷ []) ≡ opposites clause ++ opposite l ∷ []
opposites-push [] l = refl
opposites-push (k ∷ ks) l = ap (λ (ls : List Lit). opposite k ∷ ls) (opposites-push ks l)
