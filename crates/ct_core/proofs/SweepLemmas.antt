-- Marks of cited lines: those of the first lines, one line more, and all.
use Rattle.std.proofs.Common.{◌≡◌, ℕ, zero, suc, ◌<◌, ◌≤◌, ◌⊎◌, Bool, true, false, List, [], ◌∷◌, length, All, Contains, Some, get_or, slice_get, refl, sym, ap, subst, inl, inr, arith, true≢false}
use Rattle.std.proofs.lemmas.Option.{get_or_from_slice_get}
use Rattle.std.proofs.lemmas.List.Elements.{All-contains, All-weaker}
use Rattle.ct_lemmas.proofs.Numbers.{last_or_before}
use Rattle.ct_log.specs.declared.line.Line.{Line}
use Rattle.ct_core.specs.Cited.{hints_of, IsLineWith, HoldsCited, IsCited}
use Rattle.ct_core.specs.Sweep.{NameEarlier, IsMarked, IsFirst, AreMarks, MarksFrom}

-- a mark that is read as set is set
pub marked_read : (marks : List Bool) (n : ℕ) → get_or marks n false ≡ true → IsMarked marks n
marked_read [] n e = absurd (true≢false (sym e))
marked_read (b ∷ bs) zero e = ap Some e
marked_read (b ∷ bs) (suc n) e = marked_read bs n e

-- a mark that is set is read so
pub read_marked : (marks : List Bool) (n : ℕ) → IsMarked marks n → get_or marks n false ≡ true
read_marked marks n h = get_or_from_slice_get marks n true false h

-- the first lines and the last one are cited
pub first_cited : (kept : ℕ) (lines : List Line) (n : ℕ) → IsFirst kept (length lines) n → IsCited kept lines n
first_cited kept lines n h has holds = elim h.2 [
  | inl early ↦ holds.first n h.0 early h.1
  | inr last ↦ subst (λ (k : ℕ). has k ≡ true) (sym last) (holds.last (omega (arith, h.0, last)))
]

-- what a cited line names is cited
pub named_cited : (kept : ℕ) (lines : List Line) (n : ℕ) (line : Line) (k : ℕ) → IsCited kept lines n → IsLineWith lines n line → Contains (hints_of line.step) k → IsCited kept lines k
named_cited kept lines n line k cited is inside has holds =
    All-contains (λ (m : ℕ). has m ≡ true) (hints_of line.step) k (holds.named n line (cited has holds) is) inside

-- marks of the first lines and the last one, and of what lines with a mark name, hold all that is cited
pub marks_hold : (kept : ℕ) (lines : List Line) (marks : List Bool) → ((n : ℕ) → IsFirst kept (length lines) n → IsMarked marks n) → MarksFrom 0 lines marks → HoldsCited kept lines (λ n. get_or marks n false)
marks_hold kept lines marks first named = record {
  first = λ n positive early within. read_marked marks n (first n (positive, within, inl early));
  last = λ positive. read_marked marks (length lines) (first (length lines) (positive, omega arith, inr refl));
  named = λ n line marked is.
      let at : n ≡ suc is.0 = omega (arith, is.1) in
      All-weaker (IsMarked marks) (λ k. get_or marks k false ≡ true) (λ k h. read_marked marks k h) (hints_of line.step)
      (named is.0 line (omega arith) is.2 (subst (IsMarked marks) at (marked_read marks n marked)));
}

-- exactly the cited lines are marked then
pub all_marked : (kept : ℕ) (lines : List Line) (marks : List Bool) → length marks ≡ suc (length lines) → ((n : ℕ) → IsFirst kept (length lines) n → IsMarked marks n) → (IsMarked marks 0 → ⊥)
    → MarksFrom 0 lines marks → ((n : ℕ) → IsMarked marks n → IsCited kept lines n) → AreMarks kept lines marks
all_marked kept lines marks long first positive named only = record {
  long = long;
  exact = λ n. (only n, λ cited. marked_read marks n (cited (λ k. get_or marks k false) (marks_hold kept lines marks first named)));
  positive = positive;
}

-- the marks after one line more marked what it names
module _ (lines : List Line) (old new : List Bool) (n : ℕ) (earlier : NameEarlier lines)
    (only : (k : ℕ) → IsMarked new k → IsMarked old k ⊎ ((line : Line) × (slice_get lines n ≡ Some line) × IsMarked old (suc n) × Contains (hints_of line.step) k)) where
  -- nothing past the line is marked anew
  pub marked_before : (k : ℕ) → n < k → IsMarked new k → IsMarked old k
  marked_before k past h = elim (only k h) [
    | inl old_one ↦ old_one
    | inr named ↦
        let below = All-contains (λ (m : ℕ). (0 < m) × (m ≤ n)) (hints_of named.0.step) k (earlier n named.0 named.1) named.3 in
        absurd (omega (arith, past, below.1))
  ]

  -- what the lines from this one on name is marked
  pub marks_more : ((k : ℕ) → IsMarked old k → IsMarked new k) → ((line : Line) → slice_get lines n ≡ Some line → IsMarked old (suc n) → All (IsMarked new) (hints_of line.step)) → MarksFrom (suc n) lines old → MarksFrom n lines new
  marks_more stays named before k line from at h =
      let was = marked_before (suc k) (omega (arith, from)) h in
      elim (last_or_before n k (omega (arith, from))) [
        | inl later ↦ All-weaker (IsMarked old) (IsMarked new) stays (hints_of line.step) (before k line (omega (arith, later)) at was)
        | inr same ↦ named line (subst (λ (m : ℕ). slice_get lines m ≡ Some line) (sym same) at) (subst (λ (m : ℕ). IsMarked old (suc m)) (sym same) was)
      ]

  -- what is marked is cited
  pub only_more : (kept : ℕ) → ((k : ℕ) → IsMarked old k → IsCited kept lines k) → (k : ℕ) → IsMarked new k → IsCited kept lines k
  only_more kept before k h = elim (only k h) [
    | inl old_one ↦ before k old_one
    | inr named ↦ named_cited kept lines (suc n) named.0 k (before (suc n) named.2) (n, omega arith, named.1) named.3
  ]

  -- the mark before those of all lines stays unset
  pub none_more : (IsMarked old 0 → ⊥) → IsMarked new 0 → ⊥
  none_more none h = elim (only 0 h) [
    | inl old_one ↦ none old_one
    | inr named ↦
        let below = All-contains (λ (m : ℕ). (0 < m) × (m ≤ n)) (hints_of named.0.step) 0 (earlier n named.0 named.1) named.3 in
        omega (arith, below.0)
  ]
