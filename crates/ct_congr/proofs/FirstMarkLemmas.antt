-- That a mark that is kept has a first one with its number of merges.
use Rattle.std.proofs.Common.{◌≡◌, ℕ, zero, suc, ◌≤◌, Some, List, [], ◌∷◌, length, slice_get, refl, sym, subst, inl, inr, arith}
use Rattle.std.specs.List.{AllZip}
use Rattle.std.proofs.lemmas.Option.{none-some, same_Some}
use Rattle.ct_lemmas.proofs.Numbers.{same_or_other}
use Rattle.ct_lemmas.proofs.Pairs.{AllZip-at_left}
use Rattle.ct_congr.specs.declared.merge.ClassMark.{ClassMark}
use Rattle.ct_congr.specs.State.{Marked, IsFirstMark}

-- some mark after so many merges is the first one
pub first_mark : (marks : List Marked) (merges i : ℕ) (at : Marked) → slice_get marks i ≡ Some at → length at.merges ≡ merges → (k : ℕ) × (first : Marked) × IsFirstMark marks merges k first
first_mark [] merges i at stands long = absurd (none-some at stands)
first_mark (m ∷ marks) merges zero at stands long = (0, at, record { stands = stands; long = long; first = λ j other there is. omega arith })
first_mark (m ∷ marks) merges (suc i) at stands long = elim (same_or_other (length m.merges) merges) [
  | inl e ↦ (0, m, record { stands = refl; long = e; first = λ j other there is. omega arith })
  | inr differs ↦ later (first_mark marks merges i at stands long) differs
]
  where
    later : ((k : ℕ) × (first : Marked) × IsFirstMark marks merges k first) → (length m.merges ≡ merges → ⊥) → (k : ℕ) × (first : Marked) × IsFirstMark (m ∷ marks) merges k first
    later found differs = (suc found.0, found.1, record { stands = found.2.stands; long = found.2.long; first = before })
      where
        before : (j : ℕ) (other : Marked) → slice_get (m ∷ marks) j ≡ Some other → length other.merges ≡ merges → suc found.0 ≤ j
        before zero other there is = absurd (differs (subst (λ (n : Marked). length n.merges ≡ merges) (sym (same_Some m other there)) is))
        before (suc j) other there is = omega (arith, found.2.first j other there is)

-- so it is for a mark that is read
pub first_kept : (marks : List ClassMark) (at : List Marked) (i : ℕ) (mark : ClassMark) → AllZip (λ (m : ClassMark) (s : Marked). m.merges ≡ length s.merges) marks at → slice_get marks i ≡ Some mark → (k : ℕ) × (first : Marked) × IsFirstMark at mark.merges k first
first_kept marks at i mark value stands =
    let found = AllZip-at_left (λ (m : ClassMark) (s : Marked). m.merges ≡ length s.merges) marks at i mark value stands in
    first_mark at mark.merges i found.0 found.1 (sym found.2)
