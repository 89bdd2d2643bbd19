-- Of more numbers than there are values two have one value.
use Rattle.std.proofs.Common.{◌≡◌, ℕ, zero, suc, ◌+◌, ◌*◌, ◌<◌, cond, nat_eq, Bool, sym, ◌∙◌, ap, subst, inl, inr, arith}
use Rattle.std.proofs.lemmas.Bool.{cases_eq, cases_order, eq-eqb, ne_eqb}
use Rattle.std.proofs.lemmas.Nat.{mul-add-lt, same_from_place}

-- the number, but the last value in the place of the greatest
abbrev moved : ℕ → ℕ → ℕ → ℕ
moved n last m = cond (nat_eq m n) last m

moved_same : (n last m : ℕ) → m ≡ n → moved n last m ≡ last
moved_same n last m e = ap (λ (b : Bool). cond b last m) (eq-eqb m n e)

moved_other : (n last m : ℕ) → (m ≡ n → ⊥) → moved n last m ≡ m
moved_other n last m other = ap (λ (b : Bool). cond b last m) (ne_eqb m n other)

less_of : (n m : ℕ) → m < suc n → (m ≡ n → ⊥) → m < n
less_of n m within other = elim (cases_order m n) [
  | inl e ↦ absurd (other e)
  | inr sides ↦ elim sides [ inl h ↦ h | inr h ↦ absurd (omega (arith, within, h)) ]
]

pub pigeons : (n : ℕ) (f : ℕ → ℕ) → ((i : ℕ) → i < suc n → f i < n) → ((i j : ℕ) → i < j → j < suc n → f i ≡ f j → ⊥) → ⊥
pigeons zero f below apart = let less : f 0 < 0 = below 0 (omega arith) in absurd (omega (arith, less))
pigeons (suc n) f below apart = pigeons n (λ i. moved n (f (suc n)) (f i)) below_too apart_too
  where
    not_last : (i : ℕ) → i < suc n → f i ≡ f (suc n) → ⊥
    not_last i less e = apart i (suc n) less (omega arith) e

    below_too : (i : ℕ) → i < suc n → moved n (f (suc n)) (f i) < n
    below_too i less = elim (cases_eq (f i) n) [
      | inl same ↦ subst (λ (m : ℕ). m < n) (sym (moved_same n (f (suc n)) (f i) same)) (less_of n (f (suc n)) (below (suc n) (omega arith)) (λ e. not_last i less (same ∙ sym e)))
      | inr other ↦ subst (λ (m : ℕ). m < n) (sym (moved_other n (f (suc n)) (f i) other)) (less_of n (f i) (below i (omega (arith, less))) other)
    ]

    apart_too : (i j : ℕ) → i < j → j < suc n → moved n (f (suc n)) (f i) ≡ moved n (f (suc n)) (f j) → ⊥
    apart_too i j less within e = elim (cases_eq (f i) n) [
      | inl same_i ↦ elim (cases_eq (f j) n) [
        | inl same_j ↦ apart i j less (omega (arith, within)) (same_i ∙ sym same_j)
        | inr other_j ↦ not_last j within (sym (sym (moved_same n (f (suc n)) (f i) same_i) ∙ e ∙ moved_other n (f (suc n)) (f j) other_j))
      ]
      | inr other_i ↦ elim (cases_eq (f j) n) [
        | inl same_j ↦ not_last i (omega (arith, less, within)) (sym (moved_other n (f (suc n)) (f i) other_i) ∙ e ∙ moved_same n (f (suc n)) (f j) same_j)
        | inr other_j ↦ apart i j less (omega (arith, within)) (sym (moved_other n (f (suc n)) (f i) other_i) ∙ e ∙ moved_other n (f (suc n)) (f j) other_j)
      ]
    ]

-- two numbers below a bound, as one number below its square
pub pair_below : (m x y : ℕ) → x < m → y < m → x * m + y < m * m
pair_below m x y in_x in_y = mul-add-lt x m y m in_x in_y

pub same_pair : (m x y u v : ℕ) → y < m → v < m → x * m + y ≡ u * m + v → (x ≡ u) × (y ≡ v)
same_pair m x y u v in_y in_v e = same_from_place x y u v m in_y in_v e
