-- Flags of variables, step by step.
use Rattle.std.proofs.Common.{◌≡◌, ℕ, zero, suc, ◌+◌, Bool, true, false, ◌||◌, List, [], ◌∷◌, ◌++◌, length, replicate, refl, sym, ap, ap₂, ◌∙◌, true≢false}
use Rattle.std.proofs.lemmas.List.{length-append}
use Rattle.ct_lemmas.proofs.Booleans.{or_assoc, or_false}
use Rattle.ct_sorts.specs.declared.ids.DefId.{DefId}
use Rattle.ct_sorts.specs.Declarations.{Declarations}
use Rattle.ct_formulas.specs.Formula.{Formula, Var, Con, Sel, Test, Apply, Def, Not, And, Or, Xor, Implies, Equal, Distinct, Ite, Let, Match, Quantified}
use Rattle.ct_formulas.specs.Occurrence.{occurs, occurs_in_some}
use Rattle.ct_occurrence.specs.Plain.{is_plain, formulas_under}
use Rattle.ct_occurrence.specs.Marks.{flags_below, mark_each}

pub or_swapped : (a b : Bool) → (a || b) ≡ (b || a)
or_swapped true true = refl
or_swapped true false = refl
or_swapped false true = refl
or_swapped false false = refl

pub marked_length : (p : ℕ → Bool) (bs : List Bool) → length (mark_each p bs) ≡ length bs
marked_length p [] = refl
marked_length p (b ∷ bs) = ap suc (marked_length p bs)

-- tests that are the same mark the same
pub marked_same : (p q : ℕ → Bool) (bs : List Bool) → ((i : ℕ) → p i ≡ q i) → mark_each p bs ≡ mark_each q bs
marked_same p q [] e = refl
marked_same p q (b ∷ bs) e = ap₂ (λ (x : Bool) (xs : List Bool). x ∷ xs) (ap (λ (x : Bool). b || x) (e (length bs))) (marked_same p q bs e)

-- one test after the other
pub marked_then : (p q : ℕ → Bool) (bs : List Bool) → mark_each q (mark_each p bs) ≡ mark_each (λ i. p i || q i) bs
marked_then p q [] = refl
marked_then p q (b ∷ bs) =
    ap₂ (λ (x : Bool) (xs : List Bool). x ∷ xs)
    (ap (λ (n : ℕ). (b || p (length bs)) || q n) (marked_length p bs) ∙ or_assoc b (p (length bs)) (q (length bs)))
    (marked_then p q bs)

-- no test
pub marked_none : (bs : List Bool) → mark_each (λ i. false) bs ≡ bs
marked_none [] = refl
marked_none (b ∷ bs) = ap₂ (λ (x : Bool) (xs : List Bool). x ∷ xs) (or_false b) (marked_none bs)

-- flags of outer variables, and of a binder's
pub marked_append : (p : ℕ → Bool) (xs ys : List Bool) → mark_each p (xs ++ ys) ≡ mark_each (λ i. p (i + length ys)) xs ++ mark_each p ys
marked_append p [] ys = refl
marked_append p (x ∷ xs) ys = ap₂ (λ (b : Bool) (bs : List Bool). b ∷ bs) (ap (λ (n : ℕ). x || p n) (length-append xs ys)) (marked_append p xs ys)

-- flags of a binder's variables alone
pub listed_marked : (p : ℕ → Bool) (n : ℕ) → mark_each p (replicate n false) ≡ flags_below p n
listed_marked p zero = refl
listed_marked p (suc n) = ap₂ (λ (b : Bool) (bs : List Bool). b ∷ bs) (ap p (replicated n)) (listed_marked p n)
  where
    replicated : (n : ℕ) → length (replicate n false) ≡ n
    replicated zero = refl
    replicated (suc n) = ap suc (replicated n)

-- what occurs in an operator occurs under it
pub plain_occurs_same : (d : Declarations) (uses : DefId → ℕ → Bool) (t : Formula) → is_plain t ≡ true → (i : ℕ) → occurs_in_some d uses (formulas_under t) i ≡ occurs d uses t i
plain_occurs_same d uses (Con c ts) plain i = refl
plain_occurs_same d uses (Sel s t) plain i = or_false (occurs d uses t i)
plain_occurs_same d uses (Test c t) plain i = or_false (occurs d uses t i)
plain_occurs_same d uses (Apply f ts) plain i = refl
plain_occurs_same d uses (Not t) plain i = or_false (occurs d uses t i)
plain_occurs_same d uses (And ts) plain i = refl
plain_occurs_same d uses (Or ts) plain i = refl
plain_occurs_same d uses (Xor ts) plain i = refl
plain_occurs_same d uses (Implies ts) plain i = refl
plain_occurs_same d uses (Equal ts) plain i = refl
plain_occurs_same d uses (Distinct ts) plain i = refl
plain_occurs_same d uses (Var k) plain i = absurd (true≢false (sym plain))
plain_occurs_same d uses (Def k ts) plain i = absurd (true≢false (sym plain))
plain_occurs_same d uses (Ite c t u) plain i = absurd (true≢false (sym plain))
plain_occurs_same d uses (Let ts u) plain i = absurd (true≢false (sym plain))
plain_occurs_same d uses (Match t cases) plain i = absurd (true≢false (sym plain))
plain_occurs_same d uses (Quantified q sorts t) plain i = absurd (true≢false (sym plain))
