-- What definitions give, in any reading that sees those alone that a formula names.
use Rattle.std.proofs.Common.{◌≡◌, ℕ, zero, suc, ◌+◌, ◌≤◌, Bool, true, false, ◌==◌, List, [], length, Option, Some, None, slice_get, if◌then◌else◌, refl, sym, ap, ◌∙◌, arith}
use Rattle.std.proofs.lemmas.Option.{slice_get_past}
use Rattle.std.proofs.lemmas.Bool.Decides.{Decides-eqb}
use Rattle.ct_lemmas.proofs.Booleans.{by_test}
use Rattle.ct_sorts.specs.declared.ids.DefId.{DefId}
use Rattle.ct_formulas.specs.Formula.{Formula, bind}
use Rattle.ct_formulas.specs.Calls.{Reading, body_call, calls_below, calls}
use Rattle.ct_occurrence.specs.Calls.{CallsAre}

-- both give the same for each definition of which P holds
abbrev pub GiveSame : {X : Type 0} → (DefId → Type 0) → (DefId → List X → X) → (DefId → List X → X) → Type 0
GiveSame {X} P call other = (k : DefId) (args : List X) → P k → call k args ≡ other k args

-- where definitions of which P holds give the same, a formula that names no others is read alike
abbrev pub SeesNamed : {X : Type 0} → (DefId → Type 0) → Reading X → Type 0
SeesNamed {X} P read = (call other : DefId → List X → X) (t : Formula) (env : List X) → GiveSame P call other → CallsAre P t → read call env t ≡ read other env t

-- the bodies of definitions of which P holds name no others
abbrev pub AreClosed : (DefId → Type 0) → List Formula → Type 0
AreClosed P bodies = (k : DefId) (body : Formula) → P k → slice_get bodies k.0 ≡ Some body → CallsAre P body

-- they have the same bodies in both
abbrev pub HaveSame : (DefId → Type 0) → List Formula → List Formula → Type 0
HaveSame P bodies others = (k : DefId) → P k → slice_get bodies k.0 ≡ slice_get others k.0

-- one test of what is the same in either case
by_cases : {X : Type 0} (b : Bool) (x y z w : X) → (b ≡ true → x ≡ z) → (b ≡ false → y ≡ w) → (if b then x else y) ≡ (if b then z else w)
by_cases true x y z w h k = h refl
by_cases false x y z w h k = k refl

module _ {X : Type 0} (read : Reading X) (none : X) where
  -- what a definition gives: its body over the definitions before it, or what it gave before
  calls_below-suc : (bodies : List Formula) (n : ℕ) (k : DefId) (args : List X) → calls_below read none bodies (suc n) k args ≡ (if k.0 == n then body_call read none (calls_below read none bodies n) (slice_get bodies n) args else calls_below read none bodies n k args)
  unfolding calls_below
  calls_below-suc bodies n k args = refl

  -- below zero there are none
  calls_below-zero : (bodies : List Formula) (k : DefId) (args : List X) → calls_below read none bodies zero k args ≡ none
  unfolding calls_below
  calls_below-zero bodies k args = refl

  -- a definition that is not below the bound gives nothing
  calls_below-beyond : (bodies : List Formula) (n : ℕ) (k : DefId) (args : List X) → n ≤ k.0 → calls_below read none bodies n k args ≡ none
  calls_below-beyond bodies zero k args h = calls_below-zero bodies k args
  calls_below-beyond bodies (suc n) k args h =
      calls_below-suc bodies n k args
      ∙ by_test (λ x. x ≡ none) (k.0 == n) _ _ (λ e. absurd (omega (arith, h, (Decides-eqb k.0 n).0 e))) (λ e. calls_below-beyond bodies n k args (omega (arith, h)))

  -- a bound past all bodies gives what they give
  calls_below-past : (bodies : List Formula) (m : ℕ) (k : DefId) (args : List X) → calls_below read none bodies (m + length bodies) k args ≡ calls read none bodies k args
  calls_below-past bodies zero k args = ap (λ (n : ℕ). calls_below read none bodies n k args) (omega arith)
  calls_below-past bodies (suc m) k args =
      ap (λ (n : ℕ). calls_below read none bodies n k args) (next m (length bodies))
      ∙ calls_below-suc bodies (m + length bodies) k args
      ∙ by_test (λ x. x ≡ calls read none bodies k args) (k.0 == m + length bodies) _ _
      (λ e.
      ap (λ (o : Option Formula). body_call read none (calls_below read none bodies (m + length bodies)) o args) (slice_get_past bodies (m + length bodies) (omega arith))
      ∙ sym (calls_below-beyond bodies (length bodies) k args (omega (arith, (Decides-eqb k.0 (m + length bodies)).0 e))))
      (λ e. calls_below-past bodies m k args)
    where
      next : (m n : ℕ) → suc m + n ≡ suc (m + n)
      next m n = omega arith

  module _ (P : DefId → Type 0) (sees : SeesNamed P read) (bodies others : List Formula) (closed : AreClosed P bodies) (same : HaveSame P bodies others) where
    -- a body is read alike over definitions that give the same
    body_same : (call other : DefId → List X → X) (body : Option Formula) (args : List X) → GiveSame P call other → ((u : Formula) → body ≡ Some u → CallsAre P u) → body_call read none call body args ≡ body_call read none other body args
    body_same call other None args give names = refl
    body_same call other (Some u) args give names = sees call other u (bind args []) give (names u refl)

    -- below each bound the definitions of which P holds give the same
    below_same : (n : ℕ) → GiveSame P (calls_below read none bodies n) (calls_below read none others n)
    below_same zero k args h = calls_below-zero bodies k args ∙ sym (calls_below-zero others k args)
    below_same (suc n) k args h =
        calls_below-suc bodies n k args
        ∙ by_cases (k.0 == n) _ _ _ _ (λ e. last_same n k args h ((Decides-eqb k.0 n).0 e) (below_same n)) (λ e. below_same n k args h)
        ∙ sym (calls_below-suc others n k args)
      where
        last_same : (n : ℕ) (k : DefId) (args : List X) → P k → k.0 ≡ n → GiveSame P (calls_below read none bodies n) (calls_below read none others n) → body_call read none (calls_below read none bodies n) (slice_get bodies n) args ≡ body_call read none (calls_below read none others n) (slice_get others n) args
        last_same n k args h e give =
            body_same (calls_below read none bodies n) (calls_below read none others n) (slice_get bodies n) args give (λ u at. closed k u h (ap (slice_get bodies) e ∙ at))
            ∙ ap (λ (o : Option Formula). body_call read none (calls_below read none others n) o args) (sym (ap (slice_get bodies) e) ∙ same k h ∙ ap (slice_get others) e)

    -- so they do over all bodies, however many there are in each
    calls_same : GiveSame P (calls read none bodies) (calls read none others)
    calls_same k args h =
        sym (calls_below-past bodies (length others) k args)
        ∙ below_same (length others + length bodies) k args h
        ∙ ap (λ (n : ℕ). calls_below read none others n k args) (omega arith)
        ∙ calls_below-past others (length bodies) k args

    -- so a formula that names no others is read alike
    pub reading_same : (t : Formula) (env : List X) → CallsAre P t → read (calls read none bodies) env t ≡ read (calls read none others) env t
    reading_same t env h = sees (calls read none bodies) (calls read none others) t env calls_same h
