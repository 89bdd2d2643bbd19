-- Definitions below a number: which parameters of one occur is what occurs in its body over the definitions below its own number.
use Rattle.std.proofs.Common.{◌≡◌, ℕ, zero, suc, ◌<◌, ◌≤◌, Bool, ◌==◌, List, ◌∷◌, length, Option, Some, slice_get, if◌then◌else◌, refl, sym, ap, ap₂, ◌∙◌, arith}
use Rattle.std.proofs.lemmas.Option.{slice_get_within}
use Rattle.ct_lemmas.proofs.Lists.{slice_get-there}
use Rattle.ct_lemmas.proofs.Numbers.{by_last}
use Rattle.ct_sorts.specs.declared.ids.DefId.{DefId}
use Rattle.ct_sorts.specs.Declarations.{Declarations, Function}
use Rattle.ct_formulas.specs.Formula.{Formula}
use Rattle.ct_formulas.specs.FormulaSorts.{AreSound}
use Rattle.ct_formulas.specs.Occurrence.{occurs, body_uses, uses_below}
use Rattle.ct_occurrence.specs.Marks.{flags_below, Rows, HaveRows}

uses_suc : (d : Declarations) (bodies : List Formula) (n : ℕ) (k : DefId) (i : ℕ) → uses_below d bodies (suc n) k i ≡ (if k.0 == n then body_uses d (uses_below d bodies n) (slice_get bodies n) i else uses_below d bodies n k i)
unfolding uses_below
uses_suc d bodies n k i = refl

module _ (bodies : List Formula) (k : DefId) (body : Formula) (at : slice_get bodies k.0 ≡ Some body) where
  pub uses_is : (d : Declarations) (n : ℕ) (i : ℕ) → k.0 < n → uses_below d bodies n k i ≡ occurs d (uses_below d bodies k.0) body i
  uses_is d zero i below = absurd (omega (arith, below))
  uses_is d (suc n) i below =
      uses_suc d bodies n k i
      ∙ by_last k.0 n _ _ _ below
      (λ e. ap (λ (m : ℕ). body_uses d (uses_below d bodies m) (slice_get bodies m) i) (sym e) ∙ ap (λ (o : Option Formula). body_uses d (uses_below d bodies k.0) o i) at)
      (λ less. uses_is d n i less)

-- tests that are the same give the same flags
pub listed_same : (p q : ℕ → Bool) (n : ℕ) → ((i : ℕ) → p i ≡ q i) → flags_below p n ≡ flags_below q n
listed_same p q zero e = refl
listed_same p q (suc n) e = ap₂ (λ (b : Bool) (bs : List Bool). b ∷ bs) (e n) (listed_same p q n e)

-- a definition has a body
pub body_there : (d : Declarations) (bodies : List Formula) (k : ℕ) (definition : Function) → AreSound d bodies → slice_get d.definitions k ≡ Some definition → (body : Formula) × (slice_get bodies k ≡ Some body)
body_there d bodies k definition sound at = slice_get-there bodies k (let h = slice_get_within d.definitions k definition at in omega (arith, h, sound.one_each))

-- the rows below a number are those below a smaller one
pub fewer_rows : (d : Declarations) (bodies : List Formula) (m n : ℕ) (rows : Rows) → AreSound d bodies → m ≤ n → HaveRows d (uses_below d bodies n) n rows → HaveRows d (uses_below d bodies m) m rows
fewer_rows d bodies m n rows sound less have k definition row below at found =
    let body = body_there d bodies k.0 definition sound at in
    have k definition row (omega (arith, below, less)) at found
    ∙ listed_same (uses_below d bodies n k) (uses_below d bodies m k) (length definition.args) (λ i. uses_is bodies k body.0 body.1 d n i (omega (arith, below, less)) ∙ sym (uses_is bodies k body.0 body.1 d m i below))
