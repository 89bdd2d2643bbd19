-- Definitions below a number: what one gives, uses and weighs is its body over the definitions below its own number.
use Rattle.std.proofs.Common.{◌≡◌, ℕ, zero, suc, ◌<◌, ◌≤◌, Bool, ◌==◌, List, [], ◌∷◌, length, Option, Some, slice_get, if◌then◌else◌, refl, sym, ap, ap₂, ◌∙◌, arith}
use Rattle.std.proofs.lemmas.Option.{slice_get_within}
use Rattle.ct_lemmas.proofs.Lists.{slice_get-there}
use Rattle.ct_lemmas.proofs.Numbers.{by_last}
use Rattle.ct_sorts.specs.declared.ids.DefId.{DefId}
use Rattle.ct_sorts.specs.Declarations.{Declarations, Function}
use Rattle.ct_terms.specs.CoreTree.{CoreTree, no_term}
use Rattle.ct_formulas.specs.Formula.{Formula, bind}
use Rattle.ct_formulas.specs.FormulaSorts.{AreSound}
use Rattle.ct_formulas.specs.Calls.{body_call, calls_below}
use Rattle.ct_formulas.specs.Compiled.{compiled}
use Rattle.ct_formulas.specs.Occurrence.{occurs, body_uses, uses_below}
use Rattle.ct_scope.proofs.Weight.{weight, body_weight, weights_below}
use Rattle.ct_scope.specs.Compilable.{compiled_calls}
use Rattle.ct_occurrence.specs.Marks.{flags_below, Rows, HaveRows}

given_suc : (d : Declarations) (bodies : List Formula) (n : ℕ) (k : DefId) (ts : List CoreTree) → compiled_calls d bodies (suc n) k ts ≡ (if k.0 == n then body_call (compiled d) no_term (compiled_calls d bodies n) (slice_get bodies n) ts else compiled_calls d bodies n k ts)
unfolding calls_below
given_suc d bodies n k ts = refl

uses_suc : (d : Declarations) (bodies : List Formula) (n : ℕ) (k : DefId) (i : ℕ) → uses_below d bodies (suc n) k i ≡ (if k.0 == n then body_uses d (uses_below d bodies n) (slice_get bodies n) i else uses_below d bodies n k i)
unfolding uses_below
uses_suc d bodies n k i = refl

weights_suc : (bodies : List Formula) (n : ℕ) (k : DefId) → weights_below bodies (suc n) k ≡ (if k.0 == n then body_weight (weights_below bodies n) (slice_get bodies n) else weights_below bodies n k)
unfolding weights_below
weights_suc bodies n k = refl

module _ (bodies : List Formula) (k : DefId) (body : Formula) (at : slice_get bodies k.0 ≡ Some body) where
  pub given_is : (d : Declarations) (n : ℕ) (ts : List CoreTree) → k.0 < n → compiled_calls d bodies n k ts ≡ compiled d (compiled_calls d bodies k.0) (bind ts []) body
  given_is d zero ts below = absurd (omega (arith, below))
  given_is d (suc n) ts below =
      given_suc d bodies n k ts
      ∙ by_last k.0 n _ _ _ below
      (λ e. ap (λ (m : ℕ). body_call (compiled d) no_term (compiled_calls d bodies m) (slice_get bodies m) ts) (sym e) ∙ ap (λ (o : Option Formula). body_call (compiled d) no_term (compiled_calls d bodies k.0) o ts) at)
      (λ less. given_is d n ts less)

  pub uses_is : (d : Declarations) (n : ℕ) (i : ℕ) → k.0 < n → uses_below d bodies n k i ≡ occurs d (uses_below d bodies k.0) body i
  uses_is d zero i below = absurd (omega (arith, below))
  uses_is d (suc n) i below =
      uses_suc d bodies n k i
      ∙ by_last k.0 n _ _ _ below
      (λ e. ap (λ (m : ℕ). body_uses d (uses_below d bodies m) (slice_get bodies m) i) (sym e) ∙ ap (λ (o : Option Formula). body_uses d (uses_below d bodies k.0) o i) at)
      (λ less. uses_is d n i less)

  pub weights_is : (n : ℕ) → k.0 < n → weights_below bodies n k ≡ weight (weights_below bodies k.0) body
  weights_is zero below = absurd (omega (arith, below))
  weights_is (suc n) below =
      weights_suc bodies n k
      ∙ by_last k.0 n _ _ _ below
      (λ e. ap (λ (m : ℕ). body_weight (weights_below bodies m) (slice_get bodies m)) (sym e) ∙ ap (λ (o : Option Formula). body_weight (weights_below bodies k.0) o) at)
      (λ less. weights_is n less)

-- tests that are the same give the same flags
pub listed_same : (p q : ℕ → Bool) (n : ℕ) → ((i : ℕ) → p i ≡ q i) → flags_below p n ≡ flags_below q n
listed_same p q zero e = refl
listed_same p q (suc n) e = ap₂ (λ (b : Bool) (bs : List Bool). b ∷ bs) (e n) (listed_same p q n e)

-- a definition has a body
pub body_there : (d : Declarations) (bodies : List Formula) (k : ℕ) (definition : Function) → AreSound d bodies → slice_get d.definitions k ≡ Some definition → (body : Formula) × (slice_get bodies k ≡ Some body)
body_there d bodies k definition sound at = slice_get-there bodies k (let h = slice_get_within d.definitions k definition at in omega (arith, h, sound.one_each))

-- the rows below a number are those below a smaller one
pub fewer_rows : (d : Declarations) (bodies : List Formula) (m n : ℕ) (rows : Rows) → AreSound d bodies → m ≤ n → HaveRows d (uses_below d bodies n) n rows → HaveRows d (uses_below d bodies m) m rows
fewer_rows d bodies m n rows sound less have k definition row below at found =
    let body = body_there d bodies k.0 definition sound at in
    have k definition row (omega (arith, below, less)) at found
    ∙ listed_same (uses_below d bodies n k) (uses_below d bodies m k) (length definition.args) (λ i. uses_is bodies k body.0 body.1 d n i (omega (arith, below, less)) ∙ sym (uses_is bodies k body.0 body.1 d m i below))
