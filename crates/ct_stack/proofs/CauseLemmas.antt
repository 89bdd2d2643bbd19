-- What the answers of a signature say of the causes for which a declaration is refused.
use Rattle.std.proofs.Common.{◌≡◌, ◌∙◌, ◌↔◌, ℕ, ◌⊎◌, Result, Ok, Err, ap, subst, inl, inr}
use Rattle.std.specs.Prelude.{IsErrOf, OnOk}
use Rattle.ct_sorts.specs.Refusals.{IsFirstCause, IsNone}
use Rattle.ct_sorts.specs.declared.error.SigError.{SigError}
use Rattle.ct_sorts.specs.declared.error.SigError.TheVariants as sig
use Rattle.ct_command.specs.declared.error.CommandError.{CommandError}
use Rattle.ct_command.specs.declared.error.CommandError.TheVariants as command
use Rattle.ct_stack.proofs.StepLemmas.{no_cause, no_last}

module _ {T : Type 0} (P : Type 0) where
  -- what is exactly a cause of an error is not there without the error
  pub not_caused : (x : T) (e : SigError) → IsErrOf {T = T} {E = SigError} (Ok x) e ↔ P → P → ⊥
  not_caused x e iff h = let is : IsErrOf {T = T} {E = SigError} (Ok x) e = iff.1 h in absurd cc

module _ {T : Type 0} (a b : ℕ) (P Q : Type 0) where
  -- of two causes, the one with the number of the error is the first that applies
  pub two_causes : (code : ℕ) (f : SigError) → f ≡ sig.Refused code → ((n : ℕ) → IsErrOf {T = T} {E = SigError} (Err f) (sig.Refused n) → (n ≡ a) ⊎ (n ≡ b)) → IsErrOf {T = T} {E = SigError} (Err f) (sig.Refused a) ↔ P → IsErrOf {T = T} {E = SigError} (Err f) (sig.Refused b) ↔ ((P → ⊥) × Q) → IsFirstCause a P (IsFirstCause b Q IsNone) code
  two_causes code f is codes first second =
      elim (codes code (ap (λ (g : SigError). Err g) is)) [
        | inl e ↦ inl (e, first.0 (ap (λ (g : SigError). Err g) is ∙ ap (λ (k : ℕ). Err (sig.Refused k)) e))
        | inr e ↦ let h = second.0 (ap (λ (g : SigError). Err g) is ∙ ap (λ (k : ℕ). Err (sig.Refused k)) e) in inr (h.0, inl (e, h.1))
      ]

  -- neither applies to what is declared
  pub no_two : (x : T) → IsErrOf {T = T} {E = SigError} (Ok x) (sig.Refused a) ↔ P → IsErrOf {T = T} {E = SigError} (Ok x) (sig.Refused b) ↔ ((P → ⊥) × Q) → (n : ℕ) → IsFirstCause a P (IsFirstCause b Q IsNone) n → ⊥
  no_two x first second =
      let none : P → ⊥ = not_caused P x (sig.Refused a) first in
      no_cause a P (IsFirstCause b Q IsNone) none (no_last b Q (λ q. not_caused ((P → ⊥) × Q) x (sig.Refused b) second (none, q)))

module _ {T : Type 0} (X : ℕ → Type 0) where
  -- what holds of the number of an error holds of each number that it has
  pub at_code : (code : ℕ) → X code → (n : ℕ) → IsErrOf {T = T} {E = CommandError} (Err (command.Refused code)) (command.Refused n) → X n
  at_code code h n e =
      let same : code ≡ n = cc in
      subst X same h

-- two causes that do not apply before a later one, where a call is accepted
pub accepted_later : {T E : Type 0} (r : Result T E) (a b : ℕ) (P Q : Type 0) (later : ℕ → Type 0) → (P → ⊥) → (Q → ⊥) → OnOk r ((n : ℕ) → later n → ⊥) → OnOk r ((n : ℕ) → IsFirstCause a P (IsFirstCause b Q later) n → ⊥)
accepted_later (Ok x) a b P Q later no_first no_second h = no_cause a P (IsFirstCause b Q later) no_first (no_cause b Q later no_second h)
accepted_later (Err e) a b P Q later no_first no_second h = tt
