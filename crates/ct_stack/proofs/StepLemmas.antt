-- Steps that may be refused, the causes of a refusal one after the other, and what calls say of them.
use Rattle.std.proofs.Common.{◌≡◌, ◌∙◌, ℕ, Ok, Err, refl, sym, ap, subst, inl, inr}
use Rattle.ct_sorts.specs.Refusals.{IsFirstCause, IsNone}
use Rattle.ct_names.specs.Outcome.{Outcome}
use Rattle.ct_command.specs.declared.error.CommandError.{CommandError}
use Rattle.ct_command.specs.declared.error.CommandError.TheVariants.{Refused, NoMemory}
use Rattle.ct_stack.specs.Outcomes.{IsErrorOr, Gives, Comes}

module _ {X : Type 0} (o : Outcome X) where
  -- a step that is refused
  pub refused_step : (later : X → ℕ → Type 0) (n : ℕ) → o ≡ Err n → IsErrorOr o later n
  refused_step later n e = subst (λ (p : Outcome X). IsErrorOr p later n) (sym e) refl

  -- a value that is refused
  pub refused_value : (later : X → ℕ → Type 0) (x : X) (n : ℕ) → o ≡ Ok x → later x n → IsErrorOr o later n
  refused_value later x n e h = subst (λ (p : Outcome X). IsErrorOr p later n) (sym e) h

  -- a value that is not refused
  pub accepted_value : (later : X → ℕ → Type 0) (x : X) → o ≡ Ok x → ((n : ℕ) → later x n → ⊥) → (n : ℕ) → IsErrorOr o later n → ⊥
  accepted_value later x e none n h = none n (subst (λ (p : Outcome X). IsErrorOr p later n) e h)

  -- what holds of the value that a step gives
  pub given : (holds : X → Type 0) (x : X) → o ≡ Ok x → holds x → Gives o holds
  given holds x e h = subst (λ (p : Outcome X). Gives p holds) (sym e) h

-- a cause that does not apply leaves the later ones
pub later_cause : (number : ℕ) (cause : Type 0) (later : ℕ → Type 0) (n : ℕ) → (cause → ⊥) → IsFirstCause number cause later n → later n
later_cause number cause later n none (inl h) = absurd (none h.1)
later_cause number cause later n none (inr h) = h.1

-- neither the first cause nor a later one
pub no_cause : (number : ℕ) (cause : Type 0) (later : ℕ → Type 0) → (cause → ⊥) → ((n : ℕ) → later n → ⊥) → (n : ℕ) → IsFirstCause number cause later n → ⊥
no_cause number cause later none no_later n h = no_later n (later_cause number cause later n none h)

-- the last cause
pub last_cause : (number : ℕ) (cause : Type 0) (n : ℕ) → n ≡ number → cause → IsFirstCause number cause IsNone n
last_cause number cause n e h = inl (e, h)

pub no_last : (number : ℕ) (cause : Type 0) → (cause → ⊥) → (n : ℕ) → IsFirstCause number cause IsNone n → ⊥
no_last number cause none n h = later_cause number cause IsNone n none h

-- a number with which a call is refused is that of the step
pub comes_refused : {X Y : Type 0} (seen : X → Y) (o : Outcome Y) (e : CommandError) (n : ℕ) → Comes seen o (Err e) → e ≡ Refused n → o ≡ Err n
comes_refused seen o (Refused k) n h is =
    let same : k ≡ n = cc in
    h ∙ ap (λ (m : ℕ). Err m) same
comes_refused seen o NoMemory n h is = absurd cc
