-- What the last check left, by what was asked of it.
use Rattle.std.proofs.Common.{◌≡◌, ℕ, Option, None, Some, option_map, refl, sym}
use Rattle.std.specs.Prelude.{option_and_then}
use Rattle.ct_log.specs.Recorded.{Derived}
use Rattle.ct_engine.specs.declared.verdict.Verdict.{Verdict}
use Rattle.ct_stack.specs.Assuming.{assumptions_seen}
use Rattle.ct_step.specs.declared.state.Asked.{Asked}
use Rattle.ct_step.specs.State.{derivation_kept, derived_kept}
use Rattle.ct_step.specs.Done.{kept_of, number_in}

-- a derivation with a number
abbrev pub numbered_by : Option ℕ → Option Derived → Option (ℕ × Derived)
numbered_by number derived = option_and_then (λ n. option_map (λ d. (n, d)) derived) number

no_derivation : (number : Option ℕ) → numbered_by number None ≡ None
no_derivation None = refl
no_derivation (Some n) = refl

-- the derivation that is kept, with the number of its check
pub numbered : (last : Option Verdict) (asked : Option Asked) → derivation_kept (kept_of last asked) ≡ numbered_by (number_in asked) (derived_kept (kept_of last asked))
numbered last None = refl
numbered last (Some a) = by last
  where
    by : (o : Option Verdict) → derivation_kept (option_map (λ v. record { verdict = v; assumed = assumptions_seen a.assumed.items; number = a.number }) o) ≡ numbered_by a.number (derived_kept (option_map (λ v. record { verdict = v; assumed = assumptions_seen a.assumed.items; number = a.number }) o))
    by None = sym (no_derivation a.number)
    by (Some v) = refl
