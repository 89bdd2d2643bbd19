-- What is left of a session where a check with assumptions is gone through without a verdict.
use Rattle.std.proofs.Common.{◌≡◌, ◌∙◌, ℕ, List, Option, None, Some, Result, Ok, Err, OnErr, refl, sym, ap, subst}
use Rattle.std.proofs.lemmas.Option.{none-some}
use Rattle.ct_sexpr.specs.Expression.{Expression}
use Rattle.ct_sorts.specs.Declarations.{Declarations}
use Rattle.ct_kept.specs.Kept.{Stored}
use Rattle.ct_stack.specs.Assuming.{Assumption, Assumes, assumptions}
use Rattle.ct_stack.specs.Stack.{Stack, declaring}
use Rattle.ct_stack.specs.declared.model_values.ModelValues.{ModelValues}
use Rattle.ct_stack.proofs.NeededLemmas.{comes_grows}
use Rattle.ct_step.specs.declared.cache.Cache.{Cache}
use Rattle.ct_step.specs.declared.state.SessionState.{SessionState}
use Rattle.ct_step.specs.Cache.{IsCacheOf}
use Rattle.ct_step.specs.State.{State, declared, changed}
use Rattle.ct_step.specs.Refusal.{IsAssumingRefusal}
use Rattle.ct_step.specs.Done.{IsSame, state_of}
use Rattle.ct_step.specs.Growing.{Growing}
use Rattle.ct_step.specs.Known.{AreKnown}
use Rattle.ct_step.specs.Rehearsal.{IsRehearsed}
use Rattle.ct_step.specs.Store.{IsSoundWith, IsStoreOf}
use Rattle.ct_step.proofs.CacheLemmas.{cache_later}
use Rattle.ct_step.proofs.SoundLemmas.{unkept, same_state}

-- the stack has the sorts that the terms need, and nothing is kept
module _ (old : SessionState) (ts : List Expression) (assumed : List Assumption) (stack : Stack) (a : Assumes old.stack ts old.stack stack assumed) where
  abbrev new : SessionState
  new = record old { stack = stack; kept = None }

  new_state : state_of new ≡ changed (state_of old) (declaring old.stack a.later)
  new_state = ap (λ (s : Stack). changed (state_of old) s) a.stack_is

  pub rehearsed : ((n : ℕ) → IsAssumingRefusal old.stack ts n → ⊥) → IsRehearsed old ts new
  rehearsed accepted = record { accepted = accepted; sorts = (a.later, assumed, a.comes, new_state); unanswered = refl }

  pub rehearsed_sound : Growing → (store : Stored) → IsSoundWith (state_of old) store → IsSoundWith (state_of new) store
  rehearsed_sound g store sound =
      record {
        sound = unkept (state_of new) refl;
        sorted = subst (λ (s : State). IsStoreOf s store) (sym new_state)
            (g.table a.later (declared (state_of old)) store.table (comes_grows (λ d. assumptions d ts) (declared (state_of old)) a.later (Ok assumed) a.comes).extends sound.sorted);
      }

  pub rehearsed_cache : Growing → (cache : Cache) → IsCacheOf (declared (state_of old)) cache → IsCacheOf (declared (state_of new)) cache
  rehearsed_cache g cache h =
      subst (λ (s : State). IsCacheOf (declared s) cache) (sym new_state)
      (cache_later g (declared (state_of old)) a.later cache (comes_grows (λ d. assumptions d ts) (declared (state_of old)) a.later (Ok assumed) a.comes).extends h)

  pub rehearsed_known : (values : Option ModelValues) → AreKnown (state_of new) values
  rehearsed_known values = λ i stands. absurd (none-some i stands)

-- where nothing has changed
module _ (old new : SessionState) (same : IsSame old new) where
  pub sound_same : (store : Stored) → IsSoundWith (state_of old) store → IsSoundWith (state_of new) store
  sound_same store sound = subst (λ (s : State). IsSoundWith s store) (sym (same_state old new same)) sound

  pub cache_same : (cache : Cache) → IsCacheOf (declared (state_of old)) cache → IsCacheOf (declared (state_of new)) cache
  cache_same cache h = subst (λ (s : State). IsCacheOf (declared s) cache) (sym (same_state old new same)) h

  pub known_same : (values : Option ModelValues) → AreKnown (state_of old) values → AreKnown (state_of new) values
  known_same values known = subst (λ (s : State). AreKnown s values) (sym (same_state old new same)) known
