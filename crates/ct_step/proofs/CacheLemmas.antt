-- What becomes of the cache by a command that only adds to what is declared, and by one that takes declarations back.
use Rattle.std.proofs.Common.{◌≡◌, ℕ, ◌<◌, length, Bool, true, Option, None, Some, IfSome, IsErrOf, Result, Ok, Err, refl, sym, ap, subst, inl, inr, ◌∙◌}
use Rattle.ct_sorts.specs.Consistent.{IsConsistent}
use Rattle.ct_sorts.specs.Declarations.{Declarations}
use Rattle.ct_sorts.specs.Grown.{Extends}
use Rattle.ct_sorts.specs.Lengths.{Lengths}
use Rattle.ct_sorts.specs.Marks.{cut}
use Rattle.ct_base.specs.Base.{IsBase}
use Rattle.ct_trial.specs.LastModel.{IsLastModel}
use Rattle.ct_command.specs.declared.error.CommandError.{CommandError}
use Rattle.ct_command.specs.declared.error.CommandError.TheVariants.{Refused, NoMemory}
use Rattle.ct_command.specs.declared.command.Command.{Command as ReadCommand}
use Rattle.ct_command.specs.Command.{Command}
use Rattle.ct_command.specs.Seen.{command_seen}
use Rattle.ct_stack.specs.Stack.{Stack}
use Rattle.ct_stack.specs.Levels.{IsCutTo}
use Rattle.ct_stack.specs.Refusal.{IsPopRefusal}
use Rattle.ct_step.specs.declared.answer.Answer.{Answer}
use Rattle.ct_step.specs.declared.cache.Cache.{Cache}
use Rattle.ct_step.specs.declared.state.SessionState.{SessionState}
use Rattle.ct_step.specs.Cache.{IsCacheOf}
use Rattle.ct_step.specs.State.{State, declared}
use Rattle.ct_step.specs.Done.{IsDone, state_of}
use Rattle.ct_step.specs.Growing.{Growing}
use Rattle.ct_step.proofs.DoneLemmas.{seen_as}
use Rattle.ct_step.proofs.SoundLemmas.{same_state}
use Rattle.ct_step.proofs.StoreLemmas.{rests, grown_after}

-- a cache of declarations is one of later declarations
each_later : {X : Type 0} (P Q : X → Type 0) → ((x : X) → P x → Q x) → (o : Option X) → IfSome o P → IfSome o Q
each_later P Q grows None h = tt
each_later P Q grows (Some x) h = grows x h

pub cache_later : Growing → (d later : Declarations) (cache : Cache) → Extends later d → IsCacheOf d cache → IsCacheOf later cache
cache_later g d later cache extends h = (
  each_later (λ base. IsBase d base.value) (λ base. IsBase later base.value) (λ base is. g.bases d later base.value extends is) cache.base h.0,
  each_later (λ model. IsLastModel d model.value) (λ model. IsLastModel later model.value) (λ model is. g.models d later model.value extends is) cache.model h.1,
)

module _ (old new : SessionState) (number : ℕ) where
  -- by a command that only adds to what is declared
  cached_by : Growing → (c : Command) (r : Result Answer CommandError) (cache : Cache) → rests c ≡ true → IsDone old number c new r → IsCacheOf (declared (state_of old)) cache → IsCacheOf (declared (state_of new)) cache
  cached_by g c (Ok a) cache rest done h =
      subst (λ (s : State). IsCacheOf (declared s) cache) (sym done.state)
      (cache_later g (declared (state_of old)) (declared done.effect.state) cache (grown_after g (state_of old) done.effect number c rest done.accepted.1) h)
  cached_by g c (Err (Refused n)) cache rest done h = subst (λ (s : State). IsCacheOf (declared s) cache) (sym (same_state old new done.1)) h
  cached_by g c (Err NoMemory) cache rest done h = subst (λ (s : State). IsCacheOf (declared s) cache) (sym (same_state old new done)) h

  pub cached : Growing → (r : Result Answer CommandError) (c d : ReadCommand) (cache : Cache) → IsCacheOf (declared (state_of old)) cache → c ≡ d → rests (command_seen d) ≡ true → IsDone old number (command_seen d) new r → IsCacheOf (declared (state_of new)) cache
  cached g r c d cache h is rest done =
      let own : rests (command_seen c) ≡ true = ap (λ (x : ReadCommand). rests (command_seen x)) is ∙ rest in
      cached_by g (command_seen c) r cache own (seen_as old new number r c d is done) h

-- what is left of it is of what is left of the declarations
pub cache_left : (d left : Declarations) (mark : Option Lengths) (cache : Cache) → (mark ≡ None → left ≡ d) → IfSome mark (λ m. IsCutTo d m left) → (mark ≡ None → IsCacheOf d cache) → IfSome mark (λ m. IsCacheOf (cut d m) cache) → IsCacheOf left cache
cache_left d left None cache same to none some = subst (λ (x : Declarations). IsCacheOf x cache) (sym (same refl)) (none refl)
cache_left d left (Some m) cache same to none some = subst (λ (x : Declarations). IsCacheOf x cache) to.cut_is some

-- a pop that is refused leaves it
pub refused_cache : (d : Declarations) (s : Stack) (n : ℕ) (cache : Cache) (e : CommandError) → ((k : ℕ) → IsErrOf {T = Unit {0}} {E = CommandError} (Err e) (Refused k) → IsPopRefusal s n k) → (IsErrOf {T = Unit {0}} {E = CommandError} (Err e) NoMemory → ⊥) → (length s.below < n → IsCacheOf d cache) → IsCacheOf d cache
refused_cache d s n cache NoMemory why never above = absurd (never refl)
refused_cache d s n cache (Refused k) why never above = by_cause (why k refl)
  where
    by_cause : IsPopRefusal s n k → IsCacheOf d cache
    by_cause (inl h) = above h.1
    by_cause (inr h) = absurd h.1

-- the stack of levels that are left
pub cache_as : (stack new : Stack) (cache : Cache) → new ≡ stack → IsCacheOf stack.top.context.declarations cache → IsCacheOf new.top.context.declarations cache
cache_as stack new cache is h = subst (λ (s : Stack). IsCacheOf s.top.context.declarations cache) (sym is) h

-- what is left agrees with itself
pub left_consistent : (d left : Declarations) (mark : Option Lengths) → IfSome mark (λ m. IsCutTo d m left) → IfSome mark (λ m. IsConsistent (cut d m))
left_consistent d left None h = tt
left_consistent d left (Some m) h = subst IsConsistent (sym h.cut_is) h.consistent
