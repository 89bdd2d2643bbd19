-- A command that was refused is cut to its mark: what is said of it before it was cut back is said of it then.
use Rattle.std.proofs.Common.{◌≡◌, ◌∙◌, ℕ, Result, Ok, Err, OnOk, OnErr, sym, ap, subst}
use Rattle.std.specs.Prelude.{IsErrOf}
use Rattle.ct_sorts.specs.Declarations.{Declarations}
use Rattle.ct_sorts.specs.Grown.{Extends}
use Rattle.ct_sorts.specs.Lengths.{Lengths}
use Rattle.ct_sorts.specs.Marks.{CanCut, cut, lengths}
use Rattle.ct_names.specs.Outcome.{Elaborated}
use Rattle.ct_command.specs.declared.error.CommandError.{CommandError}
use Rattle.ct_command.specs.declared.error.CommandError.TheVariants.{Refused}
use Rattle.ct_stack.specs.Outcomes.{GivesNeeding}
use Rattle.ct_stack.specs.Theorems.{Theorems}

-- what holds in any case holds after an error
pub in_any_error : {T E : Type 0} (r : Result T E) (P : Type 0) → P → OnErr r P
in_any_error (Ok x) P p = tt
in_any_error (Err e) P p = p

module _ {T : Type 0} (q r : Result T CommandError) (same : q ≡ r) where
  pub back_accepted : (P : Type 0) → OnOk r P → OnOk q P
  back_accepted P h = subst (λ (x : Result T CommandError). OnOk x P) (sym same) h

  pub back_refused : (P : ℕ → Type 0) → ((n : ℕ) → IsErrOf r (Refused n) → P n) → (n : ℕ) → IsErrOf q (Refused n) → P n
  back_refused P h = subst (λ (x : Result T CommandError). (n : ℕ) → IsErrOf x (Refused n) → P n) (sym same) h

  -- the value is the same where nothing was cut
  pub back_given : {X : Type 0} (f : Declarations → Elaborated X) (d new mid : Declarations) (holds : Declarations → Declarations → X → Type 0) → OnOk r (GivesNeeding f d (holds mid)) → OnOk r (new ≡ mid) → OnOk q (GivesNeeding f d (holds new))
  back_given {X} f d new mid holds given kept = subst (λ (x : Result T CommandError). OnOk x (GivesNeeding f d (holds new))) (sym same) (by r given kept)
    where
      by : (x : Result T CommandError) → OnOk x (GivesNeeding f d (holds mid)) → OnOk x (new ≡ mid) → OnOk x (GivesNeeding f d (holds new))
      by (Ok t) given kept = subst (λ (n : Declarations). GivesNeeding f d (holds n)) (sym kept) given
      by (Err e) given kept = tt

  pub back_unchanged : Theorems → (new mid old : Declarations) (m : Lengths) → m ≡ lengths old → Extends mid old → OnErr r (new ≡ cut mid m) → OnErr q (new ≡ old)
  back_unchanged theorems new mid old m is grown back = subst (λ (x : Result T CommandError). OnErr x (new ≡ old)) (sym same) (by r back)
    where
      by : (x : Result T CommandError) → OnErr x (new ≡ cut mid m) → OnErr x (new ≡ old)
      by (Ok t) back = tt
      by (Err e) back = back ∙ ap (λ (k : Lengths). cut mid k) is ∙ theorems.cut_back mid old grown

  pub back_error : (P : Type 0) → OnErr r P → OnErr q P
  back_error P h = subst (λ (x : Result T CommandError). OnErr x P) (sym same) h

-- where nothing was cut it is said of what is declared then
pub ok_same : {T E : Type 0} (r : Result T E) (P : Declarations → Type 0) (sig mid : Declarations) → OnOk r (sig ≡ mid) → OnOk r (P mid) → OnOk r (P sig)
ok_same (Ok x) P sig mid same h = subst P (sym same) h
ok_same (Err e) P sig mid same h = tt
