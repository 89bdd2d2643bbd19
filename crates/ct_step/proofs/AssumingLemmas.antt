-- Assumptions stand on a level of their own: what is checked there is checked beside the assertions in force.
use Rattle.std.proofs.Common.{◌≡◌, ◌∙◌, ℕ, List, [], ◌∷◌, ◌++◌, reverse, true, false, Ok, Err, refl, sym, ap, subst}
use Rattle.std.specs.List.{flat_map}
use Rattle.std.proofs.lemmas.List.{append-nil, reverse-append}
use Rattle.std.proofs.lemmas.List.Concat.{flat_map-append}
use Rattle.ct_sexpr.specs.Expression.{Expression}
use Rattle.ct_sorts.specs.Declarations.{Declarations}
use Rattle.ct_sorts.specs.Grown.{Extends}
use Rattle.ct_formulas.specs.Formula.{Formula}
use Rattle.ct_closure.specs.Closed.{HasMoreThan, most_closure_terms}
use Rattle.ct_engine.specs.declared.verdict.Verdict.{Verdict}
use Rattle.ct_stack.specs.Assuming.{Assumption, Assumes, RefusesToAssume, assumptions, assumed_formulas, assuming}
use Rattle.ct_stack.specs.Levels.{pushed, popped}
use Rattle.ct_stack.specs.Numbers.{too_many_terms}
use Rattle.ct_stack.specs.Refusal.{HasManyTerms}
use Rattle.ct_stack.specs.Stack.{Stack, Level, Context, in_force, cores, declaring}
use Rattle.ct_stack.specs.Theorems.{AddSame}
use Rattle.ct_stack.proofs.NeededLemmas.{comes_grows, refused_needing, value_needing, accepted_needing}
use Rattle.ct_sorts.specs.Refusals.{IsFirstCause, IsNone}
use Rattle.ct_step.specs.Numbers.{closure_too_large}
use Rattle.ct_step.specs.Refusal.{IsAssumingRefusal, IsTooLarge}
use Rattle.ct_step.specs.Verdict.{ComesTo}

-- the assertions of all these levels
abbrev own : List Level → List Formula
own levels = flat_map (λ level. level.assertions) levels

-- a level more, at which nothing is asserted, leaves what is in force
in_force_pushed : (s : Stack) (later : Declarations) → in_force (declaring (pushed s) later) ≡ in_force s
in_force_pushed s later =
    append-nil (own (reverse (s.top ∷ s.below)))
    ∙ ap own (reverse-append (s.top ∷ []) s.below)
    ∙ flat_map-append (λ (level : Level). level.assertions) (reverse s.below) (s.top ∷ [])
    ∙ ap (λ (fs : List Formula). own (reverse s.below) ++ fs) (append-nil s.top.assertions)

-- what is too large of these formulas
abbrev AreTooLarge : Context → List Formula → ℕ → Type 0
AreTooLarge c fs =
    IsFirstCause too_many_terms (HasManyTerms (cores c fs))
    (IsFirstCause closure_too_large (HasMoreThan c.declarations (cores c fs) most_closure_terms) IsNone)

-- the stack between has a level more, and the last one has it no more
module _ (s mid : Stack) (ts : List Expression) (assumed : List Assumption) (a : Assumes s ts (pushed s) mid assumed) where
  all_assumed : assuming (declaring (pushed s) a.later) assumed ≡ assuming (declaring s a.later) assumed
  all_assumed = ap (λ (fs : List Formula). fs ++ assumed_formulas assumed) (in_force_pushed s a.later)

  -- the level is taken back with what is declared at it, or without
  pub with_sorts : (new : Stack) → new ≡ popped true mid → new ≡ declaring s a.later
  with_sorts new is = is ∙ ap (popped true) a.stack_is

  pub without_sorts : (new : Stack) → new ≡ popped false mid → new ≡ s
  without_sorts new is = is ∙ ap (popped false) a.stack_is

  pub declared_there : mid.top.context.declarations ≡ a.later
  declared_there = ap (λ (t : Stack). t.top.context.declarations) a.stack_is

  pub grown_there : Extends mid.top.context.declarations s.top.context.declarations
  grown_there = subst (λ (d : Declarations). Extends d s.top.context.declarations) (sym declared_there) (comes_grows (λ d. assumptions d ts) s.top.context.declarations a.later (Ok assumed) a.comes).extends

  -- what is right of the assertions in force with the assumptions
  right_here : (budget : ℕ) (v : Verdict) → ComesTo mid.top.context (assuming mid assumed) budget v → ComesTo (declaring s a.later).top.context (assuming (declaring s a.later) assumed) budget v
  right_here budget v h =
      subst (λ (fs : List Formula). ComesTo (declaring s a.later).top.context fs budget v) all_assumed
      (subst (λ (m : Stack). ComesTo m.top.context (assuming m assumed) budget v) a.stack_is h)

  -- and what is too large
  large_here : (n : ℕ) → IsTooLarge mid assumed n → IsTooLarge (declaring s a.later) assumed n
  large_here n h =
      subst (λ (fs : List Formula). AreTooLarge (declaring s a.later).top.context fs n) all_assumed
      (subst (λ (m : Stack). AreTooLarge m.top.context (assuming m assumed) n) a.stack_is h)

  large_there : (n : ℕ) → IsTooLarge (declaring s a.later) assumed n → IsTooLarge mid assumed n
  large_there n h =
      subst (λ (m : Stack). AreTooLarge m.top.context (assuming m assumed) n) (sym a.stack_is)
      (subst (λ (fs : List Formula). AreTooLarge (declaring s a.later).top.context fs n) (sym all_assumed) h)

  -- on the last stack
  module _ (new : Stack) (is : new ≡ popped true mid) where
    last : new ≡ declaring s a.later
    last = with_sorts new is

    pub assumes_last : Assumes s ts s new assumed
    assumes_last = record { later = a.later; comes = a.comes; stack_is = last }

    pub right_last : (budget : ℕ) (v : Verdict) → ComesTo mid.top.context (assuming mid assumed) budget v → ComesTo new.top.context (assuming new assumed) budget v
    right_last budget v h = subst (λ (m : Stack). ComesTo m.top.context (assuming m assumed) budget v) (sym last) (right_here budget v h)

    pub fits_last : ((n : ℕ) → IsTooLarge mid assumed n → ⊥) → (n : ℕ) → IsTooLarge new assumed n → ⊥
    fits_last fits n h = fits n (large_there n (subst (λ (m : Stack). AreTooLarge m.top.context (assuming m assumed) n) last h))

    pub declared_last : mid.top.context.declarations ≡ new.top.context.declarations
    declared_last = declared_there ∙ sym (ap (λ (t : Stack). t.top.context.declarations) last)

  -- so the check is refused, or not
  pub refused_large : (n : ℕ) → IsTooLarge mid assumed n → IsAssumingRefusal s ts n
  refused_large n h = value_needing (λ d. assumptions d ts) s.top.context.declarations (λ later. IsTooLarge (declaring s later)) a.later assumed n a.comes (large_here n h)

  pub accepted_few : AddSame → ((n : ℕ) → IsTooLarge mid assumed n → ⊥) → (n : ℕ) → IsAssumingRefusal s ts n → ⊥
  accepted_few add_same fits =
      accepted_needing add_same (λ d. assumptions d ts) s.top.context.declarations (λ later. IsTooLarge (declaring s later)) a.later assumed a.comes (λ n h. fits n (large_there n h))

-- terms that are refused refuse the check
pub refused_terms : (s : Stack) (ts : List Expression) (n : ℕ) → RefusesToAssume s ts n → IsAssumingRefusal s ts n
refused_terms s ts n (later, h) = refused_needing (λ d. assumptions d ts) s.top.context.declarations (λ later. IsTooLarge (declaring s later)) later n h
