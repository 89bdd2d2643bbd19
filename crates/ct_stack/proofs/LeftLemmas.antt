-- What is declared where levels have gone: so much as at the mark of the last of them, to which declarations can be cut.
use Rattle.std.proofs.Common.{◌≡◌, ◌∙◌, ℕ, zero, suc, ◌-◌, ◌<◌, ◌≤◌, false, List, [], ◌∷◌, length, reverse, get_or, slice_get, Some, sym, ap, subst, arith}
use Rattle.std.proofs.lemmas.List.{length-reverse, get_or-reverse}
use Rattle.std.proofs.lemmas.Option.{none-some, same_Some, slice_get-get_or, get_or_from_slice_get}
use Rattle.ct_sorts.specs.Declarations.{Declarations, start}
use Rattle.ct_sorts.specs.Lengths.{Lengths}
use Rattle.ct_sorts.specs.Marks.{CanCut, cut, lengths}
use Rattle.ct_sorts.specs.Consistent.{IsConsistent}
use Rattle.ct_sorts.specs.Grown.{Extends}
use Rattle.ct_stack.specs.Theorems.{Theorems}
use Rattle.ct_stack.specs.Stack.{Context, Level, Stack}
use Rattle.ct_stack.specs.Levels.{popped_by, left_by, IsCutTo}
use Rattle.ct_stack.specs.Whole.{Whole, level_at, whole_at, stack_of, AreHeld}
use Rattle.ct_stack.specs.declared.levels.LevelMark.{LevelMark}
use Rattle.ct_stack.proofs.LevelLemmas.{context_now}

-- these declarations, so many, are those of before
record IsLeft (d : Declarations) (m : Lengths) (left : Declarations) : Type 0 where
  pub consistent : IsConsistent left
  pub extends : Extends d left
  pub exact : lengths left ≡ m

-- what is declared where so many levels have gone, and one more
abbrev left_at : ℕ → Level → List LevelMark → Declarations
left_at n l marks = (popped_by false (suc n) (stack_of l marks)).top.context.declarations

-- what stands in a list stands in the reversed one, as far from the other end
from_end : {X : Type 0} (xs : List X) (k : ℕ) (x : X) → k < length xs → slice_get xs (length xs - suc k) ≡ Some x → slice_get (reverse xs) k ≡ Some x
from_end xs k x within stands =
    let place : length xs - 1 - k ≡ length xs - suc k = omega arith in
    slice_get-get_or (reverse xs) k x (omega (arith, within, length-reverse xs))
    ∙ ap Some (get_or-reverse xs k x within ∙ ap (λ (i : ℕ). get_or xs i x) place ∙ get_or_from_slice_get xs (length xs - suc k) x x stands)

module _ (theorems : Theorems) where
  is_left : (n : ℕ) (w : Whole) (marks : List LevelMark) (m : LevelMark) → AreHeld w marks → slice_get marks n ≡ Some m → IsLeft w.level.context.declarations m.declared (left_at n w.level marks)
  is_left n w [] m held stands = absurd (none-some m stands)
  is_left zero w (x ∷ marks) m held stands =
      subst (λ (y : LevelMark). IsLeft w.level.context.declarations y.declared (left_at zero w.level (x ∷ marks))) (same_Some x m stands)
      (subst (λ (c : Context). IsLeft w.level.context.declarations x.declared c.declarations) (sym (context_now (level_at x w.level) marks))
      (record { consistent = held.1.consistent; extends = held.1.extends; exact = held.1.exact }))
  is_left (suc n) w (x ∷ marks) m held stands =
      let inner = is_left n (whole_at x w) marks m held.2 stands in
      record {
        consistent = inner.consistent;
        extends = theorems.further w.level.context.declarations (cut w.level.context.declarations x.declared) (left_at n (level_at x w.level) marks) held.1.extends inner.extends;
        exact = inner.exact;
      }

  -- what is left is cut to
  cut_to : (d : Declarations) (m : Lengths) (left : Declarations) → IsLeft d m left → IsCutTo d m left
  cut_to d m left h =
      record {
        can_cut = subst (CanCut d) h.exact (theorems.can_cut d left h.consistent h.extends);
        cut_is = ap (cut d) (sym h.exact) ∙ theorems.cut_back d left h.extends;
        consistent = h.consistent;
      }

  -- at the start
  pub cut_to_start : (d : Declarations) (first : Lengths) → IsConsistent d → IsConsistent start → first ≡ lengths start → IsCutTo d first start
  cut_to_start d first consistent start_consistent is = cut_to d first start (record { consistent = start_consistent; extends = theorems.from_start d consistent; exact = sym is })

  module _ (w : Whole) (marks : List LevelMark) (held : AreHeld w (reverse marks)) (s : Stack) (seen : stack_of w.level (reverse marks) ≡ s) (n : ℕ) (some : 1 ≤ n) (within : n ≤ length marks) (m : LevelMark) (stands : slice_get marks (length marks - n) ≡ Some m) where
    fewer : suc (n - 1) ≡ n
    fewer = omega (arith, some)

    left : IsLeft w.level.context.declarations m.declared (popped_by false n s).top.context.declarations
    left =
        let at : length marks - suc (n - 1) ≡ length marks - n = ap (λ (k : ℕ). length marks - k) fewer in
        subst (λ (t : Stack). IsLeft w.level.context.declarations m.declared (popped_by false n t).top.context.declarations) seen
        (subst (λ (k : ℕ). IsLeft w.level.context.declarations m.declared (popped_by false k (stack_of w.level (reverse marks))).top.context.declarations) fewer
        (is_left (n - 1) w (reverse marks) m held (from_end marks (n - 1) m (omega (arith, some, within)) (ap (slice_get marks) at ∙ stands))))

    pub mark_left : Some m.declared ≡ left_by false n s
    mark_left =
        let same : left_by false (suc (n - 1)) s ≡ left_by false n s = ap (λ (k : ℕ). left_by false k s) fewer in
        ap Some (sym left.exact)
        ∙ ap (λ (k : ℕ). Some (lengths (popped_by false k s).top.context.declarations)) (sym fewer)
        ∙ same

    pub cut_left : IsCutTo s.top.context.declarations m.declared (popped_by false n s).top.context.declarations
    cut_left =
        subst (λ (c : Context). IsCutTo c.declarations m.declared (popped_by false n s).top.context.declarations)
        (sym (context_now w.level (reverse marks)) ∙ ap (λ (t : Stack). t.top.context) seen)
        (cut_to w.level.context.declarations m.declared (popped_by false n s).top.context.declarations left)
