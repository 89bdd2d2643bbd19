-- Marks for the constructors of one sort or generic more.
use Rattle.std.proofs.Common.{◌≡◌, ◌↔◌, ℕ, zero, suc, ◌+◌, ◌<◌, ◌≤◌, Bool, IsTrue, List, [], ◌∷◌, ◌++◌, length, slice_get, Some, refl, sym, ◌∙◌, ap, subst, subst₂, ⊎_elim, arith, length-append}
use Rattle.std.specs.List.{AllZip}
use Rattle.std.proofs.lemmas.Option.{none-some, same_Some, slice_get_within}
use Rattle.ct_lemmas.proofs.Lists.{slice_get-append_cases}
use Rattle.ct_generics.specs.Declarations.{Head}
use Rattle.ct_generics.specs.Expression.{Expression}
use Rattle.ct_generics.specs.Occurrence.{OccurAll}
use Rattle.ct_sorts.specs.Determined.{AreMarked, DetermineArguments}
use Rattle.ct_sorts.proofs.CutLemmas.{AllZip-source}

-- each mark says whether the fields of the constructor hold all parameters
abbrev pub Tells : ℕ → Bool → List Expression → Type 0
Tells params mark row = IsTrue mark ↔ OccurAll params row

long : (params : ℕ) (marks : List Bool) (rows : List (List Expression)) → AllZip (Tells params) marks rows → length rows ≤ length marks
long params [] [] all = omega arith
long params [] (row ∷ rows) all = absurd all
long params (mark ∷ marks) [] all = absurd all
long params (mark ∷ marks) (row ∷ rows) all = omega (arith, long params marks rows all.1)

at_end : {X : Type 0} (x : X) (k : ℕ) (y : X) → slice_get (x ∷ []) k ≡ Some y → x ≡ y
at_end x zero y at = same_Some _ _ at
at_end x (suc k) y at = absurd (none-some _ at)

module _ (heads : List Head) (marks : List (List Bool)) (head : Head) (new : List Bool) (m : AreMarked heads marks) (all : AllZip (Tells head.params) new head.ctors) where
  -- both are old, or both are the last
  at_both : {P : Type 0} (h : ℕ) (known : Head) (ctors : List Bool) → slice_get (heads ++ head ∷ []) h ≡ Some known → slice_get (marks ++ new ∷ []) h ≡ Some ctors → (slice_get heads h ≡ Some known → slice_get marks h ≡ Some ctors → P) → (head ≡ known → new ≡ ctors → P) → P
  at_both h known ctors at names old last =
      ⊎_elim
      (λ old_head. ⊎_elim (λ old_marks. old old_head old_marks) (λ later. absurd (omega (arith, later.1, m.one_each, slice_get_within heads h known old_head))) (slice_get-append_cases marks (new ∷ []) h ctors names))
      (λ new_head. ⊎_elim (λ old_marks. absurd (omega (arith, new_head.1, m.one_each, slice_get_within marks h ctors old_marks))) (λ later. last (at_end head new_head.0 known new_head.2) (at_end new later.0 ctors later.2)) (slice_get-append_cases marks (new ∷ []) h ctors names))
      (slice_get-append_cases heads (head ∷ []) h known at)

  tells_last : (i : ℕ) (mark : Bool) → slice_get new i ≡ Some mark → IsTrue mark ↔ DetermineArguments head i
  tells_last i mark at =
      let row = AllZip-source (Tells head.params) new head.ctors i mark all at in (
        λ holds other at_other. subst (OccurAll head.params) (same_Some _ _ (sym row.1 ∙ at_other)) (row.2.0 holds),
        λ determines. row.2.1 (determines row.0 row.1),
      )

  pub marked_more : AreMarked (heads ++ head ∷ []) (marks ++ new ∷ [])
  marked_more = record {
    one_each = omega (arith, length-append marks (new ∷ []), length-append heads (head ∷ []), m.one_each);
    enough = λ h known ctors at names.
        at_both h known ctors at names (λ old_head old_marks. m.enough h known ctors old_head old_marks)
        (λ same_head same_marks. subst₂ (λ (x : Head) (y : List Bool). length x.ctors ≤ length y) same_head same_marks (long head.params new head.ctors all));
    right = λ h i known ctors mark at names at_i.
        at_both h known ctors at names (λ old_head old_marks. m.right h i known ctors mark old_head old_marks at_i)
        (λ same_head same_marks. subst (λ (x : Head). IsTrue mark ↔ DetermineArguments x i) same_head (tells_last i mark (ap (λ (ys : List Bool). slice_get ys i) same_marks ∙ at_i)));
  }
