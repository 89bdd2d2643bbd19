-- A sort that is found, that comes into the list, or for which there is no room.
use Rattle.std.proofs.Common.{◌≡◌, ℕ, List, [], ◌∷◌, ◌++◌, length, Option, Some, None, IfSome, IfNone, Ok, Err, refl, sym, ◌∙◌, ap, ap₂, subst, inl, inr, arith, length-append}
use Rattle.std.specs.List.{AllZip}
use Rattle.std.proofs.lemmas.List.{append-nil}
use Rattle.std.proofs.lemmas.Option.{none-some, same_Some, slice_get_within}
use Rattle.ct_generics.specs.declared.expr.SortExpr.{SortExpr}
use Rattle.ct_generics.specs.Add.{IsAmong, Adds, there as adds_there, none as adds_none, IsAdded}
use Rattle.ct_generics.specs.Declarations.{Head}
use Rattle.ct_generics.specs.Expression.{Expression, named, with_args}
use Rattle.ct_generics.specs.Resolved.{resolved}
use Rattle.ct_sexpr.specs.Expression.{Expression as Sexpr}
use Rattle.ct_sorts.specs.declared.ids.GenId.{GenId}
use Rattle.ct_sorts.specs.declared.ids.SortId.{SortId}
use Rattle.ct_sorts.specs.Applied.{IsAt}
use Rattle.ct_sorts.specs.Consistent.{IsConsistent}
use Rattle.ct_sorts.specs.Declarations.{Declarations, IsSort}
use Rattle.ct_sorts.specs.Instances.{IsOrigin, IsWithSorts, HasNoRoom, IsWithInstance, IsInstanceRefusal}
use Rattle.ct_sorts.specs.Limits.{room_in}
use Rattle.ct_sorts.specs.Made.{with_sorts}
use Rattle.ct_sorts.specs.Same.{number_among}
use Rattle.ct_names.specs.Needs.{Reaches, as_they_are, with_needed}
use Rattle.ct_names.specs.Outcome.{Outcome, Elaborated, and_then, step, missing}
use Rattle.ct_names.specs.Sorts.{written_sort, there, sort_there, sort_of}
use Rattle.ct_names.proofs.FoundLemmas.{number_found, number_is}

-- what adds the same sorts comes to the same list
abbrev pub AddSame : Type 0
AddSame = (heads : List Head) (es before after other : List Expression) → Adds heads es before after → Adds heads es before other → after ≡ other

-- a sort in the list
pub there_is : (d : Declarations) → IsConsistent d → (e : Expression) (s : SortId) → IsOrigin d s e → sort_there d e ≡ Ok s
there_is d c e s at = ap (there e) (number_is d.origins c.origins.different e s.0 at)

-- no other sort is
pub not_there : (d : Declarations) (e : Expression) → ((s : SortId) → IsOrigin d s e → ⊥) → sort_there d e ≡ Err (missing e)
not_there d e none = by (number_among d.origins e) refl
  where
    by : (o : Option ℕ) → number_among d.origins e ≡ o → there e o ≡ Err (missing e)
    by None at = refl
    by (Some n) at = absurd (none (record { 0 = n }) (number_found d.origins e n at))

-- where a sort is in the list, there is room for it, and nothing comes with it
room_there : (d : Declarations) (e : Expression) → IsAmong d.origins e → IsAdded d.declared.heads (room_in d) (e ∷ []) d.origins []
room_there d e among = (
  subst (Adds d.declared.heads (e ∷ []) d.origins) (sym (append-nil d.origins)) (adds_there e [] d.origins d.origins among (adds_none d.origins)),
  record { sorts = omega arith; ctors = omega arith; sels = omega arith; texts = λ i x at. absurd (none-some x at) },
)

pub no_room : (d : Declarations) (e : Expression) → HasNoRoom d (e ∷ []) → (s : SortId) → IsOrigin d s e → ⊥
no_room d e full s at = full [] (room_there d e (s.0, at))

with_nothing : (d : Declarations) → with_sorts d [] ≡ d
with_nothing d = λ i. record d { sorts = append-nil d.sorts i; ctors = append-nil d.ctors i; sels = append-nil d.sels i; origins = append-nil d.origins i }

no_more : {X : Type 0} (xs ys : List X) → xs ++ ys ≡ xs → ys ≡ []
no_more xs [] e = refl
no_more xs (y ∷ ys) e = absurd (omega (arith, ap length e, length-append xs (y ∷ ys)))

nothing_added : AddSame → (d later : Declarations) (e : Expression) → IsAmong d.origins e → IsWithSorts d (e ∷ []) later → later ≡ d
nothing_added same d later e among with_it =
    let kept = same d.declared.heads (e ∷ []) d.origins (d.origins ++ with_it.0) d.origins with_it.1.0 (adds_there e [] d.origins d.origins among (adds_none d.origins)) in
    with_it.2 ∙ ap (with_sorts d) (no_more d.origins with_it.0 kept) ∙ with_nothing d

-- a sort that came into the list, or was there
pub added_reaches : {X : Type 0} (f : Declarations → Elaborated X) (d later : Declarations) (e : Expression) → AddSame → IsConsistent d → (sort_there d e ≡ Err (missing e) → f d ≡ Err (missing e)) → IsWithSorts d (e ∷ []) later → Reaches f d later
added_reaches f d later e same c is with_it = by (number_among d.origins e) refl
  where
    by : (o : Option ℕ) → number_among d.origins e ≡ o → Reaches f d later
    by None at = with_needed d later later e (is (ap (there e) at)) with_it (as_they_are later)
    by (Some n) at = subst (Reaches f d) (sym (nothing_added same d later e (n, number_found d.origins e n at) with_it)) (as_they_are d)

-- the sort that an expression writes
pub sort_of_is : (d : Declarations) (x : Sexpr) (e : Expression) → written_sort d.declared [] x ≡ Ok e → sort_of d x ≡ sort_there d e
sort_of_is d x e is = ap (λ (o : Outcome Expression). and_then (step o) (sort_there d)) is

-- ---- what `instance` and `instance_at` of the declarations say

same_value : (r : Outcome Expression) (x y : Expression) → r ≡ Ok x → r ≡ Ok y → x ≡ y
same_value r x y a b = cc

pub instance_value : (d later : Declarations) (w : SortExpr) (s : SortId) (e : Expression) → IsConsistent later → IsWithInstance d w later s → resolved d.declared w ≡ Ok e → sort_there later e ≡ Ok s
instance_value d later w s e c with_it is = there_is later c e s (subst (IsOrigin later s) (same_value (resolved d.declared w) with_it.0 e with_it.1 is) with_it.3)

pub instance_reaches : (d later : Declarations) (w : SortExpr) (s : SortId) (e : Expression) → AddSame → IsConsistent d → IsWithInstance d w later s → resolved d.declared w ≡ Ok e → Reaches (λ (x : Declarations). sort_there x e) d later
instance_reaches d later w s e same c with_it is = added_reaches (λ (x : Declarations). sort_there x e) d later e same c (λ h. h) (subst (λ (x : Expression). IsWithSorts d (x ∷ []) later) (same_value (resolved d.declared w) with_it.0 e with_it.1 is) with_it.2)

pub instance_missing : (d : Declarations) (w : SortExpr) (n : ℕ) (e : Expression) → IsInstanceRefusal d w n → resolved d.declared w ≡ Ok e → HasNoRoom d (e ∷ []) × (sort_there d e ≡ Err (missing e))
instance_missing d w n e (inl refusal) is = absurd cc
instance_missing d w n e (inr refusal) is =
    let full = subst (λ (x : Expression). HasNoRoom d (x ∷ [])) (same_value (resolved d.declared w) refusal.0 e refusal.1 is) refusal.2 in
    (full, not_there d e (no_room d e full))

-- ---- what is in the list

pub origin_inside : (d : Declarations) → IsConsistent d → (s : SortId) (e : Expression) → IsOrigin d s e → IsSort d s
origin_inside d c s e at = omega (arith, c.origins.one_each, slice_get_within d.origins s.0 e at)

pub found_some : (d : Declarations) → IsConsistent d → (w : SortExpr) (o : Option SortId) (s : SortId) (e : Expression) → o ≡ Some s → IfSome o (λ t. (f : Expression) × (resolved d.declared w ≡ Ok f) × IsOrigin d t f) → resolved d.declared w ≡ Ok e → sort_there d e ≡ Ok s
found_some d c w o s e at found is =
    let h = subst (λ (o : Option SortId). IfSome o (λ t. (f : Expression) × (resolved d.declared w ≡ Ok f) × IsOrigin d t f)) at found in
    there_is d c e s (subst (IsOrigin d s) (same_value (resolved d.declared w) h.0 e h.1 is) h.2)

pub found_inside : (d : Declarations) → IsConsistent d → (w : SortExpr) (o : Option SortId) (s : SortId) → o ≡ Some s → IfSome o (λ t. (f : Expression) × (resolved d.declared w ≡ Ok f) × IsOrigin d t f) → IsSort d s
found_inside d c w o s at found =
    let h = subst (λ (o : Option SortId). IfSome o (λ t. (f : Expression) × (resolved d.declared w ≡ Ok f) × IsOrigin d t f)) at found in
    origin_inside d c s h.0 h.2

pub found_none : (d : Declarations) (w : SortExpr) (o : Option SortId) (e : Expression) → o ≡ None → IfNone o ((f : Expression) (s : SortId) → resolved d.declared w ≡ Ok f → IsOrigin d s f → ⊥) → resolved d.declared w ≡ Ok e → sort_there d e ≡ Err (missing e)
found_none d w o e at none is =
    let h = subst (λ (o : Option SortId). IfNone o ((f : Expression) (s : SortId) → resolved d.declared w ≡ Ok f → IsOrigin d s f → ⊥)) at none in
    not_there d e (λ s is_s. h e s is is_s)

-- ---- a generic at sorts by their numbers

one_row : (d : Declarations) (args : List SortId) (es fs : List Expression) → AllZip (IsOrigin d) args es → AllZip (IsOrigin d) args fs → es ≡ fs
one_row d [] [] [] first second = refl
one_row d [] [] (f ∷ fs) first second = absurd second
one_row d [] (e ∷ es) fs first second = absurd first
one_row d (s ∷ args) [] fs first second = absurd first
one_row d (s ∷ args) (e ∷ es) [] first second = absurd second
one_row d (s ∷ args) (e ∷ es) (f ∷ fs) first second = ap₂ (λ (x : Expression) (xs : List Expression). x ∷ xs) (same_Some e f (sym first.0 ∙ second.0)) (one_row d args es fs first.1 second.1)

pub one_at : (d : Declarations) (g : GenId) (args : List SortId) (e f : Expression) → IsAt d g args e → IsAt d g args f → e ≡ f
one_at d g args e f first second = first.2 ∙ ap (with_args (named g.0)) (one_row d args first.0 second.0 first.1 second.1) ∙ sym second.2

pub at_found : (d : Declarations) → IsConsistent d → (g : GenId) (args : List SortId) (s : SortId) (e : Expression) → ((f : Expression) × IsAt d g args f × IsOrigin d s f) → IsAt d g args e → sort_there d e ≡ Ok s
at_found d c g args s e found is = there_is d c e s (subst (IsOrigin d s) (one_at d g args found.0 e found.1 is) found.2)

-- it came into the list, with this number
abbrev pub IsWithAt : Declarations → GenId → List SortId → Declarations → SortId → Type 0
IsWithAt d g args later s = (f : Expression) × IsAt d g args f × IsWithSorts d (f ∷ []) later × IsOrigin later s f

pub at_value : (d later : Declarations) (g : GenId) (args : List SortId) (s : SortId) (e : Expression) → IsConsistent later → IsWithAt d g args later s → IsAt d g args e → sort_there later e ≡ Ok s
at_value d later g args s e c with_it is = there_is later c e s (subst (IsOrigin later s) (one_at d g args with_it.0 e with_it.1 is) with_it.3)

pub at_reaches : (d later : Declarations) (g : GenId) (args : List SortId) (s : SortId) (e : Expression) → AddSame → IsConsistent d → IsWithAt d g args later s → IsAt d g args e → Reaches (λ (x : Declarations). sort_there x e) d later
at_reaches d later g args s e same c with_it is = added_reaches (λ (x : Declarations). sort_there x e) d later e same c (λ h. h) (subst (λ (x : Expression). IsWithSorts d (x ∷ []) later) (one_at d g args with_it.0 e with_it.1 is) with_it.2)

-- there is no room for it
pub at_missing : (d : Declarations) (g : GenId) (args : List SortId) (e : Expression) → ((f : Expression) × IsAt d g args f × HasNoRoom d (f ∷ [])) → IsAt d g args e → HasNoRoom d (e ∷ []) × (sort_there d e ≡ Err (missing e))
at_missing d g args e full is =
    let none = subst (λ (x : Expression). HasNoRoom d (x ∷ [])) (one_at d g args full.0 e full.1 is) full.2 in
    (none, not_there d e (no_room d e none))
