-- What an expression writes stands for one sort, and a step that adds the sorts that it needs comes to one outcome over one list of
-- declarations.
use Rattle.std.proofs.Common.{◌≡◌, ℕ, List, [], ◌∷◌, ◌++◌, map, Option, Some, None, Vec, Global, Err, refl, sym, ◌∙◌, ap, ap₂, subst, arith}
use Rattle.std.proofs.lemmas.List.{append_cancel_left}
use Rattle.std.proofs.lemmas.Option.{none-some}
use Rattle.ct_generics.specs.declared.expr.SortExpr.{SortExpr, Param, App}
use Rattle.ct_generics.specs.Declarations.{Declared}
use Rattle.ct_generics.specs.Expression.{Expression}
use Rattle.ct_generics.specs.Outcome.{Outcome as Resolution}
use Rattle.ct_generics.specs.Resolved.{meaning, with_meaning, resolved}
use Rattle.ct_sexpr.specs.Expression.{Expression as Written, Expressions as AllWritten, leaf, list, more}
use Rattle.ct_sorts.specs.Declarations.{Declarations}
use Rattle.ct_sorts.specs.Instances.{IsWithSorts, HasNoRoom}
use Rattle.ct_sorts.specs.Made.{with_sorts}
use Rattle.ct_sorts.specs.Refusals.{too_many}
use Rattle.ct_names.specs.Needs.{Reaches, as_they_are, with_needed, ComesTo, ends_with}
use Rattle.ct_names.specs.Outcome.{Elaborated, Outcome, missing}
use Rattle.ct_names.specs.Sorts.{parameter_at, lone_name_sort, lone_sort, headed_sort, name_in, written_sort, written_sorts, Writes, a_parameter, a_name, an_instance, AllWrite, all_written, and_written}
use Rattle.ct_names.proofs.AddLemmas.{AddSame}
use Rattle.ct_names.proofs.WrittenLemmas.{headed_is, resolved_parameter, resolved_app}

-- ---- what is written

parameter_is : (d : Declared) (params : List (List ℕ)) (e : Written) (name : List ℕ) (i : ℕ) → name_in e ≡ Some name → parameter_at params name ≡ Some i → resolved d (Param i) ≡ written_sort d params e
parameter_is d params (leaf a) name i is at = resolved_parameter d i ∙ sym (ap (lone_sort d params) is ∙ ap (lone_name_sort d name) at)
parameter_is d params (list es) name i is at = absurd (none-some name is)

name_is : (d : Declared) (params : List (List ℕ)) (e : Written) (name : List ℕ) (items : Vec SortExpr Global) → name_in e ≡ Some name → parameter_at params name ≡ None → items.items ≡ [] → resolved d (App name items) ≡ written_sort d params e
name_is d params (leaf a) name items is at empty =
    resolved_app d name items
    ∙ ap (λ (ws : List SortExpr). with_meaning (meaning d name) (map (resolved d) ws)) empty
    ∙ sym (ap (lone_sort d params) is ∙ ap (lone_name_sort d name) at)
name_is d params (list es) name items is at empty = absurd (none-some name is)

instance_is : (d : Declared) (params : List (List ℕ)) (head : Written) (args : AllWritten) (name : List ℕ) (items : Vec SortExpr Global) (arg : SortExpr) (rest : List SortExpr) → name_in head ≡ Some name → parameter_at params name ≡ None → items.items ≡ arg ∷ rest → map (resolved d) (arg ∷ rest) ≡ written_sorts d params args → resolved d (App name items) ≡ written_sort d params (list (more head args))
instance_is d params head args name items arg rest is at same are =
    resolved_app d name items
    ∙ ap (λ (ws : List SortExpr). with_meaning (meaning d name) (map (resolved d) ws)) same
    ∙ sym (headed_is d params name (map (resolved d) (arg ∷ rest)) (omega arith) at)
    ∙ ap (headed_sort d params (Some name)) are
    ∙ sym (ap (λ (o : Option (List ℕ)). headed_sort d params o (written_sorts d params args)) is)

mutual
  -- what an expression writes stands for what the expression says
  pub writes_is : (d : Declared) (params : List (List ℕ)) (e : Written) (w : SortExpr) → Writes params e w → resolved d w ≡ written_sort d params e
  writes_is d params _ _ (a_parameter e name i is at) = parameter_is d params e name i is at
  writes_is d params _ _ (a_name e name w is at app) = ap (resolved d) app.1 ∙ name_is d params e name app.0 is at app.2
  writes_is d params _ _ (an_instance head args name w arg rest is at all app) =
      ap (resolved d) app.1 ∙ instance_is d params head args name app.0 arg rest is at app.2 (all_write_is d params args (arg ∷ rest) all)

  all_write_is : (d : Declared) (params : List (List ℕ)) (es : AllWritten) (ws : List SortExpr) → AllWrite params es ws → map (resolved d) ws ≡ written_sorts d params es
  all_write_is d params _ _ all_written = refl
  all_write_is d params _ _ (and_written e es w ws first others) =
      ap₂ (λ (r : Resolution Expression) (rs : List (Resolution Expression)). r ∷ rs) (writes_is d params e w first) (all_write_is d params es ws others)

-- ---- what is reached

-- sorts that are added make the same of the same declarations
pub with_same : AddSame → (d later other : Declarations) (es : List Expression) → IsWithSorts d es later → IsWithSorts d es other → other ≡ later
with_same same d later other es first second =
    let added : second.0 ≡ first.0 = append_cancel_left d.origins second.0 first.0 (same d.declared.heads es d.origins (d.origins ++ second.0) (d.origins ++ first.0) second.1.0 first.1.0) in
    second.2 ∙ ap (with_sorts d) added ∙ sym first.2

-- there is no room for what the step needs next, if it needs a sort
abbrev pub IsFull : {X : Type 0} → (Declarations → Elaborated X) → Declarations → Type 0
IsFull {X} f d = (e : Expression) → f d ≡ Err (missing e) → HasNoRoom d (e ∷ [])

same_need : {X : Type 0} (r : Elaborated X) (e x : Expression) → r ≡ Err (missing e) → r ≡ Err (missing x) → x ≡ e
same_need r e x first second = cc

one_end : {X : Type 0} (f : Declarations → Elaborated X) → AddSame → (d later other : Declarations) → Reaches f d later → IsFull f later → Reaches f d other → IsFull f other → other ≡ later
one_end f same _ _ other (as_they_are d) full second ends = by d other full second
  where
    by : (d other : Declarations) → IsFull f d → Reaches f d other → other ≡ d
    by _ _ full (as_they_are d) = refl
    by _ _ full (with_needed d middle other e is added rest) = absurd (full e is added.0 added.1)
one_end {X} f same _ _ other (with_needed d middle later e is added rest) full second ends =
    by d middle later other e is added (λ through. one_end f same middle later other rest full through ends) second ends
  where
    by : (d middle later other : Declarations) (e : Expression) → f d ≡ Err (missing e) → IsWithSorts d (e ∷ []) middle → (Reaches f middle other → other ≡ later) → Reaches f d other → IsFull f other → other ≡ later
    by _ middle later _ e is added goes_on (as_they_are d) ends = absurd (ends e is added.0 added.1)
    by _ middle later _ e is added goes_on (with_needed d most other x needs with_it rest) ends =
        let again : IsWithSorts d (e ∷ []) most = subst (λ (y : Expression). IsWithSorts d (y ∷ []) most) (same_need (f d) e x is needs) with_it in
        goes_on (subst (λ (y : Declarations). Reaches f y other) (with_same same d middle most (e ∷ []) added again) rest)

-- a step comes to one outcome
pub one_outcome : {X : Type 0} (f : Declarations → Elaborated X) → AddSame → (d later other : Declarations) (o p : Outcome X) → ComesTo f d later o → ComesTo f d other p → (other ≡ later) × (p ≡ o)
one_outcome f same d later other o p first second =
    let one : other ≡ later = one_end f same d later other first.reaches first.full second.reaches second.full in
    (one, sym second.ends ∙ ap (λ (x : Declarations). ends_with too_many (f x)) one ∙ first.ends)
