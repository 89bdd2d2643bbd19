-- Sorts as they are read: what each form writes, or its first error.
use Rattle.std.proofs.Common.{◌≡◌, ℕ, suc, ◌<◌, ◌==◌, Bool, true, false, not, is_some, if◌then◌else◌, List, [], ◌∷◌, ◌++◌, length, map, option_map, Option, Some, None, Vec, Global, Ok, Err, refl, sym, ◌∙◌, ap, ap₂, subst, arith}
use Rattle.std.proofs.lemmas.Bool.Decides.{Decides-eqb}
use Rattle.std.proofs.lemmas.List.{map-append}
use Rattle.std.proofs.lemmas.Option.{none-some, same_Some}
use Rattle.ct_generics.specs.declared.expr.SortExpr.{SortExpr, Param, App}
use Rattle.ct_generics.specs.declared.expr.SortExpr.TheOpen.{SortExpr-F}
use Rattle.ct_generics.specs.declared.expr.SortExpr.TheFolds.{fold-roll-SortExpr}
use Rattle.ct_generics.specs.declared.expr.SortExpr.TheVariants.{rolls-App, rolls-Param}
use Rattle.ct_generics.specs.Declarations.{Declared}
use Rattle.ct_generics.specs.Expression.{Expression, parameter}
use Rattle.ct_generics.specs.Outcome.{Outcome, all_of}
use Rattle.ct_generics.specs.Refusals.{unknown_sort, wrong_count}
use Rattle.ct_generics.specs.Resolved.{Meaning, params_of, instance, meaning, with_meaning, resolved_layer, resolved}
use Rattle.ct_sexpr.specs.declared.sexpr.Sexpr.{Sexpr}
use Rattle.ct_sexpr.specs.Atom.{Atom}
use Rattle.ct_sexpr.specs.Expression.{Expression as Written, Expressions as AllWritten, leaf, list, none, more}
use Rattle.ct_sexpr.specs.Readable.{name_of_atom}
use Rattle.ct_sexpr.specs.View.{expression_of, expressions_of}
use Rattle.ct_names.specs.Refusals.{out_of_scope}
use Rattle.ct_names.specs.Outcome.{and_then, unless_refused}
use Rattle.ct_names.specs.Sorts.{parameter_at, lone_name_sort, lone_sort, headed_sort, name_in, written_sort, written_sorts, Writes, a_parameter, a_name, an_instance, AllWrite, all_written, and_written, HasNoSortForm, IsReadAs, AreReadAs, IsNotRead, AreNotRead, IsKnown, IsNotKnown}

-- ---- values of all

all_parts : {X : Type 0} (o : Outcome X) (os : List (Outcome X)) (ys : List X) → all_of (o ∷ os) ≡ Ok ys → (x : X) × (xs : List X) × (o ≡ Ok x) × (all_of os ≡ Ok xs) × (ys ≡ x ∷ xs)
all_parts (Err n) os ys e = absurd cc
all_parts {X} (Ok x) os ys e = by (all_of os) refl e
  where
    by : (r : Outcome (List X)) → all_of os ≡ r → and_then r (λ xs. Ok (x ∷ xs)) ≡ Ok ys → (z : X) × (xs : List X) × ((let o : Outcome X = Ok x in o) ≡ Ok z) × (all_of os ≡ Ok xs) × (ys ≡ z ∷ xs)
    by (Err n) at f = absurd cc
    by (Ok xs) at f = let same : x ∷ xs ≡ ys = cc in (x, xs, refl, at, sym same)

-- the first and the others
abbrev both_of : {X : Type 0} → Outcome X → Outcome (List X) → Outcome (List X)
both_of r rs = and_then r (λ z. and_then rs (λ zs. Ok (z ∷ zs)))

all-push : {X : Type 0} (os : List (Outcome X)) (o : Outcome X) (ys : List X) (y : X) → all_of os ≡ Ok ys → o ≡ Ok y → all_of (os ++ o ∷ []) ≡ Ok (ys ++ y ∷ [])
all-push {X} [] o ys y e at =
    let none_is : [] ≡ ys = cc in
    ap (λ (r : Outcome X). both_of r (Ok [])) at ∙ ap (λ (zs : List X). Ok (zs ++ y ∷ [])) none_is
all-push {X} (p ∷ os) o ys y e at =
    let parts = all_parts p os ys e in
    ap₂ (λ (r : Outcome X) (rs : Outcome (List X)). both_of r rs) parts.2 (all-push os o parts.1 y parts.3 at) ∙ ap (λ (zs : List X). Ok (zs ++ y ∷ [])) (sym parts.4)

all-stop : {X : Type 0} (os : List (Outcome X)) (o : Outcome X) (rest : List (Outcome X)) (ys : List X) (n : ℕ) → all_of os ≡ Ok ys → o ≡ Err n → all_of (os ++ o ∷ rest) ≡ Err n
all-stop {X} [] o rest ys n e at = ap (λ (r : Outcome X). both_of r (all_of rest)) at
all-stop {X} (p ∷ os) o rest ys n e at =
    let parts = all_parts p os ys e in
    ap₂ (λ (r : Outcome X) (rs : Outcome (List X)). both_of r rs) parts.2 (all-stop os o rest parts.1 n parts.3 at)

all-length : {X : Type 0} (os : List (Outcome X)) (ys : List X) → all_of os ≡ Ok ys → length ys ≡ length os
all-length [] ys e = let none_is : [] ≡ ys = cc in ap length (sym none_is)
all-length (o ∷ os) ys e = let parts = all_parts o os ys e in ap length parts.4 ∙ ap suc (all-length os parts.1 parts.3)

-- ---- a name with a meaning

known_with : (m : Meaning) (args : List (Outcome Expression)) → length args ≡ params_of m → with_meaning (Some m) args ≡ and_then (all_of args) (λ es. Ok (instance m es))
known_with m args same = by (length args == params_of m) ((Decides-eqb (length args) (params_of m)).1 same)
  where
    by : (b : Bool) → b ≡ true → (if b then and_then (all_of args) (λ es. Ok (instance m es)) else Err wrong_count) ≡ and_then (all_of args) (λ es. Ok (instance m es))
    by true e = refl
    by false e = absurd cc

pub resolved_parameter : (d : Declared) (i : ℕ) → resolved d (Param i) ≡ Ok (parameter i)
resolved_parameter d i = ap (resolved d) (sym (rolls-Param i)) ∙ fold-roll-SortExpr (Outcome Expression) (resolved_layer d) (SortExpr-F.Param i)

pub resolved_app : (d : Declared) (name : List ℕ) (args : Vec SortExpr Global) → resolved d (App name args) ≡ with_meaning (meaning d name) (map (resolved d) args.items)
resolved_app d name args = ap (resolved d) (sym (rolls-App name args)) ∙ fold-roll-SortExpr (Outcome Expression) (resolved_layer d) (SortExpr-F.App name args)

-- ---- a name that is looked up

miscounted : (m : Meaning) (args : List (Outcome Expression)) → (length args ≡ params_of m → ⊥) → with_meaning (Some m) args ≡ Err wrong_count
miscounted m args other = by (length args == params_of m) ((Decides-eqb (length args) (params_of m)).0)
  where
    by : (b : Bool) → (b ≡ true → length args ≡ params_of m) → (if b then and_then (all_of args) (λ es. Ok (instance m es)) else Err wrong_count) ≡ Err wrong_count
    by true tells = absurd (other (tells refl))
    by false tells = refl

pub named_known : (d : Declared) (name : List ℕ) (args p : ℕ) → Some p ≡ option_map params_of (meaning d name) → p ≡ args → IsKnown (Some d) name args
named_known d name args p at same = by (meaning d name) refl at
  where
    by : (m : Option Meaning) → meaning d name ≡ m → Some p ≡ option_map params_of m → IsKnown (Some d) name args
    by None is at = absurd (none-some p (sym at))
    by (Some m) is at = (m, is, sym (same_Some p (params_of m) at) ∙ same)

pub named_unknown : (d : Declared) (name : List ℕ) (args : ℕ) → None ≡ option_map params_of (meaning d name) → IsNotKnown (Some d) name args unknown_sort
named_unknown d name args at = by (meaning d name) refl at
  where
    by : (m : Option Meaning) → meaning d name ≡ m → None ≡ option_map params_of m → IsNotKnown (Some d) name args unknown_sort
    by None is at = λ xs long. ap (λ (m : Option Meaning). with_meaning m xs) is
    by (Some m) is at = absurd (none-some (params_of m) at)

pub named_otherwise : (d : Declared) (name : List ℕ) (args p : ℕ) → Some p ≡ option_map params_of (meaning d name) → (p ≡ args → ⊥) → IsNotKnown (Some d) name args wrong_count
named_otherwise d name args p at other = by (meaning d name) refl at
  where
    by : (m : Option Meaning) → meaning d name ≡ m → Some p ≡ option_map params_of m → IsNotKnown (Some d) name args wrong_count
    by None is at = absurd (none-some p (sym at))
    by (Some m) is at = λ xs long. ap (λ (m : Option Meaning). with_meaning m xs) is ∙ miscounted m xs (λ same. other (same_Some p (params_of m) at ∙ sym same ∙ long))

-- ---- a name that stands alone

pub parameter_read : (o : Option Declared) (params : List (List ℕ)) (a : Atom) (name : List ℕ) (i : ℕ) → name_of_atom a ≡ Some name → parameter_at params name ≡ Some i → IsReadAs o params (leaf a) (Param i)
parameter_read None params a name i is at = a_parameter (leaf a) name i is at
parameter_read (Some d) params a name i is at = (parameter i, ap (lone_sort d params) is ∙ ap (lone_name_sort d name) at, resolved_parameter d i)

pub name_read : (o : Option Declared) (params : List (List ℕ)) (a : Atom) (name : List ℕ) (args : Vec SortExpr Global) → name_of_atom a ≡ Some name → parameter_at params name ≡ None → IsKnown o name 0 → args.items ≡ [] → IsReadAs o params (leaf a) (App name args)
name_read None params a name args is at known empty = a_name (leaf a) name (App name args) is at (args, refl, empty)
name_read (Some d) params a name args is at known empty = (
  instance known.0 [],
  ap (lone_sort d params) is ∙ ap (lone_name_sort d name) at ∙ ap (λ (m : Option Meaning). with_meaning m []) known.1 ∙ known_with known.0 [] (sym known.2),
  resolved_app d name args ∙ ap₂ (λ (m : Option Meaning) (xs : List SortExpr). with_meaning m (map (resolved d) xs)) known.1 empty ∙ known_with known.0 [] (sym known.2),
)

pub nameless : (o : Option Declared) (params : List (List ℕ)) (a : Atom) → name_of_atom a ≡ None → IsNotRead o params (leaf a) out_of_scope
nameless None params a is = (refl, λ w writes. by w writes)
  where
    by : (w : SortExpr) → Writes params (leaf a) w → ⊥
    by _ (a_parameter _ name i named at) = none-some name (sym is ∙ named)
    by w (a_name _ name _ named at app) = none-some name (sym is ∙ named)
nameless (Some d) params a is = ap (lone_sort d params) is

pub unknown_name : (o : Option Declared) (params : List (List ℕ)) (a : Atom) (name : List ℕ) (n : ℕ) → name_of_atom a ≡ Some name → parameter_at params name ≡ None → IsNotKnown o name 0 n → IsNotRead o params (leaf a) n
unknown_name None params a name n is at unknown = absurd unknown
unknown_name (Some d) params a name n is at unknown = ap (lone_sort d params) is ∙ ap (lone_name_sort d name) at ∙ unknown [] refl

-- ---- a name with sorts

written-length : (d : Declared) (params : List (List ℕ)) (xs : List Sexpr) → length (written_sorts d params (expressions_of xs)) ≡ length xs
written-length d params [] = refl
written-length d params (x ∷ xs) = ap suc (written-length d params xs)

pub headed_is : (d : Declared) (params : List (List ℕ)) (name : List ℕ) (args : List (Outcome Expression)) → 0 < length args → parameter_at params name ≡ None → headed_sort d params (Some name) args ≡ with_meaning (meaning d name) args
headed_is d params name [] some at = absurd (omega (arith, some))
headed_is d params name (x ∷ args) some at = ap (λ (o : Option ℕ). unless_refused (not (is_some o)) out_of_scope (with_meaning (meaning d name) (x ∷ args))) at

all_form : (params : List (List ℕ)) (head : Written) (args : AllWritten) (name : List ℕ) (ws : List SortExpr) (items : Vec SortExpr Global) → name_in head ≡ Some name → parameter_at params name ≡ None → AllWrite params args ws → items.items ≡ ws → 0 < length ws → Writes params (list (more head args)) (App name items)
all_form params head args name [] items is at all same some = absurd (omega (arith, some))
all_form params head args name (w ∷ ws) items is at all same some = an_instance head args name (App name items) w ws is at all (items, refl, same)

all_write-length : (params : List (List ℕ)) (xs : List Sexpr) (ws : List SortExpr) → AllWrite params (expressions_of xs) ws → length ws ≡ length xs
all_write-length params [] _ all_written = refl
all_write-length params (x ∷ xs) _ (and_written _ _ w ws first rest) = ap suc (all_write-length params xs ws rest)

pub applied_read : (o : Option Declared) (params : List (List ℕ)) (head : Written) (xs : List Sexpr) (name : List ℕ) (items : Vec SortExpr Global) → name_in head ≡ Some name → 0 < length xs → parameter_at params name ≡ None → IsKnown o name (length xs) → AreReadAs o params (expressions_of xs) items.items → IsReadAs o params (list (more head (expressions_of xs))) (App name items)
applied_read None params head xs name items is some at known all = all_form params head (expressions_of xs) name items.items items is at all refl (omega (arith, some, all_write-length params xs items.items all))
applied_read (Some d) params head xs name items is some at known all =
    let long = written-length d params xs in
    let count : length (written_sorts d params (expressions_of xs)) ≡ params_of known.0 = long ∙ sym known.2 in
    let given : length (map (resolved d) items.items) ≡ params_of known.0 = sym (all-length (map (resolved d) items.items) all.0 all.2) ∙ all-length (written_sorts d params (expressions_of xs)) all.0 all.1 ∙ count in (
      instance known.0 all.0,
      ap (λ (o : Option (List ℕ)). headed_sort d params o (written_sorts d params (expressions_of xs))) is
          ∙ headed_is d params name (written_sorts d params (expressions_of xs)) (omega (arith, some, long)) at
          ∙ ap (λ (m : Option Meaning). with_meaning m (written_sorts d params (expressions_of xs))) known.1
          ∙ known_with known.0 (written_sorts d params (expressions_of xs)) count
          ∙ ap (λ (r : Outcome (List Expression)). and_then r (λ es. Ok (instance known.0 es))) all.1,
      resolved_app d name items
          ∙ ap (λ (m : Option Meaning). with_meaning m (map (resolved d) items.items)) known.1
          ∙ known_with known.0 (map (resolved d) items.items) given
          ∙ ap (λ (r : Outcome (List Expression)). and_then r (λ es. Ok (instance known.0 es))) all.2,
    )

-- a list without items
pub empty_unread : (o : Option Declared) (params : List (List ℕ)) → IsNotRead o params (list none) out_of_scope
empty_unread None params = (refl, λ w writes. by w writes)
  where
    by : (w : SortExpr) → Writes params (list none) w → ⊥
    by _ (a_parameter _ name i named at) = none-some name named
    by w (a_name _ name _ named at app) = none-some name named
empty_unread (Some d) params = refl

-- no name that takes sorts at the head
pub headless_unread : (o : Option Declared) (params : List (List ℕ)) (head : Written) (xs : List Sexpr) → ((name : List ℕ) → name_in head ≡ Some name → 0 < length xs → parameter_at params name ≡ None → ⊥) → IsNotRead o params (list (more head (expressions_of xs))) out_of_scope
headless_unread None params head xs never = (refl, λ w writes. by w writes)
  where
    some_items : (args : AllWritten) (arg : SortExpr) (rest : List SortExpr) → AllWrite params args (arg ∷ rest) → (ys : List Sexpr) → args ≡ expressions_of ys → 0 < length ys
    some_items args arg rest all [] same = absurd (let stood : AllWrite params none (arg ∷ rest) = subst (λ (ys : AllWritten). AllWrite params ys (arg ∷ rest)) same all in none_written arg rest stood)
      where
        none_written : (arg : SortExpr) (rest : List SortExpr) → AllWrite params none (arg ∷ rest) → ⊥
        none_written arg rest all = absurd (omega (arith, all_write-length params [] (arg ∷ rest) all))
    some_items args arg rest all (y ∷ ys) same = omega arith

    by : (w : SortExpr) → Writes params (list (more head (expressions_of xs))) w → ⊥
    by _ (a_parameter _ name i named at) = none-some name named
    by w (a_name _ name _ named at app) = none-some name named
    by w (an_instance _ args name _ arg rest is at all app) = never name is (some_items args arg rest all xs refl) at
headless_unread (Some d) params head xs never = by (name_in head) refl (written_sorts d params (expressions_of xs)) (written-length d params xs)
  where
    by_place : (name : List ℕ) (p : Option ℕ) → parameter_at params name ≡ p → name_in head ≡ Some name → (x : Outcome Expression) (args : List (Outcome Expression)) → length (x ∷ args) ≡ length xs → unless_refused (not (is_some p)) out_of_scope (with_meaning (meaning d name) (x ∷ args)) ≡ Err out_of_scope
    by_place name (Some i) at is x args long = refl
    by_place name None at is x args long = absurd (never name is (omega (arith, long)) at)

    by : (o : Option (List ℕ)) → name_in head ≡ o → (args : List (Outcome Expression)) → length args ≡ length xs → headed_sort d params o args ≡ Err out_of_scope
    by None is args long = refl
    by (Some name) is [] long = refl
    by (Some name) is (x ∷ args) long = by_place name (parameter_at params name) refl is x args long

-- a name that does not take so many
pub unknown_unread : (o : Option Declared) (params : List (List ℕ)) (head : Written) (xs : List Sexpr) (name : List ℕ) (n : ℕ) → name_in head ≡ Some name → 0 < length xs → parameter_at params name ≡ None → IsNotKnown o name (length xs) n → IsNotRead o params (list (more head (expressions_of xs))) n
unknown_unread None params head xs name n is some at unknown = absurd unknown
unknown_unread (Some d) params head xs name n is some at unknown =
    let long = written-length d params xs in
    ap (λ (o : Option (List ℕ)). headed_sort d params o (written_sorts d params (expressions_of xs))) is
    ∙ headed_is d params name (written_sorts d params (expressions_of xs)) (omega (arith, some, long)) at
    ∙ unknown (written_sorts d params (expressions_of xs)) long

-- sorts that are refused
pub args_unread : (o : Option Declared) (params : List (List ℕ)) (head : Written) (xs : List Sexpr) (name : List ℕ) (n : ℕ) → name_in head ≡ Some name → 0 < length xs → parameter_at params name ≡ None → IsKnown o name (length xs) → AreNotRead o params (expressions_of xs) n → IsNotRead o params (list (more head (expressions_of xs))) n
args_unread None params head xs name n is some at known never = (never.0, λ w writes. by w writes)
  where
    by : (w : SortExpr) → Writes params (list (more head (expressions_of xs))) w → ⊥
    by _ (a_parameter _ other i named place) = none-some other named
    by w (a_name _ other _ named place app) = none-some other named
    by w (an_instance _ args other _ arg rest named place all app) = never.1 (arg ∷ rest) all
args_unread (Some d) params head xs name n is some at known never =
    let long = written-length d params xs in
    ap (λ (o : Option (List ℕ)). headed_sort d params o (written_sorts d params (expressions_of xs))) is
    ∙ headed_is d params name (written_sorts d params (expressions_of xs)) (omega (arith, some, long)) at
    ∙ ap (λ (m : Option Meaning). with_meaning m (written_sorts d params (expressions_of xs))) known.1
    ∙ known_with known.0 (written_sorts d params (expressions_of xs)) (long ∙ sym known.2)
    ∙ ap (λ (r : Outcome (List Expression)). and_then r (λ es. Ok (instance known.0 es))) never

-- ---- sorts one after the other

written-push : (d : Declared) (params : List (List ℕ)) (xs : List Sexpr) (x : Sexpr) (rest : List Sexpr) → written_sorts d params (expressions_of (xs ++ x ∷ rest)) ≡ written_sorts d params (expressions_of xs) ++ written_sort d params (expression_of x) ∷ written_sorts d params (expressions_of rest)
written-push d params [] x rest = refl
written-push d params (y ∷ xs) x rest = ap (λ (os : List (Outcome Expression)). written_sort d params (expression_of y) ∷ os) (written-push d params xs x rest)

form-push : (params : List (List ℕ)) (xs : List Sexpr) (x : Sexpr) (ws : List SortExpr) (w : SortExpr) → AllWrite params (expressions_of xs) ws → Writes params (expression_of x) w → AllWrite params (expressions_of (xs ++ x ∷ [])) (ws ++ w ∷ [])
form-push params [] x _ w all_written last = and_written (expression_of x) none w [] last all_written
form-push params (y ∷ xs) x _ w (and_written _ _ v ws first rest) last = and_written (expression_of y) (expressions_of (xs ++ x ∷ [])) v (ws ++ w ∷ []) first (form-push params xs x ws w rest last)

form-stop : (params : List (List ℕ)) (xs : List Sexpr) (x : Sexpr) (rest : List Sexpr) → HasNoSortForm params (expression_of x) → (ws : List SortExpr) → AllWrite params (expressions_of (xs ++ x ∷ rest)) ws → ⊥
form-stop params [] x rest never _ (and_written _ _ w ws first others) = never w first
form-stop params (y ∷ xs) x rest never _ (and_written _ _ w ws first others) = form-stop params xs x rest never ws others

pub read-none : (o : Option Declared) (params : List (List ℕ)) → AreReadAs o params none []
read-none None params = all_written
read-none (Some d) params = ([], refl, refl)

pub read-push : (o : Option Declared) (params : List (List ℕ)) (xs : List Sexpr) (x : Sexpr) (ws : List SortExpr) (w : SortExpr) → AreReadAs o params (expressions_of xs) ws → IsReadAs o params (expression_of x) w → AreReadAs o params (expressions_of (xs ++ x ∷ [])) (ws ++ w ∷ [])
read-push None params xs x ws w all last = form-push params xs x ws w all last
read-push (Some d) params xs x ws w all last = (
  all.0 ++ last.0 ∷ [],
  ap (λ (os : List (Outcome Expression)). all_of os) (written-push d params xs x []) ∙ all-push (written_sorts d params (expressions_of xs)) (written_sort d params (expression_of x)) all.0 last.0 all.1 last.1,
  ap (λ (os : List (Outcome Expression)). all_of os) (map-append (resolved d) ws (w ∷ [])) ∙ all-push (map (resolved d) ws) (resolved d w) all.0 last.0 all.2 last.2,
)

pub read-stop : (o : Option Declared) (params : List (List ℕ)) (xs : List Sexpr) (x : Sexpr) (rest : List Sexpr) (ws : List SortExpr) (n : ℕ) → AreReadAs o params (expressions_of xs) ws → IsNotRead o params (expression_of x) n → AreNotRead o params (expressions_of (xs ++ x ∷ rest)) n
read-stop None params xs x rest ws n all never = (never.0, λ vs. form-stop params xs x rest never.1 vs)
read-stop (Some d) params xs x rest ws n all never = ap (λ (os : List (Outcome Expression)). all_of os) (written-push d params xs x rest) ∙ all-stop (written_sorts d params (expressions_of xs)) (written_sort d params (expression_of x)) (written_sorts d params (expressions_of rest)) all.0 n all.1 never
