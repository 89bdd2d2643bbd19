-- Expressions over their parameters: arguments, substitution, more declarations, and what written expressions stand for.
use Rattle.std.proofs.Common.{◌≡◌, ℕ, suc, ◌+◌, ◌≤◌, List, [], ◌∷◌, ◌++◌, length, length-append, map, Option, Some, None, option_map, unwrap_or, slice_get, refl, sym, ap, subst, ◌∙◌, inl, inr, arith}
use Rattle.std.specs.List.{flat_map}
use Rattle.std.specs.Option.{option_and_then}
use Rattle.std.proofs.lemmas.Option.{none-some, same_Some}
use Rattle.ct_lemmas.proofs.Lists.{slice_get-there, slice_get-append_left, slice_get-push_cases, slice_get-map_source, slice_get-append_cases}
use Rattle.ct_generics.specs.declared.kind.Kind.{Kind}
use Rattle.ct_generics.specs.declared.kind.Kind.TheVariants.{Bool as BoolKind, Free, Data, Codata}
use Rattle.ct_generics.specs.Expression.{Expression, parameter, named, applied, head_of, args_of, with_args, substitute}
use Rattle.ct_generics.specs.Declarations.{Head, Takes, IsExpression, head_at}
use Rattle.ct_generics.specs.Reach.{fields_of, fields_with, fields_by_kind}
use Rattle.ct_generics.specs.Text.{text_length, name_length, parentheses}
use Rattle.ct_generics.specs.Add.{Adds, none, there, given, made, field_sorts}
use Rattle.ct_generics.specs.WellFormed.{AreExpressions, HasExpressions, HaveExpressions}

-- the number of parameters of the sort or generic of this number
abbrev pub params_at : List Head → ℕ → Option ℕ
params_at heads h = option_map (λ head. head.params) (slice_get heads h)

-- ---- more declarations

-- what takes so many arguments here takes so many there, where names have the same numbers of parameters
pub Takes-into : (heads others : List Head) → ((h m : ℕ) → params_at heads h ≡ Some m → params_at others h ≡ Some m) → (params more : ℕ) (e : Expression) → Takes heads params more e → Takes others params more e
Takes-into heads others into params more (parameter i) takes = takes
Takes-into heads others into params more (named h) takes = into h more takes
Takes-into heads others into params more (applied e a) takes = (Takes-into heads others into params (suc more) e takes.0, Takes-into heads others into params 0 a takes.1)

-- where a number of parameters is known there is a sort or generic
pub params-there : (heads : List Head) (h m : ℕ) → params_at heads h ≡ Some m → (head : Head) × (slice_get heads h ≡ Some head) × (head.params ≡ m)
params-there heads h m is = by (slice_get heads h) refl is
  where
    by : (o : Option Head) → slice_get heads h ≡ o → option_map (λ head. head.params) o ≡ Some m → (head : Head) × (slice_get heads h ≡ Some head) × (head.params ≡ m)
    by None at e = absurd (none-some m e)
    by (Some head) at e = (head, at, same_Some head.params m e)

params-more : (heads more : List Head) (h m : ℕ) → params_at heads h ≡ Some m → params_at (heads ++ more) h ≡ Some m
params-more heads more h m is =
    let found = params-there heads h m is in
    ap (option_map (λ (head : Head). head.params)) (slice_get-append_left heads more h found.0 found.1) ∙ ap Some found.2

pub Takes-more : (heads more : List Head) (params count : ℕ) (e : Expression) → Takes heads params count e → Takes (heads ++ more) params count e
Takes-more heads more params count e takes = Takes-into heads (heads ++ more) (params-more heads more) params count e takes

-- ---- arguments

pub with_args-takes : (heads : List Head) (params : ℕ) (e : Expression) (args : List Expression) → Takes heads params (length args) e → AreExpressions heads params args → IsExpression heads params (with_args e args)
with_args-takes heads params e [] takes are = takes
with_args-takes heads params e (a ∷ args) takes are = with_args-takes heads params (applied e a) args (takes, are 0 a refl) (λ k b at. are (suc k) b at)

-- the arguments of an expression
pub args-takes : (heads : List Head) (params count : ℕ) (e : Expression) → Takes heads params count e → AreExpressions heads params (args_of e)
args-takes heads params count (parameter i) takes k a at = absurd (none-some a at)
args-takes heads params count (named h) takes k a at = absurd (none-some a at)
args-takes heads params count (applied e b) takes k a at =
    elim (slice_get-push_cases (args_of e) b a k at) [
      | inl before ↦ args-takes heads params (suc count) e takes.0 k a before
      | inr last ↦ subst (IsExpression heads params) last.1 takes.1
    ]

-- the head of an expression without parameters has as many parameters as there are arguments, and those to come
pub head-takes : (heads : List Head) (count : ℕ) (e : Expression) → Takes heads 0 count e → (h : ℕ) × (head : Head) × (head_of e ≡ Some h) × (slice_get heads h ≡ Some head) × (length (args_of e) + count ≡ head.params)
head-takes heads count (parameter i) takes = absurd (omega (arith, takes.1))
head-takes heads count (named h) takes = let found = params-there heads h count takes in (h, found.0, refl, found.1, omega (arith, found.2))
head-takes heads count (applied e a) takes =
    let found = head-takes heads (suc count) e takes.0 in
    let long = length-append (args_of e) (a ∷ []) in
    (found.0, found.1, found.2, found.3, omega (arith, long, found.4))

-- ---- arguments in place of parameters

pub substitute-takes : (heads : List Head) (params count bound : ℕ) (args : List Expression) (e : Expression) → bound ≤ length args → AreExpressions heads params args → Takes heads bound count e → Takes heads params count (substitute args e)
substitute-takes heads params count bound args (parameter i) many are takes =
    let found = slice_get-there args i (omega (arith, many, takes.1)) in
    let is : found.0 ≡ unwrap_or (slice_get args i) (parameter i) = sym (ap (λ (o : Option Expression). unwrap_or o (parameter i)) found.1) in
    subst (Takes heads params count) is (subst (λ (n : ℕ). Takes heads params n found.0) (sym takes.0) (are i found.0 found.1))
substitute-takes heads params count bound args (named h) many are takes = takes
substitute-takes heads params count bound args (applied e a) many are takes =
    (substitute-takes heads params (suc count) bound args e many are takes.0, substitute-takes heads params 0 bound args a many are takes.1)

-- ---- the sorts of fields

fields-by_kind : (heads : List Head) (params : ℕ) (head : Head) (args : List Expression) → head.params ≤ length args → AreExpressions heads params args → HasExpressions heads head → (i : ℕ) (row : List Expression) → slice_get (map (map (substitute args)) head.ctors) i ≡ Some row → AreExpressions heads params row
fields-by_kind heads params head args many are has i row at =
    let ctor = slice_get-map_source (map (substitute args)) head.ctors i row at in
    subst (AreExpressions heads params) ctor.2 (λ k f at_f.
    let field = slice_get-map_source (substitute args) ctor.0 k f at_f in
    subst (IsExpression heads params) field.2 (substitute-takes heads params 0 head.params args field.0 many are (has i ctor.0 ctor.1 k field.0 field.1)))

-- the sorts of all fields of an expression whose head is known
pub fields-over : (heads : List Head) (params h : ℕ) (head : Head) (e : Expression) → HaveExpressions heads → AreExpressions heads params (args_of e) → head_of e ≡ Some h → slice_get heads h ≡ Some head → length (args_of e) + 0 ≡ head.params → (i : ℕ) (row : List Expression) → slice_get (fields_of heads e) i ≡ Some row → AreExpressions heads params row
fields-over heads params h head e have are top at_head long i row at =
    let is : head_at heads e ≡ Some head = ap (option_and_then (slice_get heads)) top ∙ at_head in
    by head.kind (map (map (substitute (args_of e))) head.ctors) (fields-by_kind heads params head (args_of e) (omega (arith, long)) are (have h head at_head)) (subst (λ (o : Option Head). slice_get (fields_with o (args_of e)) i ≡ Some row) is at)
  where
    by : (kind : Kind) (rows : List (List Expression)) → ((k : ℕ) (r : List Expression) → slice_get rows k ≡ Some r → AreExpressions heads params r) → slice_get (fields_by_kind kind rows) i ≡ Some row → AreExpressions heads params row
    by BoolKind rows all at_row = absurd (none-some row at_row)
    by Free rows all at_row = absurd (none-some row at_row)
    by Data rows all at_row = all i row at_row
    by Codata rows all at_row = all i row at_row

-- and of one without parameters
pub fields-take : (heads : List Head) (e : Expression) → HaveExpressions heads → IsExpression heads 0 e → (i : ℕ) (row : List Expression) → slice_get (fields_of heads e) i ≡ Some row → AreExpressions heads 0 row
fields-take heads e have takes =
    let top = head-takes heads 0 e takes in
    fields-over heads 0 top.0 top.1 e have (args-takes heads 0 0 e takes) top.2 top.3 top.4

flat-takes : (heads : List Head) (params : ℕ) (rows : List (List Expression)) → ((i : ℕ) (row : List Expression) → slice_get rows i ≡ Some row → AreExpressions heads params row) → AreExpressions heads params (flat_map (λ row. row) rows)
flat-takes heads params [] all k e at = absurd (none-some e at)
flat-takes heads params (r ∷ rows) all k e at =
    elim (slice_get-append_cases r (flat_map (λ row. row) rows) k e at) [
      | inl first ↦ all 0 r refl k e first
      | inr later ↦ flat-takes heads params rows (λ i row at_row. all (suc i) row at_row) later.0 e later.2
    ]

field_sorts-take : (heads : List Head) (e : Expression) → HaveExpressions heads → IsExpression heads 0 e → AreExpressions heads 0 (field_sorts heads e)
field_sorts-take heads e have takes = flat-takes heads 0 (fields_of heads e) (fields-take heads e have takes)

-- ---- what is added

AreExpressions-rest : (heads : List Head) (e : Expression) (es : List Expression) → AreExpressions heads 0 (e ∷ es) → AreExpressions heads 0 es
AreExpressions-rest heads e es are k f at = are (suc k) f at

AreExpressions-push : (heads : List Head) (es : List Expression) (e : Expression) → AreExpressions heads 0 es → IsExpression heads 0 e → AreExpressions heads 0 (es ++ e ∷ [])
AreExpressions-push heads es e are is k f at =
    elim (slice_get-push_cases es e f k at) [ inl before ↦ are k f before | inr last ↦ subst (IsExpression heads 0) last.1 is ]

-- what is added to expressions without parameters are such expressions
pub Adds-takes : (heads : List Head) → HaveExpressions heads → (es before after : List Expression) → Adds heads es before after → AreExpressions heads 0 es → AreExpressions heads 0 before → AreExpressions heads 0 after
Adds-takes heads have _ _ _ (none sorts) es_are are = are
Adds-takes heads have _ _ _ (there e rest s t is later) es_are are = Adds-takes heads have rest s t later (AreExpressions-rest heads e rest es_are) are
Adds-takes heads have _ _ _ (given e rest s m t fresh args is later) es_are are =
    Adds-takes heads have rest m t later (AreExpressions-rest heads e rest es_are) (Adds-takes heads have (args_of e) s m args (args-takes heads 0 0 e (es_are 0 e refl)) are)
Adds-takes heads have _ _ _ (made e rest s m n t fresh args absent fields later) es_are are =
    let is = es_are 0 e refl in
    let first = Adds-takes heads have (args_of e) s m args (args-takes heads 0 0 e is) are in
    let second = Adds-takes heads have (field_sorts heads e) (m ++ e ∷ []) n fields (field_sorts-take heads e have is) (AreExpressions-push heads m e first is) in
    Adds-takes heads have rest n t later (AreExpressions-rest heads e rest es_are) second

-- ---- over more declarations all is as it was

pub head_at-more : (heads more : List Head) (params count : ℕ) (e : Expression) → Takes heads params count e → head_at (heads ++ more) e ≡ head_at heads e
head_at-more heads more params count (parameter i) takes = refl
head_at-more heads more params count (named h) takes = let found = params-there heads h count takes in slice_get-append_left heads more h found.0 found.1 ∙ sym found.1
head_at-more heads more params count (applied e a) takes = head_at-more heads more params (suc count) e takes.0

pub fields_of-more : (heads more : List Head) (params : ℕ) (e : Expression) → IsExpression heads params e → fields_of (heads ++ more) e ≡ fields_of heads e
fields_of-more heads more params e takes = ap (λ (o : Option Head). fields_with o (args_of e)) (head_at-more heads more params 0 e takes)

pub text_length-more : (heads more : List Head) (params count : ℕ) (e : Expression) → Takes heads params count e → text_length (heads ++ more) e ≡ text_length heads e
text_length-more heads more params count (parameter i) takes = refl
text_length-more heads more params count (named h) takes =
    let found = params-there heads h count takes in
    ap name_length (slice_get-append_left heads more h found.0 found.1 ∙ sym found.1)
text_length-more heads more params count (applied e a) takes =
    let first = text_length-more heads more params (suc count) e takes.0 in
    let second = text_length-more heads more params 0 a takes.1 in
    ap (λ n. n + parentheses e + 1 + text_length (heads ++ more) a) first ∙ ap (λ n. text_length heads e + parentheses e + 1 + n) second
