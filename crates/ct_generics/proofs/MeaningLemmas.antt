-- What written expressions stand for are expressions over their parameters.
use Rattle.std.proofs.Common.{◌≡◌, ◌==◌, ℕ, zero, suc, ◌<◌, Bool, true, false, if◌then◌else◌, List, [], ◌∷◌, length, map, Option, Some, None, option_map, slice_get, position, Ok, Err, refl, sym, ap, subst, ◌∙◌, arith}
use Rattle.std.specs.List.{list_all}
use Rattle.std.specs.Option.{option_and_then, option_or}
use Rattle.std.specs.Str.{bytes_eq}
use Rattle.std.proofs.lemmas.List.{length-map}
use Rattle.std.proofs.lemmas.Bool.{and_parts}
use Rattle.std.proofs.lemmas.Bool.Decides.{Decides-eqb, Decides-ltb}
use Rattle.std.proofs.lemmas.Option.{none-some, same_Some}
use Rattle.ct_generics.specs.declared.expr.SortExpr.{SortExpr}
use Rattle.ct_generics.specs.declared.expr.SortExpr.TheOpen.{SortExpr-F}
use Rattle.ct_generics.specs.declared.expr.SortExpr.TheViews.{roll-SortExpr}
use Rattle.ct_generics.specs.declared.expr.SortExpr.TheFolds.{fold-SortExpr, fold-roll-SortExpr, ind-SortExpr, map-SortExpr}
use Rattle.ct_generics.specs.Expression.{Expression, parameter, named}
use Rattle.ct_generics.specs.Declarations.{Declared, Head, Synonym, IsExpression}
use Rattle.ct_generics.specs.Outcome.{Outcome, and_then, all_of}
use Rattle.ct_generics.specs.Resolved.{Meaning, a_head, a_synonym, params_of, head_number, named_head, named_synonym, meaning, instance, with_meaning, resolved, resolved_layer}
use Rattle.ct_generics.specs.WellFormed.{AreExpressions, AreParametersBelow, IsWellFormed, has_below}
use Rattle.ct_generics.proofs.OutcomeLemmas.{and_then-ok, same_Ok}
use Rattle.ct_generics.proofs.WellFormedLemmas.{params_at, with_args-takes, substitute-takes}

-- ---- what a name stands for

-- a sort or generic with so many parameters, or a synonym that is declared
abbrev IsKnown : Declared → Meaning → Type 0
IsKnown d (a_head h params) = params_at d.heads h ≡ Some params
IsKnown d (a_synonym s) = (i : ℕ) × (slice_get d.synonyms i ≡ Some s)

known-head : (d : Declared) (number : Option ℕ) (m : Meaning) → option_and_then (λ h. option_map (λ (head : Head). a_head h head.params) (slice_get d.heads h)) number ≡ Some m → IsKnown d m
known-head d None m is = absurd (none-some m is)
known-head d (Some h) m is = by (slice_get d.heads h) refl is
  where
    by : (o : Option Head) → slice_get d.heads h ≡ o → option_map (λ (head : Head). a_head h head.params) o ≡ Some m → IsKnown d m
    by None at e = absurd (none-some m e)
    by (Some head) at e = subst (IsKnown d) (same_Some (a_head h head.params) m e) (ap (option_map (λ (head : Head). head.params)) at)

known-synonym : (d : Declared) (place : Option ℕ) (m : Meaning) → option_map a_synonym (option_and_then (slice_get d.synonyms) place) ≡ Some m → IsKnown d m
known-synonym d None m is = absurd (none-some m is)
known-synonym d (Some i) m is = by (slice_get d.synonyms i) refl is
  where
    by : (o : Option Synonym) → slice_get d.synonyms i ≡ o → option_map a_synonym o ≡ Some m → IsKnown d m
    by None at e = absurd (none-some m e)
    by (Some s) at e = subst (IsKnown d) (same_Some (a_synonym s) m e) (i, at)

known-either : (d : Declared) (first second : Option Meaning) (m : Meaning) → (first ≡ Some m → IsKnown d m) → (second ≡ Some m → IsKnown d m) → option_or first second ≡ Some m → IsKnown d m
known-either d None second m left right is = right is
known-either d (Some n) second m left right is = left is

meaning-known : (d : Declared) (name : List ℕ) (m : Meaning) → meaning d name ≡ Some m → IsKnown d m
meaning-known d name m is =
    known-either d (named_head d.heads name) (named_synonym d.synonyms name) m (known-head d (head_number d.heads name) m) (known-synonym d (position (λ (s : Synonym). bytes_eq name s.name) d.synonyms) m) is

-- with as many arguments as it takes
instance-takes : (d : Declared) (params : ℕ) (m : Meaning) (args : List Expression) → IsWellFormed d → IsKnown d m → length args ≡ params_of m → AreExpressions d.heads params args → IsExpression d.heads params (instance m args)
instance-takes d params (a_head h count) args formed known long are = with_args-takes d.heads params (named h) args (known ∙ ap Some (sym long)) are
instance-takes d params (a_synonym s) args formed known long are = substitute-takes d.heads params 0 s.params args s.body (omega (arith, long)) are (formed.synonyms known.0 s known.1)

-- ---- a name with arguments

with_meaning-ok : (o : Option Meaning) (args : List (Outcome Expression)) (e : Expression) → with_meaning o args ≡ Ok e → (m : Meaning) × (es : List Expression) × (o ≡ Some m) × (length args ≡ params_of m) × (all_of args ≡ Ok es) × (e ≡ instance m es)
with_meaning-ok None args e is = absurd cc
with_meaning-ok (Some m) args e is = by (length args == params_of m) (Decides-eqb (length args) (params_of m)).0 is
  where
    by : (b : Bool) → (b ≡ true → length args ≡ params_of m) → (if b then and_then (all_of args) (λ es. Ok (instance m es)) else Err 22) ≡ Ok e → (n : Meaning) × (es : List Expression) × (Some m ≡ Some n) × (length args ≡ params_of n) × (all_of args ≡ Ok es) × (e ≡ instance n es)
    by true count out = let parts = and_then-ok (all_of args) (λ es. Ok (instance m es)) e out in (m, parts.0, refl, count refl, parts.1, sym (same_Ok (instance m parts.0) e (Ok (instance m parts.0)) refl parts.2))
    by false count out = absurd cc

module _ (d : Declared) (formed : IsWellFormed d) (params : ℕ) where
  -- what the written expression stands for is an expression over so many parameters
  abbrev StandsForExpression : SortExpr → Type 0
  StandsForExpression expr = AreParametersBelow params expr → (e : Expression) → resolved d expr ≡ Ok e → IsExpression d.heads params e

  all-expressions : (args : List ((expr : SortExpr) × StandsForExpression expr)) → list_all (λ below. below) (map (fold-SortExpr Bool (has_below params)) (map (λ a. a.0) args)) ≡ true → (es : List Expression) → all_of (map (resolved d) (map (λ a. a.0) args)) ≡ Ok es → AreExpressions d.heads params es × (length es ≡ length args)
  all-expressions [] below es are = subst (λ (xs : List Expression). AreExpressions d.heads params xs × (length xs ≡ 0)) (same_Ok [] es (Ok []) refl are) ((λ k e at. absurd (none-some e at)), refl)
  all-expressions (a ∷ args) below es are =
      let first = and_then-ok (resolved d a.0) _ es are in
      let rest = and_then-ok (all_of (map (resolved d) (map (λ b. b.0) args))) _ es first.2 in
      let parts = and_parts (fold-SortExpr Bool (has_below params) a.0) (list_all (λ b. b) (map (fold-SortExpr Bool (has_below params)) (map (λ b. b.0) args))) below in
      let later = all-expressions args parts.1 rest.0 rest.1 in
      subst (λ (xs : List Expression). AreExpressions d.heads params xs × (length xs ≡ suc (length args))) (same_Ok (first.0 ∷ rest.0) es (Ok (first.0 ∷ rest.0)) refl rest.2) (both first.0 rest.0 (a.1 parts.0 first.0 first.1) later.0, ap suc later.1)
    where
      both : (x : Expression) (xs : List Expression) → IsExpression d.heads params x → AreExpressions d.heads params xs → AreExpressions d.heads params (x ∷ xs)
      both x xs is others zero e at = subst (IsExpression d.heads params) (same_Some x e at) is
      both x xs is others (suc k) e at = others k e at

  param-expression : (i : ℕ) → StandsForExpression (roll-SortExpr (SortExpr-F.Param i))
  param-expression i below e is =
      let less : i < params = (Decides-ltb i params).0 (sym (fold-roll-SortExpr Bool (has_below params) (SortExpr-F.Param i)) ∙ below) in
      subst (IsExpression d.heads params) (same_Ok (parameter i) e (Ok (parameter i)) refl (sym (fold-roll-SortExpr (Outcome Expression) (resolved_layer d) (SortExpr-F.Param i)) ∙ is)) (refl, less)

  app-expression : (name : List ℕ) (args : List ((expr : SortExpr) × StandsForExpression expr)) → list_all (λ below. below) (map (fold-SortExpr Bool (has_below params)) (map (λ a. a.0) args)) ≡ true → (e : Expression) → with_meaning (meaning d name) (map (resolved d) (map (λ a. a.0) args)) ≡ Ok e → IsExpression d.heads params e
  app-expression name args below e known =
      let found = with_meaning-ok (meaning d name) (map (resolved d) (map (λ a. a.0) args)) e known in
      let all = all-expressions args below found.1 found.4 in
      let count : length found.1 ≡ params_of found.0 = all.1 ∙ sym (length-map (map (λ a. a.0) args) (resolved d) ∙ length-map args (λ a. a.0)) ∙ found.3 in
      subst (IsExpression d.heads params) (sym found.5) (instance-takes d params found.0 found.1 formed (meaning-known d name found.0 found.2) count all.0)

  one-layer : (y : SortExpr-F ((expr : SortExpr) × StandsForExpression expr)) → StandsForExpression (roll-SortExpr (map-SortExpr ((expr : SortExpr) × StandsForExpression expr) SortExpr (λ e. e.0) y))
  one-layer (SortExpr-F.Param i) = param-expression i
  one-layer (SortExpr-F.App name args) = λ below e known.
      app-expression name args.items (sym (fold-roll-SortExpr Bool (has_below params) (map-SortExpr ((expr : SortExpr) × StandsForExpression expr) SortExpr (λ a. a.0) (SortExpr-F.App name args))) ∙ below) e (sym (fold-roll-SortExpr (Outcome Expression) (resolved_layer d) (map-SortExpr ((expr : SortExpr) × StandsForExpression expr) SortExpr (λ a. a.0) (SortExpr-F.App name args))) ∙ known)

  pub resolved-takes : (expr : SortExpr) → StandsForExpression expr
  resolved-takes = ind-SortExpr StandsForExpression (λ x y is. subst (λ z. StandsForExpression (roll-SortExpr z)) is (one-layer y))
