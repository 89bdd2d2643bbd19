-- Instances of well-founded sorts and generics are well founded.
use Rattle.std.proofs.Common.{◌≡◌, ◌⊎◌, inl, inr, length-append, ℕ, zero, suc, ◌+◌, ◌<◌, ◌≤◌, List, [], ◌∷◌, ◌++◌, length, map, take, Option, Some, option_map, unwrap_or, slice_get, refl, sym, ap, ap₂, subst, ◌∙◌, arith}
use Rattle.std.specs.Option.{option_and_then}
use Rattle.std.proofs.lemmas.List.{map-append}
use Rattle.std.proofs.lemmas.Option.{none-some, same_Some}
use Rattle.ct_lemmas.proofs.Lists.{slice_get-there, slice_get-push_cases, slice_get-map_at, slice_get-map_source}
use Rattle.ct_lemmas.proofs.Prefixes.{take-past, take-slice_get_next}
use Rattle.ct_generics.specs.declared.kind.Kind.{Kind}
use Rattle.ct_generics.specs.declared.kind.Kind.TheVariants.{Bool as BoolKind, Free, Data, Codata}
use Rattle.ct_generics.specs.Expression.{Expression, parameter, named, applied, head_of, args_of, with_args, substitute, parameters, at_own_parameters}
use Rattle.ct_generics.specs.Declarations.{Head, Takes, IsExpression}
use Rattle.ct_generics.specs.Reach.{fields_of, fields_with, fields_by_kind}
use Rattle.ct_generics.specs.Founded.{IsFounded, other, built}
use Rattle.ct_generics.specs.WellFormed.{AreExpressions, HaveExpressions}
use Rattle.ct_generics.proofs.ResolveLemmas.{with_args-push}
use Rattle.ct_generics.proofs.ShapeLemmas.{parameters-suc, length-parameters}
use Rattle.ct_generics.proofs.WellFormedLemmas.{params-there, args-takes, with_args-takes, head-takes, head_at-more, fields-over, fields_of-more}

-- ---- heads and arguments

-- an expression with a head is this with its arguments
spine : (h : ℕ) (e : Expression) → head_of e ≡ Some h → e ≡ with_args (named h) (args_of e)
spine h (parameter i) top = absurd (none-some h top)
spine h (named k) top = ap named (same_Some k h top)
spine h (applied e a) top = ap (λ (f : Expression). applied f a) (spine h e top) ∙ sym (with_args-push (named h) (args_of e) a)

substitute-with_args : (args : List Expression) (e : Expression) (es : List Expression) → substitute args (with_args e es) ≡ with_args (substitute args e) (map (substitute args) es)
substitute-with_args args e [] = refl
substitute-with_args args e (a ∷ es) = substitute-with_args args (applied e a) es

-- arguments in place of the first parameters are the first arguments
parameters-images : (args : List Expression) (n : ℕ) → n ≤ length args → map (substitute args) (parameters n) ≡ take n args
parameters-images args zero few = refl
parameters-images args (suc n) few =
    let found = slice_get-there args n (omega (arith, few)) in
    let next : substitute args (parameter n) ≡ found.0 = ap (λ (o : Option Expression). unwrap_or o (parameter n)) found.1 in
    let more : suc n ≡ n + 1 = omega arith in
    ap (λ (m : ℕ). map (substitute args) (parameters m)) more
    ∙ ap (map (substitute args)) (parameters-suc n)
    ∙ map-append (substitute args) (parameters n) (parameter n ∷ [])
    ∙ ap₂ (λ (xs ys : List Expression). xs ++ ys) (parameters-images args n (omega (arith, few))) (ap (λ (x : Expression). x ∷ []) next)
    ∙ sym (take-slice_get_next args n found.0 found.1)
    ∙ ap (λ (m : ℕ). take m args) (sym more)

-- a sort or generic at its own parameters, with arguments in place of these
pub own-instance : (h : ℕ) (args : List Expression) → substitute args (at_own_parameters h (length args)) ≡ with_args (named h) args
own-instance h args =
    substitute-with_args args (named h) (parameters (length args))
    ∙ ap (with_args (named h)) (parameters-images args (length args) (omega arith) ∙ take-past (length args) args (omega arith))

head-substitute : (args : List Expression) (h : ℕ) (e : Expression) → head_of e ≡ Some h → head_of (substitute args e) ≡ Some h
head-substitute args h (parameter i) top = absurd (none-some h top)
head-substitute args h (named k) top = top
head-substitute args h (applied e a) top = head-substitute args h e top

args-substitute : (args : List Expression) (h : ℕ) (e : Expression) → head_of e ≡ Some h → args_of (substitute args e) ≡ map (substitute args) (args_of e)
args-substitute args h (parameter i) top = absurd (none-some h top)
args-substitute args h (named k) top = refl
args-substitute args h (applied e a) top =
    ap (λ (es : List Expression). es ++ substitute args a ∷ []) (args-substitute args h e top) ∙ sym (map-append (substitute args) (args_of e) (a ∷ []))

-- arguments in place of parameters twice are once the images of the arguments
substitute-twice : (heads : List Head) (outer inner : List Expression) (count : ℕ) (f : Expression) → Takes heads (length inner) count f → substitute (map (substitute outer) inner) f ≡ substitute outer (substitute inner f)
substitute-twice heads outer inner count (parameter i) takes =
    let found = slice_get-there inner i takes.1 in
    ap (λ (o : Option Expression). unwrap_or o (parameter i)) (slice_get-map_at (substitute outer) inner i found.0 found.1)
    ∙ ap (substitute outer) (sym (ap (λ (o : Option Expression). unwrap_or o (parameter i)) found.1))
substitute-twice heads outer inner count (named h) takes = refl
substitute-twice heads outer inner count (applied e a) takes = ap₂ applied (substitute-twice heads outer inner (suc count) e takes.0) (substitute-twice heads outer inner 0 a takes.1)

-- ---- fields

module _ (heads : List Head) where
  -- the sort or generic at the head of an expression over parameters that is none itself
  head-over : (params count : ℕ) (e : Expression) → Takes heads params count e → ((i : ℕ) × (e ≡ parameter i)) ⊎ ((h : ℕ) × (head : Head) × (head_of e ≡ Some h) × (slice_get heads h ≡ Some head) × (length (args_of e) + count ≡ head.params))
  head-over params count (parameter i) takes = inl (i, refl)
  head-over params count (named h) takes = let found = params-there heads h count takes in inr (h, found.0, refl, found.1, omega (arith, found.2))
  head-over params count (applied e a) takes =
      elim (head-over params (suc count) e takes.0) [
        | inl is ↦ absurd (bare is.0 (subst (Takes heads params (suc count)) is.1 takes.0))
        | inr found ↦ let long = length-append (args_of e) (a ∷ []) in inr (found.0, found.1, found.2, found.3, omega (arith, long, found.4))
      ]
    where
      bare : (i : ℕ) → Takes heads params (suc count) (parameter i) → ⊥
      bare i takes = absurd (omega (arith, takes.0))

  fields-images : (outer inner : List Expression) (rows : List (List Expression)) → ((i : ℕ) (row : List Expression) → slice_get rows i ≡ Some row → AreExpressions heads (length inner) row) → map (map (substitute (map (substitute outer) inner))) rows ≡ map (map (substitute outer)) (map (map (substitute inner)) rows)
  fields-images outer inner [] all = refl
  fields-images outer inner (r ∷ rows) all = ap₂ (λ (x : List Expression) (xs : List (List Expression)). x ∷ xs) (row-images r (all 0 r refl)) (fields-images outer inner rows (λ i row at. all (suc i) row at))
    where
      row-images : (row : List Expression) → AreExpressions heads (length inner) row → map (substitute (map (substitute outer) inner)) row ≡ map (substitute outer) (map (substitute inner) row)
      row-images [] are = refl
      row-images (f ∷ fs) are = ap₂ (λ (x : Expression) (xs : List Expression). x ∷ xs) (substitute-twice heads outer inner 0 f (are 0 f refl)) (row-images fs (λ k g at. are (suc k) g at))

  by_kind-images : (outer : List Expression) (kind : Kind) (rows images : List (List Expression)) → images ≡ map (map (substitute outer)) rows → fields_by_kind kind images ≡ map (map (substitute outer)) (fields_by_kind kind rows)
  by_kind-images outer BoolKind rows images is = refl
  by_kind-images outer Free rows images is = refl
  by_kind-images outer Data rows images is = is
  by_kind-images outer Codata rows images is = is

  -- the fields of an instance are the instances of the fields
  fields-substitute : HaveExpressions heads → (args : List Expression) (params h : ℕ) (head : Head) (e : Expression) → head_of e ≡ Some h → slice_get heads h ≡ Some head → length (args_of e) + 0 ≡ head.params → fields_of heads (substitute args e) ≡ map (map (substitute args)) (fields_of heads e)
  fields-substitute have args params h head e top at long =
      let count : head.params ≡ length (args_of e) = omega (arith, long) in
      ap₂ (λ (o : Option Head) (es : List Expression). fields_with o es) (ap (option_and_then (slice_get heads)) (head-substitute args h e top) ∙ at) (args-substitute args h e top)
      ∙ by_kind-images args head.kind (map (map (substitute (args_of e))) head.ctors) _ (fields-images args (args_of e) head.ctors (subst (λ n. (i : ℕ) (row : List Expression) → slice_get head.ctors i ≡ Some row → AreExpressions heads n row) count (have h head at)))
      ∙ ap (map (map (substitute args))) (sym (ap (λ (o : Option Head). fields_with o (args_of e)) (ap (option_and_then (slice_get heads)) top ∙ at)))

  -- ---- well-founded instances

  argument-founded : (args : List Expression) → ((k : ℕ) (a : Expression) → slice_get args k ≡ Some a → IsFounded heads a) → (i : ℕ) → i < length args → IsFounded heads (substitute args (parameter i))
  argument-founded args founded i less =
      let found = slice_get-there args i less in
      subst (IsFounded heads) (sym (ap (λ (o : Option Expression). unwrap_or o (parameter i)) found.1)) (founded i found.0 found.1)

  -- with well-founded arguments in place of the parameters
  founded-substitute : HaveExpressions heads → (args : List Expression) → ((k : ℕ) (a : Expression) → slice_get args k ≡ Some a → IsFounded heads a) → (e : Expression) → IsExpression heads (length args) e → IsFounded heads e → IsFounded heads (substitute args e)
  founded-substitute have args founded _ takes (other e not_data) =
      elim (head-over (length args) 0 e takes) [
        | inl is ↦ subst (λ (x : Expression). IsFounded heads (substitute args x)) (sym is.1) (argument-founded args founded is.0 (subst (Takes heads (length args) 0) is.1 takes).1)
        | inr found ↦ other (substitute args e) (λ kind. not_data (kind.0, ap (option_and_then (slice_get heads)) (found.2 ∙ sym (head-substitute args found.0 e found.2)) ∙ kind.1, kind.2))
      ]
  founded-substitute have args founded _ takes (built e i ctor at each) =
      elim (head-over (length args) 0 e takes) [
        | inl is ↦ subst (λ (x : Expression). IsFounded heads (substitute args x)) (sym is.1) (argument-founded args founded is.0 (subst (Takes heads (length args) 0) is.1 takes).1)
        | inr found ↦
            let rows = fields-substitute have args (length args) found.0 found.1 e found.2 found.3 found.4 in
            let over = fields-over heads (length args) found.0 found.1 e have (args-takes heads (length args) 0 e takes) found.2 found.3 found.4 i ctor at in
            built (substitute args e) i (map (substitute args) ctor) (ap (λ (rs : List (List Expression)). slice_get rs i) rows ∙ slice_get-map_at (map (substitute args)) (fields_of heads e) i ctor at) (λ j f at_f.
            let field = slice_get-map_source (substitute args) ctor j f at_f in
            subst (IsFounded heads) field.2 (founded-substitute have args founded field.0 (over j field.0 field.1) (each j field.0 field.1)))
      ]

  -- what is well founded is so where more is declared
  pub founded-more : HaveExpressions heads → (more : List Head) (params : ℕ) (e : Expression) → IsExpression heads params e → IsFounded heads e → IsFounded (heads ++ more) e
  founded-more have more params _ takes (other e not_data) = other e (λ kind. not_data (kind.0, sym (head_at-more heads more params 0 e takes) ∙ kind.1, kind.2))
  founded-more have more params _ takes (built e i ctor at each) =
      elim (head-over params 0 e takes) [
        | inl is ↦ absurd (none-some ctor (subst (λ (x : Expression). slice_get (fields_of heads x) i ≡ Some ctor) is.1 at))
        | inr found ↦
            let over = fields-over heads params found.0 found.1 e have (args-takes heads params 0 e takes) found.2 found.3 found.4 i ctor at in
            built e i ctor (ap (λ (rows : List (List Expression)). slice_get rows i) (fields_of-more heads more params e takes) ∙ at) (λ j f at_f. founded-more have more params f (over j f at_f) (each j f at_f))
      ]

  own-parameters : (bound n : ℕ) → n ≤ bound → AreExpressions heads bound (parameters n)
  own-parameters bound zero few k e at = absurd (none-some e at)
  own-parameters bound (suc n) few k e at =
      let more : suc n ≡ n + 1 = omega arith in
      elim (slice_get-push_cases (parameters n) (parameter n) e k (subst (λ (es : List Expression). slice_get es k ≡ Some e) (ap parameters more ∙ parameters-suc n) at)) [
        | inl before ↦ own-parameters bound n (omega (arith, few)) k e before
        | inr last ↦ subst (IsExpression heads bound) last.1 (refl, omega (arith, few))
      ]

  pub own-takes : (bound h : ℕ) (head : Head) → slice_get heads h ≡ Some head → head.params ≤ bound → IsExpression heads bound (at_own_parameters h head.params)
  own-takes bound h head at few =
      with_args-takes heads bound (named h) (parameters head.params) (ap (option_map (λ (x : Head). x.params)) at ∙ ap Some (sym (length-parameters head.params))) (own-parameters bound head.params few)

  module _ (have : HaveExpressions heads) (own : (h : ℕ) (head : Head) → slice_get heads h ≡ Some head → IsFounded heads (at_own_parameters h head.params)) where
    -- an expression with well-founded arguments
    whole-founded : (e : Expression) → IsExpression heads 0 e → ((k : ℕ) (a : Expression) → slice_get (args_of e) k ≡ Some a → IsFounded heads a) → IsFounded heads e
    whole-founded e takes args =
        let top = head-takes heads 0 e takes in
        let all = args_of e in
        let long : top.1.params ≡ length all = omega (arith, top.4) in
        let instance = founded-substitute have all args (at_own_parameters top.0 top.1.params) (own-takes (length all) top.0 top.1 top.3 (omega (arith, long))) (own top.0 top.1 top.3) in
        let is : substitute all (at_own_parameters top.0 top.1.params) ≡ e = ap (λ (n : ℕ). substitute all (at_own_parameters top.0 n)) long ∙ own-instance top.0 all ∙ sym (spine top.0 e top.2) in
        subst (IsFounded heads) is instance

    args-founded : (e a : Expression) → ((k : ℕ) (b : Expression) → slice_get (args_of e) k ≡ Some b → IsFounded heads b) → IsFounded heads a → (k : ℕ) (b : Expression) → slice_get (args_of (applied e a)) k ≡ Some b → IsFounded heads b
    args-founded e a args last k b at =
        elim (slice_get-push_cases (args_of e) a b k at) [
          | inl before ↦ args k b before
          | inr now ↦ subst (IsFounded heads) now.1 last
        ]

    founded-parts : (count : ℕ) (e : Expression) → Takes heads 0 count e → (k : ℕ) (a : Expression) → slice_get (args_of e) k ≡ Some a → IsFounded heads a
    founded-parts count (parameter i) takes k a at = absurd (none-some a at)
    founded-parts count (named h) takes k a at = absurd (none-some a at)
    founded-parts count (applied e b) takes k a at = args-founded e b (founded-parts (suc count) e takes.0) (whole-founded b takes.1 (founded-parts 0 b takes.1)) k a at

    -- where all are well founded at their own parameters, each sort is
    pub sorts-founded : (e : Expression) → IsExpression heads 0 e → IsFounded heads e
    sorts-founded e takes = whole-founded e takes (founded-parts 0 e takes)
