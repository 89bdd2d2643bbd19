-- The core term of a formula: bindings, definitions, `match` and quantifiers are expanded, and n-ary operators are brought to
-- the kinds of core terms.
use Rattle.std.specs.Prelude.{◌≡◌, ℕ, ◌<◌, Bool, true, false, ◌||◌, ◌==◌, List, [], ◌∷◌, map, Some, option_map, unwrap_or, slice_get, if◌then◌else◌}
use Rattle.std.specs.List.{AllZip, fold, list_all, list_any}
use Rattle.ct_sorts.specs.declared.ids.CtorId.{CtorId}
use Rattle.ct_sorts.specs.declared.ids.DefId.{DefId}
use Rattle.ct_sorts.specs.Declarations.{Declarations, Constructor, Function}
use Rattle.ct_formulas.specs.declared.tree.Pattern.TheVariants.{Ctor, Any}
use Rattle.ct_formulas.specs.declared.tree.Quantifier.{Quantifier}
use Rattle.ct_formulas.specs.declared.tree.Quantifier.TheVariants.{Forall, Exists}
use Rattle.ct_terms.specs.CoreTree.{CoreTree, con, sel, test, apply, equation, negation, conjunction, disjunction, equivalence, choice, trees_of, no_term}
use Rattle.ct_terms.specs.CoreSorts.{HasTreeSort, tree_sort}
use Rattle.ct_terms.specs.Fields.{fields_of, ctor_ids_of_sort}
use Rattle.ct_listing.specs.Closed.{term_of}
use Rattle.ct_formulas.specs.Choices.{choices_of}
use Rattle.ct_formulas.specs.Formula.{Formula, Formulas, Cases, Var, Con, Sel, Test, Apply, Def, Not, And, Or, Xor, Implies, Equal, Distinct, Ite, Let, Match, Quantified, no_formulas, with_formula, no_cases, with_case, bind}
use Rattle.ct_formulas.specs.Pairs.{neighbours, pairs}
use Rattle.ct_formulas.specs.Calls.{calls}

-- the conjunction of several terms; one term alone is itself
abbrev pub all_of : List CoreTree → CoreTree
all_of (t ∷ []) = t
all_of ts = conjunction (trees_of ts)

-- the disjunction of several terms; one term alone is itself
abbrev pub any_of : List CoreTree → CoreTree
any_of (t ∷ []) = t
any_of ts = disjunction (trees_of ts)

-- exactly one of two
abbrev pub exclusive : CoreTree → CoreTree → CoreTree
exclusive a b = negation (equivalence a b)

-- exclusive disjunction is left associative
abbrev pub exclusive_of : List CoreTree → CoreTree
exclusive_of [] = no_term
exclusive_of (t ∷ ts) = fold exclusive t ts

-- implication is right associative: that the first holds is refused, or the rest follow
abbrev pub implied_from : CoreTree → List CoreTree → CoreTree
implied_from t [] = t
implied_from t (u ∷ us) = disjunction (trees_of (negation t ∷ (implied_from u us ∷ [])))

abbrev pub implication_of : List CoreTree → CoreTree
implication_of [] = no_term
implication_of (t ∷ ts) = implied_from t ts

-- the equality of two terms of one sort: over Bool an equivalence
abbrev pub equality : Declarations → CoreTree → CoreTree → CoreTree
equality d a b = if (tree_sort d a).0 == 0 then equivalence a b else equation a b

abbrev pub inequality : Declarations → CoreTree → CoreTree → CoreTree
inequality d a b = negation (equality d a b)

-- the constructors of the sort of this one
abbrev pub siblings : Declarations → CtorId → List CtorId
siblings d c = unwrap_or (option_map (λ (ctor : Constructor). ctor_ids_of_sort d ctor.sort) (slice_get d.ctors c.0)) []

-- the constructor is among these
abbrev pub is_among : List CtorId → CtorId → Bool
is_among cs c = list_any (λ k. k.0 == c.0) cs

-- a case of the constructor surely fits after cases of these: they are all other constructors of its sort
abbrev pub surely_fits : Declarations → List CtorId → CtorId → Bool
surely_fits d earlier c = list_all (λ k. (k.0 == c.0) || is_among earlier k) (siblings d c)

-- what a quantifier says of its body for several values, where these are the body's core terms: that all of them hold, or some
abbrev pub joined : Quantifier → List CoreTree → CoreTree
joined Forall ts = all_of ts
joined Exists ts = any_of ts

-- there is no case
abbrev pub are_none : Cases → Bool
are_none no_cases = true
are_none (with_case p body cases) = false

abbrev mutual
  -- the core term, over what definitions give for core terms, where each variable stands for a core term: one line a form
  pub compiled : Declarations → (DefId → List CoreTree → CoreTree) → List CoreTree → Formula → CoreTree
  compiled d call env (Var i) = unwrap_or (slice_get env i) no_term
  compiled d call env (Con c ts) = con c (trees_of (compiled_all d call env ts))
  compiled d call env (Sel s t) = sel s (compiled d call env t)
  compiled d call env (Test c t) = test c (compiled d call env t)
  compiled d call env (Apply f ts) = apply f (trees_of (compiled_all d call env ts))
  compiled d call env (Def k ts) = call k (compiled_all d call env ts)
  compiled d call env (Not t) = negation (compiled d call env t)
  compiled d call env (And ts) = all_of (compiled_all d call env ts)
  compiled d call env (Or ts) = any_of (compiled_all d call env ts)
  compiled d call env (Xor ts) = exclusive_of (compiled_all d call env ts)
  compiled d call env (Implies ts) = implication_of (compiled_all d call env ts)
  compiled d call env (Equal ts) = all_of (neighbours (equality d) (compiled_all d call env ts))
  compiled d call env (Distinct ts) = all_of (pairs (inequality d) (compiled_all d call env ts))
  compiled d call env (Ite c t u) = choice (compiled d call env c) (compiled d call env t) (compiled d call env u)
  compiled d call env (Let ts u) = compiled d call (bind (compiled_all d call env ts) env) u
  compiled d call env (Match t cases) = compiled_cases d call env (compiled d call env t) [] cases
  compiled d call env (Quantified q sorts t) = joined q (map (λ vs. compiled d call (bind (map term_of vs) env) t) (choices_of d sorts))

  -- those of several formulas, in order
  pub compiled_all : Declarations → (DefId → List CoreTree → CoreTree) → List CoreTree → Formulas → List CoreTree
  compiled_all d call env no_formulas = []
  compiled_all d call env (with_formula t ts) = compiled d call env t ∷ compiled_all d call env ts

  -- the cases of a `match` of this term, after cases of the constructors `earlier`: tests one after the other; a case that
  -- surely fits ends them, and the last case stands without a test
  pub compiled_cases : Declarations → (DefId → List CoreTree → CoreTree) → List CoreTree → CoreTree → List CtorId → Cases → CoreTree
  compiled_cases d call env t earlier no_cases = no_term
  compiled_cases d call env t earlier (with_case Any body cases) = compiled d call (t ∷ env) body
  compiled_cases d call env t earlier (with_case (Ctor c) body cases) = if surely_fits d earlier c || are_none cases then compiled d call (bind (fields_of d c t) env) body else choice (test c t) (compiled d call (bind (fields_of d c t) env) body) (compiled_cases d call env t (c ∷ earlier) cases)

-- the core term of a formula over definitions with these bodies
abbrev pub core_of : Declarations → List Formula → List CoreTree → Formula → CoreTree
core_of d bodies env t = compiled d (calls (compiled d) no_term bodies) env t

-- the definitions below the number give core terms of their results for core terms of their parameters' sorts
abbrev pub GiveSorted : Declarations → ℕ → (DefId → List CoreTree → CoreTree) → Type 0
GiveSorted d n call = (k : DefId) (definition : Function) (ts : List CoreTree) → k.0 < n → slice_get d.definitions k.0 ≡ Some definition → AllZip (HasTreeSort d) ts definition.args → HasTreeSort d (call k ts) definition.result
