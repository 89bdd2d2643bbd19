-- The order in which compiling a formula makes terms. Bindings, arguments of definitions and matched terms that occur come
-- before the body, in order; so do the values of the variables of a quantifier that occur, for each choice of them. Else what stands under a term comes before the term, from left to right.
use Rattle.std.specs.Prelude.{ℕ, zero, suc, Bool, ◌||◌, ◌==◌, List, [], ◌∷◌, ◌++◌, length, map, Option, Some, None, slice_get, if◌then◌else◌}
use Rattle.ct_sorts.specs.declared.ids.CtorId.{CtorId}
use Rattle.ct_sorts.specs.declared.ids.DefId.{DefId}
use Rattle.ct_sorts.specs.Declarations.{Declarations}
use Rattle.ct_formulas.specs.declared.tree.Pattern.TheVariants.{Ctor, Any}
use Rattle.ct_terms.specs.CoreTree.{CoreTree, con, test, choice, no_term}
use Rattle.ct_formulas.specs.Formula.{Formula, Formulas, Cases, Var, Con, Sel, Test, Apply, Def, Not, And, Or, Xor, Implies, Equal, Distinct, Ite, Let, Match, Quantified, no_formulas, with_formula, no_cases, with_case, bind}
use Rattle.ct_formulas.specs.declared.tree.Quantifier.{Quantifier}
use Rattle.ct_formulas.specs.declared.tree.Quantifier.TheVariants.{Forall, Exists}
use Rattle.ct_listing.specs.Closed.{ClosedValue, ClosedValues, build, no_closed, with_closed, term_of, terms_under}
use Rattle.ct_formulas.specs.Choices.{choices_of}
use Rattle.ct_occurrence.specs.Marks.{flags_below}
use Rattle.ct_formulas.specs.Calls.{calls_below}
use Rattle.ct_terms.specs.Fields.{fields_of}
use Rattle.ct_formulas.specs.Compiled.{surely_fits, are_none, compiled, compiled_all, compiled_cases}
use Rattle.ct_formulas.specs.Occurrence.{count_of, occurs, matched_occurs, uses_below}
use Rattle.ct_operators.specs.declared.operator.Operator.{Operator}
use Rattle.ct_operators.specs.declared.operator.Operator.TheVariants.{Construct, Select, Inspect, Call, Negation, Conjunction, Disjunction, Exclusion, Implication, Equality, Inequality}
use Rattle.ct_operators.specs.Made.{Made, made_by}

-- of definitions: the variables that occur in their bodies, and for arguments their core terms and what is made for these
pub record Defined : Type 0 where
  pub uses : DefId → ℕ → Bool
  pub gives : DefId → List CoreTree → CoreTree
  pub makes : DefId → List CoreTree → List CoreTree

abbrev mutual
  -- what is made for a closed value
  pub making_value : ClosedValue → List CoreTree
  making_value (build c vs) = making_under vs ++ con c (terms_under vs) ∷ []

  -- what is made for those under a constructor
  pub making_under : ClosedValues → List CoreTree
  making_under no_closed = []
  making_under (with_closed v vs) = making_value v ++ making_under vs

-- what is made for those of these values whose flag is set
abbrev pub making_values : List Bool → List ClosedValue → List CoreTree
making_values [] vs = []
making_values (b ∷ bs) [] = []
making_values (b ∷ bs) (v ∷ vs) = (if b then making_value v else []) ++ making_values bs vs

-- the operator that joins what a quantifier says of its body for several values
abbrev pub operator_of : Quantifier → Operator
operator_of Forall = Conjunction
operator_of Exists = Disjunction

abbrev mutual
  -- what is made for a formula, where each variable stands for a core term that is there or is a field of one: one line a form
  pub making : Declarations → Defined → List CoreTree → Formula → List CoreTree
  making d defs env (Var i) = compiled d defs.gives env (Var i) ∷ []
  making d defs env (Con c ts) = (made_by d (Construct c) (made_each d defs env ts)).making
  making d defs env (Sel s t) = (made_by d (Select s) (record { making = making d defs env t; term = compiled d defs.gives env t } ∷ [])).making
  making d defs env (Test c t) = (made_by d (Inspect c) (record { making = making d defs env t; term = compiled d defs.gives env t } ∷ [])).making
  making d defs env (Apply f ts) = (made_by d (Call f) (made_each d defs env ts)).making
  making d defs env (Def k ts) = making_bound d defs env (defs.uses k) ts ++ defs.makes k (compiled_all d defs.gives env ts)
  making d defs env (Not t) = (made_by d Negation (record { making = making d defs env t; term = compiled d defs.gives env t } ∷ [])).making
  making d defs env (And ts) = (made_by d Conjunction (made_each d defs env ts)).making
  making d defs env (Or ts) = (made_by d Disjunction (made_each d defs env ts)).making
  making d defs env (Xor ts) = (made_by d Exclusion (made_each d defs env ts)).making
  making d defs env (Implies ts) = (made_by d Implication (made_each d defs env ts)).making
  making d defs env (Equal ts) = (made_by d Equality (made_each d defs env ts)).making
  making d defs env (Distinct ts) = (made_by d Inequality (made_each d defs env ts)).making
  making d defs env (Ite c t u) = making d defs env c ++ (making d defs env t ++ (making d defs env u ++ compiled d defs.gives env (Ite c t u) ∷ []))
  making d defs env (Let ts u) = making_bound d defs env (occurs d defs.uses u) ts ++ making d defs (bind (compiled_all d defs.gives env ts) env) u
  making d defs env (Match t cases) = (if matched_occurs d defs.uses [] cases then making d defs env t else []) ++ making_cases d defs env (compiled d defs.gives env t) [] cases
  making d defs env (Quantified q sorts t) = (made_by d (operator_of q) (map (λ vs. record { making = making_values (flags_below (occurs d defs.uses t) (length sorts)) vs ++ making d defs (bind (map term_of vs) env) t; term = compiled d defs.gives (bind (map term_of vs) env) t }) (choices_of d sorts))).making

  -- the core terms of several formulas
  pub made_each : Declarations → Defined → List CoreTree → Formulas → List Made
  made_each d defs env no_formulas = []
  made_each d defs env (with_formula t ts) = record { making = making d defs env t; term = compiled d defs.gives env t } ∷ made_each d defs env ts

  -- what is made for those that are bound to variables of the test; the last of them is variable 0
  pub making_bound : Declarations → Defined → List CoreTree → (ℕ → Bool) → Formulas → List CoreTree
  making_bound d defs env inner no_formulas = []
  making_bound d defs env inner (with_formula t ts) = (if inner (count_of ts) then making d defs env t else []) ++ making_bound d defs env inner ts

  -- what is made for the cases of a `match` of this term, after cases of the constructors `earlier`
  pub making_cases : Declarations → Defined → List CoreTree → CoreTree → List CtorId → Cases → List CoreTree
  making_cases d defs env t earlier no_cases = []
  making_cases d defs env t earlier (with_case Any body cases) = making d defs (t ∷ env) body
  making_cases d defs env t earlier (with_case (Ctor c) body cases) = if surely_fits d earlier c || are_none cases then making d defs (bind (fields_of d c t) env) body else test c t ∷ (making d defs (bind (fields_of d c t) env) body ++ (making_cases d defs env t (c ∷ earlier) cases ++ choice (test c t) (compiled d defs.gives (bind (fields_of d c t) env) body) (compiled_cases d defs.gives env t (c ∷ earlier) cases) ∷ []))

-- what is made for a body with these arguments
abbrev pub body_makes : Declarations → Defined → Option Formula → List CoreTree → List CoreTree
body_makes d defs None args = []
body_makes d defs (Some body) args = making d defs (bind args []) body

-- what is made for the definitions below a number
unfoldable pub makes_below : Declarations → List Formula → ℕ → DefId → List CoreTree → List CoreTree
makes_below d bodies zero k args = []
makes_below d bodies (suc n) k args = if k.0 == n then body_makes d (record { uses = uses_below d bodies n; gives = calls_below (compiled d) no_term bodies n; makes = makes_below d bodies n }) (slice_get bodies n) args else makes_below d bodies n k args

-- the definitions below a number
abbrev pub defined : Declarations → List Formula → ℕ → Defined
defined d bodies n = record { uses = uses_below d bodies n; gives = calls_below (compiled d) no_term bodies n; makes = makes_below d bodies n }

-- what is made for a formula over definitions with these bodies
abbrev pub making_of : Declarations → List Formula → List CoreTree → Formula → List CoreTree
making_of d bodies env t = making d (defined d bodies (length bodies)) env t
