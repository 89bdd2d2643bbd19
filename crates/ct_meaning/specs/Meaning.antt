-- What a formula means in an interpretation, by recursion on it (SMT-LIB 2.7, section 5.3): bindings, `match`, definitions and
-- the bodies of quantifiers are evaluated, and not expanded.
use Rattle.std.specs.Prelude.{◌≡◌, Bool, true, false, not, ◌||◌, List, [], ◌∷◌, All, map, slice_get, unwrap_or, if◌then◌else◌}
use Rattle.std.specs.List.{fold, list_all, list_any}
use Rattle.ct_sorts.specs.declared.ids.DefId.{DefId}
use Rattle.ct_sorts.specs.Declarations.{Declarations}
use Rattle.ct_values.specs.Graph.{Nodes}
use Rattle.ct_values.specs.Value.{Value, construct, values_of}
use Rattle.ct_values.specs.Agreement.{point, children_of, AgreeAlways}
use Rattle.ct_formulas.specs.declared.tree.Pattern.{Pattern}
use Rattle.ct_formulas.specs.declared.tree.Pattern.TheVariants.{Ctor, Any}
use Rattle.ct_formulas.specs.declared.tree.Quantifier.{Quantifier}
use Rattle.ct_formulas.specs.declared.tree.Quantifier.TheVariants.{Forall, Exists}
use Rattle.ct_terms.specs.CoreTree.{CoreTree}
use Rattle.ct_listing.specs.Closed.{value_of}
use Rattle.ct_formulas.specs.Choices.{choices_of}
use Rattle.ct_formulas.specs.Formula.{Formula, Formulas, Cases, Var, Con, Sel, Test, Apply, Def, Not, And, Or, Xor, Implies, Equal, Distinct, Ite, Let, Match, Quantified, no_formulas, with_formula, no_cases, with_case, bind}
use Rattle.ct_formulas.specs.Pairs.{neighbours, pairs}
use Rattle.ct_formulas.specs.Calls.{calls}
use Rattle.ct_eval.specs.declared.interp.Interp.{Interp}
use Rattle.ct_values.specs.TruthValue.{truth, is_built, is_true}
use Rattle.ct_eval.specs.Evaluation.{is_same, table_value, select}
use Rattle.ct_eval.specs.TreeValue.{tree_value}

-- exactly one of two is true
abbrev pub xor : Bool → Bool → Bool
xor a b = if a then not b else b

-- exclusive disjunction, left associative
abbrev pub xor_all : List Bool → Bool
xor_all [] = false
xor_all (b ∷ bs) = fold xor b bs

-- implication, right associative: where the first is true the rest follow
abbrev pub implies_from : Bool → List Bool → Bool
implies_from b [] = b
implies_from b (c ∷ cs) = not b || implies_from c cs

abbrev pub implies_all : List Bool → Bool
implies_all [] = true
implies_all (b ∷ bs) = implies_from b bs

-- all of these are true
abbrev pub all_true : List Bool → Bool
all_true bs = list_all (λ b. b) bs

-- neighbours are the same
abbrev pub are_chained : Nodes → List Value → Bool
are_chained g vs = all_true (neighbours (is_same g) vs)

-- no two are the same
abbrev pub are_distinct : Nodes → List Value → Bool
are_distinct g vs = all_true (pairs (λ v w. not (is_same g v w)) vs)

-- the pattern fits the value: it is built by the pattern's constructor
abbrev pub fits : Nodes → Pattern → Value → Bool
fits g (Ctor c) v = is_built g c v
fits g Any v = true

-- what the pattern binds, in order: the children of the value, or the value itself
abbrev pub matched_values : Nodes → Pattern → Value → List Value
matched_values g (Ctor c) v = children_of g v
matched_values g Any v = v ∷ []

-- what a quantifier says of its body, which means these: all of them are true, or some
abbrev pub holds : Quantifier → Nodes → List Value → Bool
holds Forall g vs = list_all (is_true g) vs
holds Exists g vs = list_any (is_true g) vs

abbrev mutual
  -- the meaning of a formula, over what definitions give for values, where each variable stands for a value
  pub meaning : Declarations → Interp → (DefId → List Value → Value) → List Value → Formula → Value
  meaning d i call env (Var k) = unwrap_or (slice_get env k) (truth false)
  meaning d i call env (Con c ts) = construct c (values_of (meanings d i call env ts))
  meaning d i call env (Sel s t) = select i s (slice_get d.sels s.0) (meaning d i call env t)
  meaning d i call env (Test c t) = truth (is_built i.graph c (meaning d i call env t))
  meaning d i call env (Apply f ts) = table_value i (slice_get i.funs f.0) (meanings d i call env ts)
  meaning d i call env (Def k ts) = call k (meanings d i call env ts)
  meaning d i call env (Not t) = truth (not (is_true i.graph (meaning d i call env t)))
  meaning d i call env (And ts) = truth (list_all (is_true i.graph) (meanings d i call env ts))
  meaning d i call env (Or ts) = truth (list_any (is_true i.graph) (meanings d i call env ts))
  meaning d i call env (Xor ts) = truth (xor_all (map (is_true i.graph) (meanings d i call env ts)))
  meaning d i call env (Implies ts) = truth (implies_all (map (is_true i.graph) (meanings d i call env ts)))
  meaning d i call env (Equal ts) = truth (are_chained i.graph (meanings d i call env ts))
  meaning d i call env (Distinct ts) = truth (are_distinct i.graph (meanings d i call env ts))
  meaning d i call env (Ite c t u) = if is_true i.graph (meaning d i call env c) then meaning d i call env t else meaning d i call env u
  meaning d i call env (Let ts u) = meaning d i call (bind (meanings d i call env ts) env) u
  meaning d i call env (Match t cases) = case_meaning d i call env (meaning d i call env t) cases
  meaning d i call env (Quantified q sorts t) = truth (holds q i.graph (map (λ vs. meaning d i call (bind (map value_of vs) env) t) (choices_of d sorts)))

  -- the meanings of several formulas, in order
  pub meanings : Declarations → Interp → (DefId → List Value → Value) → List Value → Formulas → List Value
  meanings d i call env no_formulas = []
  meanings d i call env (with_formula t ts) = meaning d i call env t ∷ meanings d i call env ts

  -- the first case that fits the value, with what its pattern binds
  pub case_meaning : Declarations → Interp → (DefId → List Value → Value) → List Value → Value → Cases → Value
  case_meaning d i call env v no_cases = truth false
  case_meaning d i call env v (with_case p body cases) = if fits i.graph p v then meaning d i call (bind (matched_values i.graph p v) env) body else case_meaning d i call env v cases

-- the meaning of a formula over definitions with these bodies
abbrev pub eval : Declarations → Interp → List Formula → List Value → Formula → Value
eval d i bodies env t = meaning d i (calls (meaning d i) (truth false) bodies) env t

-- the two values are equal over the graph of the interpretation
abbrev pub Agree : Interp → Value → Value → Type 0
Agree i v w = AgreeAlways (point i.graph v) (point i.graph w)

-- the core term means the value
abbrev pub Means : Declarations → Interp → CoreTree → Value → Type 0
Means d i t v = Agree i (tree_value d i t) v

-- the interpretation makes every assertion true: each, a closed formula over definitions with these bodies, evaluates to `true`
abbrev pub AllTrue : Declarations → Interp → List Formula → List Formula → Type 0
AllTrue d i bodies asserts = All (λ t. is_true i.graph (eval d i bodies [] t) ≡ true) asserts
