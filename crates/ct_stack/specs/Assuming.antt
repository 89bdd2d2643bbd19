-- Assumptions of a check (SMT-LIB 2.7, section 4.2.5): terms that are Boolean, elaborated as for an assertion.
use Rattle.std.specs.Prelude.{◌≡◌, ℕ, List, [], ◌++◌, map, Ok, Err}
use Rattle.std.specs.Global.{Vec}
use Rattle.ct_sexpr.specs.Expression.{Expression}
use Rattle.ct_sexpr.specs.Written.{written}
use Rattle.ct_sorts.specs.Declarations.{Declarations, bool_sort}
use Rattle.ct_formulas.specs.Formula.{Formula}
use Rattle.ct_formulas.specs.FormulaSorts.{IsSorted}
use Rattle.ct_formulas.specs.TreeFormula.{formula_of}
use Rattle.ct_names.specs.Needs.{ComesTo}
use Rattle.ct_names.specs.Outcome.{Elaborated, and_then}
use Rattle.ct_names.specs.Refusals.{wrong_sort}
use Rattle.ct_stack.specs.declared.assuming.Assumption.{Assumption as Assumed}
use Rattle.ct_stack.specs.Stack.{Stack, Level, in_force, declaring}
use Rattle.ct_stack.specs.Elaborations.{boolean_formula}
use Rattle.ct_stack.specs.Outcomes.{each_of}

-- an assumption, by its text and its formula
pub record Assumption : Type 0 where
  pub text : List ℕ
  pub formula : Formula

-- what a term assumes
abbrev pub assumption_of : Declarations → Expression → Elaborated Assumption
assumption_of d t = and_then (boolean_formula wrong_sort d t) (λ formula. Ok (record { text = written t; formula = formula }))

-- the assumptions, in order, up to the first error
abbrev pub assumptions : Declarations → List Expression → Elaborated (List Assumption)
assumptions d ts = each_of (assumption_of d) ts

-- the formulas of assumptions
abbrev pub assumed_formulas : List Assumption → List Formula
assumed_formulas assumed = map (λ (a : Assumption). a.formula) assumed

-- the assertions in force, and then the assumptions
abbrev pub assuming : Stack → List Assumption → List Formula
assuming stack assumed = in_force stack ++ assumed_formulas assumed

-- the same of a level
abbrev pub with_assumed : Level → List Assumption → Level
with_assumed level assumed = record level { assertions = level.assertions ++ assumed_formulas assumed }

-- assumptions as the program holds them
abbrev pub assumption_seen : Assumed → Assumption
assumption_seen a = record { text = a.text; formula = formula_of a.tree }

abbrev pub assumptions_seen : List Assumed → List Assumption
assumptions_seen assumed = map assumption_seen assumed

-- a list of these
abbrev pub list_seen : Vec Assumed → List Assumption
list_seen assumed = assumptions_seen assumed.items

-- the assumption is well sorted, and Boolean
abbrev pub IsTruth : Declarations → Assumed → Type 0
IsTruth d a = IsSorted d [] (formula_of a.tree) bool_sort

-- over the declarations of the first stack the terms come to these assumptions, and the last stack is the one between with the
-- declarations that have the sorts which the terms need
pub record Assumes (first : Stack) (ts : List Expression) (between last : Stack) (assumed : List Assumption) : Type 0 where
  pub later : Declarations
  pub comes : ComesTo (λ d. assumptions d ts) first.top.context.declarations later (Ok assumed)
  pub stack_is : last ≡ declaring between later

-- the terms are refused with this number
abbrev pub RefusesToAssume : Stack → List Expression → ℕ → Type 0
RefusesToAssume stack ts n = (later : Declarations) × ComesTo (λ d. assumptions d ts) stack.top.context.declarations later (Err n)
