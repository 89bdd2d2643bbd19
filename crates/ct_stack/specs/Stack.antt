-- The assertion stack: what a script has declared, defined and asserted so far, and at which level (SMT-LIB 2.7, sections 4.1.4
-- and 4.2).
use Rattle.std.specs.Prelude.{ℕ, List, [], ◌∷◌, ◌++◌, map, length, reverse, Option, None, Some}
use Rattle.std.specs.List.{flat_map}
use Rattle.ct_sorts.specs.Declarations.{Declarations, Function, start, bool_sort, with_definition}
use Rattle.ct_formulas.specs.Formula.{Formula, Def, no_formulas}
use Rattle.ct_terms.specs.CoreTree.{CoreTree}
use Rattle.ct_formulas.specs.Compiled.{core_of}

-- what can be named: what is declared, and a body for each definition
pub record Context : Type 0 where
  pub declarations : Declarations
  pub bodies : List Formula

-- a level: what can be named at it, and what is asserted at it, in order
pub record Level : Type 0 where
  pub context : Context
  pub assertions : List Formula

-- the assertion stack: the innermost level, and those around it, from the inside outwards
pub record Stack : Type 0 where
  pub top : Level
  pub below : List Level

-- nothing is named but Bool, `true` and `false`
abbrev pub first_context : Context
first_context = record { declarations = start; bodies = [] }

abbrev pub first_level : Level
first_level = record { context = first_context; assertions = [] }

abbrev pub first_stack : Stack
first_stack = record { top = first_level; below = [] }

-- the assertions in force, those of the outermost level first
abbrev pub in_force : Stack → List Formula
in_force stack = flat_map (λ level. level.assertions) (reverse stack.below) ++ stack.top.assertions

-- the core term of a formula
abbrev pub core : Context → Formula → CoreTree
core context t = core_of context.declarations context.bodies [] t

-- the core terms of formulas
abbrev pub cores : Context → List Formula → List CoreTree
cores context formulas = map (λ t. core_of context.declarations context.bodies [] t) formulas

-- with this context at the innermost level
abbrev pub in_context : Stack → Context → Stack
in_context stack context = record stack { top = record stack.top { context = context } }

-- with these declarations at the innermost level
abbrev pub declaring : Stack → Declarations → Stack
declaring stack d = in_context stack (record stack.top.context { declarations = d })

-- with one definition more
abbrev pub defined_in : Context → Function × Formula → Context
defined_in c f = record { declarations = with_definition c.declarations f.0; bodies = c.bodies ++ f.1 ∷ [] }

-- with one assertion more at the innermost level
abbrev pub asserting : Stack → Formula → Stack
asserting stack formula = record stack { top = record stack.top { assertions = stack.top.assertions ++ formula ∷ [] } }

-- the definition that a label makes, which takes no arguments and is Boolean
abbrev pub named_truth : List ℕ → Function
named_truth name = record { name = name; args = []; result = bool_sort }

-- what can be named once a formula is asserted with this label: with a name, the definition of that name, of which it is the body
abbrev pub context_with : Context → Option (List ℕ) → Formula → Context
context_with c None t = c
context_with c (Some name) t = defined_in c (named_truth name, t)

-- what is asserted of the formula: with a name, the definition of that name
abbrev pub asserted_as : Context → Option (List ℕ) → Formula → Formula
asserted_as c None t = t
asserted_as c (Some name) t = Def (record { 0 = length c.declarations.definitions }) no_formulas

-- with one assertion more at the innermost level, which has this label
abbrev pub asserting_as : Stack → Option (List ℕ) → Formula → Stack
asserting_as stack label t = asserting (in_context stack (context_with stack.top.context label t)) (asserted_as stack.top.context label t)
