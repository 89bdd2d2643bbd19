-- A quantifier: its body is compiled for each choice of values for its variables, as if they were bound by a `let`.
use Rattle.std.specs.Prelude.{ℕ, List, map, take}
use Rattle.ct_sorts.specs.declared.ids.SortId.{SortId}
use Rattle.ct_sorts.specs.Declarations.{Declarations}
use Rattle.ct_terms.specs.declared.ids.TermId.{TermId}
use Rattle.ct_terms.specs.Terms.{Terms}
use Rattle.ct_terms.specs.CoreTree.{CoreTree}
use Rattle.ct_listing.specs.Closed.{ClosedValue}
use Rattle.ct_formulas.specs.Choices.{choices_of}
use Rattle.ct_formulas.specs.declared.tree.Quantifier.{Quantifier}
use Rattle.ct_formulas.specs.Formula.{Formula, Formulas, Let, Quantified}
use Rattle.ct_formulas.specs.TreeFormula.{formulas_of}
use Rattle.ct_formulas.specs.Compiled.{compiled}
use Rattle.ct_finite.specs.ClosedFormula.{formula_of_value}
use Rattle.ct_operators.specs.Effect.{AllStand}
use Rattle.ct_operators.specs.Made.{Made, HasTrees, made_for}
use Rattle.ct_scope.specs.declared.bound.Bound.{Bound}
use Rattle.ct_scope.specs.Making.{making, defined}
use Rattle.ct_scope.specs.Compilable.{compiled_calls, IsCompilable}

-- the formulas of closed values
abbrev pub formulas_of_values : List ClosedValue → Formulas
formulas_of_values vs = formulas_of (map formula_of_value vs)

-- the body of a quantifier with these values for its variables
abbrev pub chosen : Formula → List ClosedValue → Formula
chosen t vs = Let (formulas_of_values vs) t

-- the body with each choice of values for variables of these sorts
abbrev pub all_chosen : Declarations → List SortId → Formula → Formulas
all_chosen d sorts t = formulas_of (map (chosen t) (choices_of d sorts))

-- the core term of the body with these values, and what is made for it
abbrev pub made_choice : Declarations → List Formula → ℕ → List CoreTree → Formula → List ClosedValue → Made
made_choice d bodies n trees t vs = record { making = making d (defined d bodies n) trees (chosen t vs); term = compiled d (compiled_calls d bodies n) trees (chosen t vs) }

-- the first choices are compiled: for some terms of the variables, their core terms stand in the table, and what is made for
-- them is there
abbrev pub AreChosen : Declarations → List Formula → Terms → ℕ → List Bound → Quantifier → List SortId → Formula → ℕ → List TermId → Type 0
AreChosen d bodies table n env q bound t k args = (trees : List CoreTree) × (sorts : List SortId) × (sort : SortId) × IsCompilable d bodies table n env (Quantified q bound t) trees sorts sort × AllStand table args (map (λ vs. compiled d (compiled_calls d bodies n) trees (chosen t vs)) (take k (choices_of d bound))) × HasTrees table (made_for (map (made_choice d bodies n trees t) (take k (choices_of d bound))))
