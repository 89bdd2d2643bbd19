-- Functions and definitions as the program holds them: sorts of arguments and of the result, and a body.
use Rattle.std.specs.Prelude.{ℕ, List, []}
use Rattle.std.specs.List.{AllZip}
use Rattle.std.specs.Global.{Vec}
use Rattle.ct_sorts.specs.declared.ids.SortId.{SortId}
use Rattle.ct_sorts.specs.Declarations.{Declarations, Function}
use Rattle.ct_formulas.specs.Formula.{Formula}
use Rattle.ct_formulas.specs.FormulaSorts.{IsSorted}
use Rattle.ct_formulas.specs.TreeFormula.{formula_of}
use Rattle.ct_formulas.specs.declared.tree.Tree.{Tree}
use Rattle.ct_names.specs.Outcome.{Sorted}
use Rattle.ct_check.specs.Trees.{sorted_trees}
use Rattle.ct_stack.specs.declared.define.Definition.{Definition}

abbrev pub sorts_seen : Vec SortId → List SortId
sorts_seen sorts = sorts.items

-- the function of this name
abbrev pub function_seen : List ℕ → Vec SortId × SortId → Function
function_seen name f = record { name = name; args = f.0.items; result = f.1 }

-- the definition of this name, and its body
abbrev pub definition_seen : List ℕ → Definition → Function × Formula
definition_seen name f = (record { name = name; args = f.args.items; result = f.result }, formula_of f.body)

-- terms with their sorts
abbrev pub terms_seen : Vec Tree × Vec SortId → List Sorted
terms_seen terms = sorted_trees terms.0.items terms.1.items

-- each tree has its sort
abbrev pub AreSortedTerms : Declarations → List Tree → List SortId → Type 0
AreSortedTerms d trees sorts = AllZip (λ t sort. IsSorted d [] (formula_of t) sort) trees sorts

-- the tree has some sort
abbrev pub HasSomeSort : Declarations → Tree → Type 0
HasSomeSort d t = (sort : SortId) × IsSorted d [] (formula_of t) sort
