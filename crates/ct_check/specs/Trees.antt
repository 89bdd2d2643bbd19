-- The trees that the program makes of arguments.
use Rattle.std.specs.Prelude.{List, [], ◌∷◌, map}
use Rattle.std.specs.Global.{Vec}
use Rattle.ct_sorts.specs.declared.ids.SortId.{SortId}
use Rattle.ct_formulas.specs.declared.tree.Tree.{Tree}
use Rattle.ct_formulas.specs.TreeFormula.{formula_of, cases_of}
use Rattle.ct_occurrence.specs.CaseFormula.{case_of}
use Rattle.ct_check.specs.declared.binders.Checked.{Checked as CheckedTrees}
use Rattle.ct_names.specs.Elaboration.{Checked}
use Rattle.ct_names.specs.Outcome.{Sorted}

-- the formula of a tree, with its sort
abbrev pub sorted_of : Tree × SortId → Sorted
sorted_of t = (formula_of t.0, t.1)

-- trees with sorts beside them, one for one
abbrev pub sorted_trees : List Tree → List SortId → List Sorted
sorted_trees [] sorts = []
sorted_trees (t ∷ ts) [] = []
sorted_trees (t ∷ ts) (s ∷ sorts) = (formula_of t, s) ∷ sorted_trees ts sorts

abbrev pub sorted_list : Vec Tree × Vec SortId → List Sorted
sorted_list r = sorted_trees r.0.items r.1.items

-- the cases that were checked
abbrev pub checked_of : CheckedTrees → Checked
checked_of c = record { cases = cases_of (map case_of c.cases.items); patterns = c.patterns.items; sort = c.sort }
