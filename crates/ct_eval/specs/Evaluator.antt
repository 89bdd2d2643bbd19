-- Evaluators: the first terms of a table have their nodes, and the maps have the rows of the interpretation.
use Rattle.std.specs.Prelude.{◌≤◌, length}
use Rattle.ct_sorts.specs.Declarations.{Declarations}
use Rattle.ct_terms.specs.Terms.{Terms}
use Rattle.ct_eval.specs.declared.interp.Interp.{Interp}
use Rattle.ct_eval.specs.declared.interp.Valuation.{Valuation}
use Rattle.ct_eval.specs.declared.valuation.Evaluator.{Evaluator}
use Rattle.ct_eval.specs.EvaluationStep.{HaveNodes}
use Rattle.ct_eval.specs.Index.{IsIndex}

-- what it has found so far
abbrev pub valuation_of : Evaluator → Valuation
valuation_of e = record { graph = e.shared; nodes = e.nodes.items }

-- it has found the values of some first terms of the table, and can find those of others
pub record IsEvaluator (d : Declarations) (i : Interp) (terms : Terms) (e : Evaluator) : Type 0 where
  pub found : HaveNodes d i terms e.shared e.nodes.items
  pub few : length e.nodes.items ≤ length terms
  pub functions : IsIndex i.graph i.funs e.funs
  pub selectors : IsIndex i.graph i.offs e.offs
