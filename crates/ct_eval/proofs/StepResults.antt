-- What a step gives, whatever the terms under the term mean: said of the result as a whole, or of its node.
use Rattle.std.proofs.Common.{◌≡◌, List, Result, Ok, Err, IfOk, sym, subst}
use Rattle.ct_sorts.specs.declared.ids.SortId.{SortId}
use Rattle.ct_sorts.specs.Declarations.{Declarations}
use Rattle.ct_values.specs.declared.node.NodeId.{NodeId}
use Rattle.ct_values.specs.Graph.{Nodes}
use Rattle.ct_values.specs.Value.{Value}
use Rattle.ct_terms.specs.declared.ids.TermId.{TermId}
use Rattle.ct_terms.specs.declared.term.Core.{Core}
use Rattle.ct_terms.specs.Terms.{Terms, HasSort}
use Rattle.ct_eval.specs.declared.interp.Interp.{Interp}
use Rattle.ct_eval.specs.Evaluation.{core_value}
use Rattle.ct_eval.specs.EvaluationStep.{AreValued, IsResult, IsNodeFor}

module _ {E : Type 0} (d : Declarations) (i : Interp) (old new : Nodes) (nodes : List NodeId) (core : Core) where
  -- the result is right for each meaning
  abbrev pub IsRightFor : Result NodeId E → Type 0
  IsRightFor r = (terms : Terms) (value : TermId → Value) (sort : SortId) → AreValued d i terms old nodes value → HasSort d terms core sort → IfOk r (IsResult d i new (core_value d i value core) sort)

  -- so its node is
  pub gathered : (r : Result NodeId E) → IsRightFor r → IfOk r (IsNodeFor d i old new nodes core)
  gathered (Ok n) h = h
  gathered (Err e) h = tt

  -- and back
  pub spread : (r : Result NodeId E) → IfOk r (IsNodeFor d i old new nodes core) → IsRightFor r
  spread (Ok n) h = h
  spread (Err e) h = λ terms value sort valued sorted. tt

-- what is right for a kind of term is so for a term of the kind
pub dispatched : {E : Type 0} (d : Declarations) (i : Interp) (old new : Nodes) (nodes : List NodeId) (core kind : Core) (r : Result NodeId E) → core ≡ kind → IfOk r (IsNodeFor d i old new nodes kind) → IsRightFor d i old new nodes core r
dispatched d i old new nodes core kind r is h = spread d i old new nodes core r (subst (λ (k : Core). IfOk r (IsNodeFor d i old new nodes k)) (sym is) h)
