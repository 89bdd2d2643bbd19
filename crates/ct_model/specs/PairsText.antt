-- How values are written beside the terms that have them (SMT-LIB 2.7, section 4.2.6, `get-value`).
use Rattle.std.specs.Prelude.{◌≡◌, ℕ, List, [], ◌∷◌, Some, length, slice_get}
use Rattle.std.specs.List.{AllZip, range_with_len}
use Rattle.ct_sorts.specs.Declarations.{Declarations}
use Rattle.ct_sexpr.specs.declared.sexpr.Sexpr.{Sexpr}
use Rattle.ct_sexpr.specs.View.{expression_of}
use Rattle.ct_sexpr.specs.Written.{written}
use Rattle.ct_values.specs.declared.node.NodeId.{NodeId}
use Rattle.ct_values.specs.Graph.{Nodes}
use Rattle.ct_value_text.specs.ValueText.{IsValueText}
use Rattle.ct_model.specs.Listed.{listed}

-- the expression and the value of the node, as `(t v)`
pub record IsPairText (d : Declarations) (g : Nodes) (expr : Sexpr) (node : NodeId) (text : List ℕ) : Type 0 where
  pub value : List ℕ
  pub value_is : IsValueText d g node value
  pub text_is : text ≡ listed (written (expression_of expr) ∷ (value ∷ []))

-- the pair at the index
pub record IsPairAt (d : Declarations) (g : Nodes) (exprs : List Sexpr) (nodes : List NodeId) (index : ℕ) (text : List ℕ) : Type 0 where
  pub expr : Sexpr
  pub at_expr : slice_get exprs index ≡ Some expr
  pub node : NodeId
  pub at_node : slice_get nodes index ≡ Some node
  pub pair : IsPairText d g expr node text

-- each expression beside the value of its node, as `((t v) ..)`
pub record IsPairsText (d : Declarations) (g : Nodes) (exprs : List Sexpr) (nodes : List NodeId) (text : List ℕ) : Type 0 where
  pub texts : List (List ℕ)
  pub pairs_are : AllZip (IsPairAt d g exprs nodes) (range_with_len 0 (length exprs)) texts
  pub text_is : text ≡ listed texts
