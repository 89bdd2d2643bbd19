-- The values of terms in a model, as they are written (SMT-LIB 2.7, section 4.2.6, `get-value`).
use Rattle.std.specs.Prelude.{◌≡◌, ℕ, List, [], ◌∷◌, Ok}
use Rattle.std.specs.List.{AllZip}
use Rattle.ct_sexpr.specs.Expression.{Expression}
use Rattle.ct_sexpr.specs.Written.{written}
use Rattle.ct_sexpr.specs.View.{expression_of}
use Rattle.ct_sexpr.specs.declared.sexpr.Sexpr.{Sexpr}
use Rattle.ct_formulas.specs.Formula.{Formula}
use Rattle.ct_values.specs.declared.node.NodeId.{NodeId}
use Rattle.ct_values.specs.Graph.{Nodes}
use Rattle.ct_values.specs.Agreement.{AgreeAlways, point, node_point}
use Rattle.ct_values.specs.Fitting.{FitsGraph}
use Rattle.ct_value_text.specs.ValueText.{IsValueText}
use Rattle.ct_eval.specs.declared.interp.Interp.{Interp}
use Rattle.ct_meaning.specs.Meaning.{eval}
use Rattle.ct_names.specs.Outcome.{Sorted}
use Rattle.ct_names.specs.Elaboration.{elaborated}
use Rattle.ct_names.specs.Needs.{ends_with}
use Rattle.ct_names.specs.Refusals.{out_of_scope}
use Rattle.ct_model.specs.Listed.{listed}
use Rattle.ct_stack.specs.Stack.{Context}

-- the text is that of a node that is equal to what the formula means in the interpretation
pub record IsMeaningText (c : Context) (i : Interp) (formula : Formula) (text : List ℕ) : Type 0 where
  pub graph : Nodes
  pub fits : FitsGraph c.declarations graph
  pub node : NodeId
  pub equal : AgreeAlways (node_point graph node) (point i.graph (eval c.declarations i c.bodies [] formula))
  pub text_is : IsValueText c.declarations graph node text

-- the term beside its value, `(t v)`
pub record IsValuePair (c : Context) (i : Interp) (t : Expression) (text : List ℕ) : Type 0 where
  pub term : Sorted
  pub means : ends_with out_of_scope (elaborated c.declarations [] t) ≡ Ok term
  pub value : List ℕ
  pub value_is : IsMeaningText c i term.0 value
  pub text_is : text ≡ listed (written t ∷ (value ∷ []))

-- each term beside its value, `((t v) ..)`
pub record AreValues (c : Context) (i : Interp) (ts : List Expression) (text : List ℕ) : Type 0 where
  pub pairs : List (List ℕ)
  pub pairs_are : AllZip (IsValuePair c i) ts pairs
  pub text_is : text ≡ listed pairs

-- each expression in memory beside the value of the formula there
pub record IsPairOf (c : Context) (i : Interp) (expr : Sexpr) (formula : Formula) (text : List ℕ) : Type 0 where
  pub value : List ℕ
  pub value_is : IsMeaningText c i formula value
  pub text_is : text ≡ listed (written (expression_of expr) ∷ (value ∷ []))

-- each expression, formula and text, one for one
abbrev pub ArePairs : Context → Interp → List Sexpr → List Formula → List (List ℕ) → Type 0
ArePairs c i [] [] [] = Unit {0}
ArePairs c i (e ∷ es) (f ∷ fs) (t ∷ ts) = IsPairOf c i e f t × ArePairs c i es fs ts
ArePairs c i es fs ts = ⊥

pub record AreValuesOf (c : Context) (i : Interp) (exprs : List Sexpr) (formulas : List Formula) (text : List ℕ) : Type 0 where
  pub pairs : List (List ℕ)
  pub pairs_are : ArePairs c i exprs formulas pairs
  pub text_is : text ≡ listed pairs
