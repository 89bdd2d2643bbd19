-- The value of a term of a table is the value of its tree.
use Rattle.std.proofs.Common.{◌≡◌, ℕ, zero, suc, List, [], ◌∷◌, map, Option, Some, None, slice_get, refl, sym, ap, ◌∙◌}
use Rattle.std.specs.List.{list_all, list_any}
use Rattle.std.proofs.lemmas.List.Folds.{list_all-map}
use Rattle.ct_sorts.specs.declared.ids.SortId.{SortId}
use Rattle.ct_sorts.specs.Declarations.{Declarations}
use Rattle.ct_values.specs.Value.{Value, construct, values_of}
use Rattle.ct_terms.specs.declared.ids.TermId.{TermId}
use Rattle.ct_terms.specs.declared.term.Core.{Core}
use Rattle.ct_terms.specs.declared.term.Core.TheVariants.{Con, Sel, Test, Apply, Eq, Not, And, Or, Iff, Ite}
use Rattle.ct_terms.specs.Terms.{Terms}
use Rattle.ct_terms.specs.CoreTree.{CoreTree, trees_of, tree_layer, tree_of_entry, tree_below, term_at}
use Rattle.ct_eval.specs.declared.interp.Interp.{Interp}
use Rattle.ct_values.specs.TruthValue.{truth, is_true}
use Rattle.ct_eval.specs.Evaluation.{table_value, core_value, layer, value_below, value_of}
use Rattle.ct_eval.specs.TreeValue.{tree_value, tree_values}
use Rattle.ct_eval.proofs.EvaluationLemmas.{list_any-map}

module _ (d : Declarations) (i : Interp) where
  -- the values of trees that are made of a list
  values_made : (tree : TermId → CoreTree) (ts : List TermId) → tree_values d i (trees_of (map tree ts)) ≡ map (λ t. tree_value d i (tree t)) ts
  values_made tree [] = refl
  values_made tree (t ∷ ts) = ap (λ (vs : List Value). tree_value d i (tree t) ∷ vs) (values_made tree ts)

  -- one layer of a tree means what one layer of the term means
  layer_value : (tree : TermId → CoreTree) (core : Core) → tree_value d i (tree_layer tree core) ≡ core_value d i (λ t. tree_value d i (tree t)) core
  layer_value tree (Con c args) = ap (λ (vs : List Value). construct c (values_of vs)) (values_made tree args)
  layer_value tree (Sel s t) = refl
  layer_value tree (Test c t) = refl
  layer_value tree (Apply f args) = ap (table_value i (slice_get i.funs f.0)) (values_made tree args)
  layer_value tree (Eq a b) = refl
  layer_value tree (Not t) = refl
  layer_value tree (And args) = ap truth (ap (list_all (is_true i.graph)) (values_made tree args) ∙ list_all-map (is_true i.graph) (λ t. tree_value d i (tree t)) args)
  layer_value tree (Or args) = ap truth (ap (list_any (is_true i.graph)) (values_made tree args) ∙ list_any-map (is_true i.graph) (λ t. tree_value d i (tree t)) args)
  layer_value tree (Iff a b) = refl
  layer_value tree (Ite c a b) = refl

  entry_value : (tree : TermId → CoreTree) (o : Option (Core × SortId)) → tree_value d i (tree_of_entry tree o) ≡ layer d i (λ t. tree_value d i (tree t)) o
  entry_value tree None = refl
  entry_value tree (Some (core, s)) = layer_value tree core

  below_value : (terms : Terms) (n : ℕ) (t : TermId) → value_below n d i terms t ≡ tree_value d i (tree_below n terms t)
  unfolding value_below tree_below
  below_value terms zero t = refl
  below_value terms (suc n) t =
      let same : value_below n d i terms ≡ (λ u. tree_value d i (tree_below n terms u)) = λ k. λ u. below_value terms n u k in
      ap (λ (f : TermId → Value). layer d i f (slice_get terms t.0)) same ∙ sym (entry_value (tree_below n terms) (slice_get terms t.0))

  pub value_of-tree : (terms : Terms) (t : TermId) → value_of d i terms t ≡ tree_value d i (term_at terms t)
  value_of-tree terms t = below_value terms (suc t.0) t
