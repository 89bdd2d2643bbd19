-- What a term without a table means in an interpretation, by recursion on its tree (SMT-LIB 2.7, section 5.3).
use Rattle.std.specs.Prelude.{not, List, [], ◌∷◌, slice_get, if◌then◌else◌}
use Rattle.std.specs.List.{list_all, list_any}
use Rattle.ct_sorts.specs.Declarations.{Declarations}
use Rattle.ct_values.specs.Value.{Value, construct, values_of}
use Rattle.ct_terms.specs.CoreTree.{CoreTree, CoreTrees, con, sel, test, apply, equation, negation, conjunction, disjunction, equivalence, choice, no_trees, with_tree}
use Rattle.ct_eval.specs.declared.interp.Interp.{Interp}
use Rattle.ct_values.specs.TruthValue.{truth, is_built, is_true}
use Rattle.ct_eval.specs.Evaluation.{is_same, table_value, select}

abbrev mutual
  -- the value of a tree
  pub tree_value : Declarations → Interp → CoreTree → Value
  tree_value d i (con c ts) = construct c (values_of (tree_values d i ts))
  tree_value d i (sel s t) = select i s (slice_get d.sels s.0) (tree_value d i t)
  tree_value d i (test c t) = truth (is_built i.graph c (tree_value d i t))
  tree_value d i (apply f ts) = table_value i (slice_get i.funs f.0) (tree_values d i ts)
  tree_value d i (equation a b) = truth (is_same i.graph (tree_value d i a) (tree_value d i b))
  tree_value d i (negation t) = truth (not (is_true i.graph (tree_value d i t)))
  tree_value d i (conjunction ts) = truth (list_all (is_true i.graph) (tree_values d i ts))
  tree_value d i (disjunction ts) = truth (list_any (is_true i.graph) (tree_values d i ts))
  tree_value d i (equivalence a b) = truth (if is_true i.graph (tree_value d i a) then is_true i.graph (tree_value d i b) else not (is_true i.graph (tree_value d i b)))
  tree_value d i (choice c a b) = if is_true i.graph (tree_value d i c) then tree_value d i a else tree_value d i b

  -- the values of several trees, in order
  pub tree_values : Declarations → Interp → CoreTrees → List Value
  tree_values d i no_trees = []
  tree_values d i (with_tree t ts) = tree_value d i t ∷ tree_values d i ts
