-- The value of a well-sorted core term is a value of its sort, and does not see later declarations.
use Rattle.std.proofs.Common.{◌≡◌, Bool, not, List, [], ◌∷◌, Option, Some, slice_get, if◌then◌else◌, refl, ap, subst, ◌∙◌}
use Rattle.std.specs.List.{AllZip, list_all, list_any}
use Rattle.std.proofs.lemmas.Option.{slice_get_within}
use Rattle.ct_lemmas.proofs.Booleans.{by_test}
use Rattle.ct_lemmas.proofs.Lists.{slice_get-prefix}
use Rattle.ct_sorts.specs.declared.ids.SelId.{SelId}
use Rattle.ct_sorts.specs.declared.ids.SortId.{SortId}
use Rattle.ct_sorts.specs.Declarations.{Declarations, Selector, bool_sort}
use Rattle.ct_sorts.specs.Grown.{Extends}
use Rattle.ct_values.specs.Value.{Value, construct, values_of}
use Rattle.ct_values.specs.ValueSort.{HasValueSort}
use Rattle.ct_terms.specs.CoreTree.{CoreTree, CoreTrees, con, sel, test, apply, equation, negation, conjunction, disjunction, equivalence, choice, no_trees, with_tree}
use Rattle.ct_terms.specs.CoreSorts.{HasTreeSort, HaveTreeSorts, AreBooleanTrees}
use Rattle.ct_eval.specs.declared.interp.Interp.{Interp}
use Rattle.ct_values.specs.TruthValue.{truth, is_built, is_true}
use Rattle.ct_eval.specs.Evaluation.{is_same, table_value, select}
use Rattle.ct_eval.specs.TreeValue.{tree_value, tree_values}
use Rattle.ct_meaning.proofs.MeaningFacts.{Facts}

module _ (d : Declarations) (i : Interp) (facts : Facts d i) where
  answer : (b : Bool) (sort : SortId) → bool_sort ≡ sort → HasValueSort d i.graph (truth b) sort
  answer b sort is = subst (HasValueSort d i.graph (truth b)) is (facts.truth_sorted b)

  mutual
    pub tree_value-sorted : (t : CoreTree) (sort : SortId) → HasTreeSort d t sort → HasValueSort d i.graph (tree_value d i t) sort
    tree_value-sorted (con c ts) sort h = subst (HasValueSort d i.graph (tree_value d i (con c ts))) h.5 (facts.construct_sorted c h.0 h.1 (tree_values d i ts) h.2 h.3 (tree_values-sorted ts h.1 h.4))
    tree_value-sorted (sel s t) sort h = subst (HasValueSort d i.graph (tree_value d i (sel s t))) h.5 (facts.select_sorted s h.0 h.1 (tree_value d i t) h.2 h.3 (tree_value-sorted t h.1.sort h.4))
    tree_value-sorted (test c t) sort h = answer (is_built i.graph c (tree_value d i t)) sort h.3
    tree_value-sorted (apply f ts) sort h = subst (HasValueSort d i.graph (tree_value d i (apply f ts))) h.3 (facts.given_sorted f h.0 (tree_values d i ts) h.1)
    tree_value-sorted (equation a b) sort h = answer _ sort h.4
    tree_value-sorted (negation t) sort h = answer _ sort h.1
    tree_value-sorted (conjunction ts) sort h = answer _ sort h.2
    tree_value-sorted (disjunction ts) sort h = answer _ sort h.2
    tree_value-sorted (equivalence a b) sort h = answer _ sort h.2
    tree_value-sorted (choice c a b) sort h =
        by_test (λ (v : Value). HasValueSort d i.graph v sort) (is_true i.graph (tree_value d i c)) (tree_value d i a) (tree_value d i b) (λ e. tree_value-sorted a sort h.1) (λ e. tree_value-sorted b sort h.2)

    tree_values-sorted : (ts : CoreTrees) (sorts : List SortId) → HaveTreeSorts d ts sorts → AllZip (HasValueSort d i.graph) (tree_values d i ts) sorts
    tree_values-sorted no_trees [] h = tt
    tree_values-sorted no_trees (s ∷ sorts) h = absurd h
    tree_values-sorted (with_tree t ts) [] h = absurd h
    tree_values-sorted (with_tree t ts) (s ∷ sorts) h = (tree_value-sorted t s h.0, tree_values-sorted ts sorts h.1)

module _ (later earlier : Declarations) (i : Interp) (extends : Extends later earlier) where
  same_selector : (s : SelId) (selector : Selector) → slice_get earlier.sels s.0 ≡ Some selector → slice_get later.sels s.0 ≡ slice_get earlier.sels s.0
  same_selector s selector declared =
      ap (λ (ss : List Selector). slice_get ss s.0) extends.sels.1 ∙ slice_get-prefix earlier.sels extends.sels.0 s.0 (slice_get_within earlier.sels s.0 selector declared)

  mutual
    pub tree_value-lasting : (t : CoreTree) (sort : SortId) → HasTreeSort earlier t sort → tree_value later i t ≡ tree_value earlier i t
    tree_value-lasting (con c ts) sort h = ap (λ (vs : List Value). construct c (values_of vs)) (tree_values-lasting ts h.1 h.4)
    tree_value-lasting (sel s t) sort h = ap (select i s (slice_get later.sels s.0)) (tree_value-lasting t h.1.sort h.4) ∙ ap (λ (o : Option Selector). select i s o (tree_value earlier i t)) (same_selector s h.0 h.2)
    tree_value-lasting (test c t) sort h = ap (λ (v : Value). truth (is_built i.graph c v)) (tree_value-lasting t h.0.sort h.2)
    tree_value-lasting (apply f ts) sort h = ap (table_value i (slice_get i.funs f.0)) (tree_values-lasting ts h.0.args h.2)
    tree_value-lasting (equation a b) sort h =
        ap (λ (v : Value). truth (is_same i.graph v (tree_value later i b))) (tree_value-lasting a h.0 h.1) ∙ ap (λ (v : Value). truth (is_same i.graph (tree_value earlier i a) v)) (tree_value-lasting b h.0 h.2)
    tree_value-lasting (negation t) sort h = ap (λ (v : Value). truth (not (is_true i.graph v))) (tree_value-lasting t bool_sort h.0)
    tree_value-lasting (conjunction ts) sort h = ap (λ (vs : List Value). truth (list_all (is_true i.graph) vs)) (booleans-lasting ts h.1)
    tree_value-lasting (disjunction ts) sort h = ap (λ (vs : List Value). truth (list_any (is_true i.graph) vs)) (booleans-lasting ts h.1)
    tree_value-lasting (equivalence a b) sort h =
        let iff : Value → Value → Value = λ v w. truth (if is_true i.graph v then is_true i.graph w else not (is_true i.graph w)) in
        ap (λ (v : Value). iff v (tree_value later i b)) (tree_value-lasting a bool_sort h.0) ∙ ap (iff (tree_value earlier i a)) (tree_value-lasting b bool_sort h.1)
    tree_value-lasting (choice c a b) sort h =
        let ite : Value → Value → Value → Value = λ u v w. if is_true i.graph u then v else w in
        ap (λ (v : Value). ite v (tree_value later i a) (tree_value later i b)) (tree_value-lasting c bool_sort h.0)
        ∙ ap (λ (v : Value). ite (tree_value earlier i c) v (tree_value later i b)) (tree_value-lasting a sort h.1)
        ∙ ap (ite (tree_value earlier i c) (tree_value earlier i a)) (tree_value-lasting b sort h.2)

    tree_values-lasting : (ts : CoreTrees) (sorts : List SortId) → HaveTreeSorts earlier ts sorts → tree_values later i ts ≡ tree_values earlier i ts
    tree_values-lasting no_trees sorts h = refl
    tree_values-lasting (with_tree t ts) [] h = absurd h
    tree_values-lasting (with_tree t ts) (s ∷ sorts) h = ap (λ (v : Value). v ∷ tree_values later i ts) (tree_value-lasting t s h.0) ∙ ap (λ (vs : List Value). tree_value earlier i t ∷ vs) (tree_values-lasting ts sorts h.1)

    booleans-lasting : (ts : CoreTrees) → AreBooleanTrees earlier ts → tree_values later i ts ≡ tree_values earlier i ts
    booleans-lasting no_trees h = refl
    booleans-lasting (with_tree t ts) h = ap (λ (v : Value). v ∷ tree_values later i ts) (tree_value-lasting t bool_sort h.0) ∙ ap (λ (vs : List Value). tree_value earlier i t ∷ vs) (booleans-lasting ts h.1)
