-- The sort of a term as a tree: there is one at most, it is read off the head, and trees of a well-sorted table have theirs.
use Rattle.std.proofs.Common.{◌≡◌, ℕ, zero, suc, ◌<◌, List, [], ◌∷◌, length, map, Option, option_map, unwrap_or, refl, sym, ap, subst, ◌∙◌, arith}
use Rattle.std.specs.List.{AllZip, AllByRecursion}
use Rattle.std.proofs.lemmas.List.Elements.{recursion_from_All}
use Rattle.ct_sorts.specs.declared.ids.SelId.{SelId}
use Rattle.ct_sorts.specs.declared.ids.SortId.{SortId}
use Rattle.ct_sorts.specs.Declarations.{Declarations, Constructor, Selector, Function, bool_sort}
use Rattle.ct_sorts.specs.Grown.{Extends}
use Rattle.ct_terms.specs.declared.ids.TermId.{TermId}
use Rattle.ct_terms.specs.declared.term.Core.{Core}
use Rattle.ct_terms.specs.declared.term.Core.TheVariants.{Con, Sel, Test, Apply, Eq, Not, And, Or, Iff, Ite}
use Rattle.ct_terms.specs.Children.{HasArgumentsBelow}
use Rattle.ct_terms.specs.Terms.{Terms, IsOfSort, IsBoolean, IsOfField, HasSort, AreSorted, AreOrdered}
use Rattle.ct_terms.specs.CoreTree.{CoreTree, CoreTrees, con, sel, test, apply, equation, negation, conjunction, disjunction, equivalence, choice, no_trees, with_tree, trees_of, tree_layer, tree_of_entry, tree_below, term_at}
use Rattle.ct_terms.specs.CoreSorts.{AreFieldSorts, HasSome, HasTreeSort, HaveTreeSorts, AreBooleanTrees, tree_sort}
use Rattle.ct_terms.proofs.SortLemmas.{slice_get-longer}

-- a tree that has a sort has the one that is read off it
pub HasTreeSort-read : (d : Declarations) (t : CoreTree) (sort : SortId) → HasTreeSort d t sort → tree_sort d t ≡ sort
HasTreeSort-read d (con c ts) sort h = ap (λ (o : Option Constructor). unwrap_or (option_map (λ (ctor : Constructor). ctor.sort) o) bool_sort) h.2 ∙ h.5
HasTreeSort-read d (sel s t) sort h = ap (λ (o : Option Selector). unwrap_or (option_map (λ (selector : Selector). selector.sort) o) bool_sort) h.2 ∙ h.5
HasTreeSort-read d (test c t) sort h = h.3
HasTreeSort-read d (apply f ts) sort h = ap (λ (o : Option Function). unwrap_or (option_map (λ (function : Function). function.result) o) bool_sort) h.1 ∙ h.3
HasTreeSort-read d (equation a b) sort h = h.4
HasTreeSort-read d (negation t) sort h = h.1
HasTreeSort-read d (conjunction ts) sort h = h.2
HasTreeSort-read d (disjunction ts) sort h = h.2
HasTreeSort-read d (equivalence a b) sort h = h.2
HasTreeSort-read d (choice c a b) sort h = HasTreeSort-read d a sort h.1

-- so it has one sort
pub HasTreeSort-one : (d : Declarations) (t : CoreTree) (r s : SortId) → HasTreeSort d t r → HasTreeSort d t s → r ≡ s
HasTreeSort-one d t r s h k = sym (HasTreeSort-read d t r h) ∙ HasTreeSort-read d t s k

-- fields keep their sorts with more declarations
pub AreFieldSorts-extends : (later earlier : Declarations) (sels : List SelId) (sorts : List SortId) → Extends later earlier → AreFieldSorts earlier sels sorts → AreFieldSorts later sels sorts
AreFieldSorts-extends later earlier [] [] extends h = h
AreFieldSorts-extends later earlier [] (r ∷ sorts) extends h = h
AreFieldSorts-extends later earlier (s ∷ sels) [] extends h = h
AreFieldSorts-extends later earlier (s ∷ sels) (r ∷ sorts) extends h = (
  (h.0.0, slice_get-longer later.sels earlier.sels s.0 h.0.0 extends.sels h.0.1, h.0.2),
  AreFieldSorts-extends later earlier sels sorts extends h.1,
)

-- a tree keeps its sort with more declarations
module _ (later earlier : Declarations) (extends : Extends later earlier) where
  mutual
    pub HasTreeSort-extends : (t : CoreTree) (sort : SortId) → HasTreeSort earlier t sort → HasTreeSort later t sort
    HasTreeSort-extends (con c ts) sort h = (
      h.0,
      h.1,
      slice_get-longer later.ctors earlier.ctors c.0 h.0 extends.ctors h.2,
      AreFieldSorts-extends later earlier h.0.sels h.1 extends h.3,
      HaveTreeSorts-extends ts h.1 h.4,
      h.5,
    )
    HasTreeSort-extends (sel s t) sort h = (
      h.0,
      h.1,
      slice_get-longer later.sels earlier.sels s.0 h.0 extends.sels h.2,
      slice_get-longer later.ctors earlier.ctors h.0.ctor.0 h.1 extends.ctors h.3,
      HasTreeSort-extends t h.1.sort h.4,
      h.5,
    )
    HasTreeSort-extends (test c t) sort h = (h.0, slice_get-longer later.ctors earlier.ctors c.0 h.0 extends.ctors h.1, HasTreeSort-extends t h.0.sort h.2, h.3)
    HasTreeSort-extends (apply f ts) sort h = (h.0, slice_get-longer later.functions earlier.functions f.0 h.0 extends.functions h.1, HaveTreeSorts-extends ts h.0.args h.2, h.3)
    HasTreeSort-extends (equation a b) sort h = (h.0, HasTreeSort-extends a h.0 h.1, HasTreeSort-extends b h.0 h.2, h.3, h.4)
    HasTreeSort-extends (negation t) sort h = (HasTreeSort-extends t bool_sort h.0, h.1)
    HasTreeSort-extends (conjunction ts) sort h = (h.0, AreBooleanTrees-extends ts h.1, h.2)
    HasTreeSort-extends (disjunction ts) sort h = (h.0, AreBooleanTrees-extends ts h.1, h.2)
    HasTreeSort-extends (equivalence a b) sort h = (HasTreeSort-extends a bool_sort h.0, HasTreeSort-extends b bool_sort h.1, h.2)
    HasTreeSort-extends (choice c a b) sort h = (HasTreeSort-extends c bool_sort h.0, HasTreeSort-extends a sort h.1, HasTreeSort-extends b sort h.2)

    HaveTreeSorts-extends : (ts : CoreTrees) (sorts : List SortId) → HaveTreeSorts earlier ts sorts → HaveTreeSorts later ts sorts
    HaveTreeSorts-extends no_trees [] h = h
    HaveTreeSorts-extends no_trees (s ∷ sorts) h = h
    HaveTreeSorts-extends (with_tree t ts) [] h = h
    HaveTreeSorts-extends (with_tree t ts) (s ∷ sorts) h = (HasTreeSort-extends t s h.0, HaveTreeSorts-extends ts sorts h.1)

    AreBooleanTrees-extends : (ts : CoreTrees) → AreBooleanTrees earlier ts → AreBooleanTrees later ts
    AreBooleanTrees-extends no_trees h = h
    AreBooleanTrees-extends (with_tree t ts) h = (HasTreeSort-extends t bool_sort h.0, AreBooleanTrees-extends ts h.1)

-- one layer of a well-sorted term over trees of the sorts of the terms under it
module _ (d : Declarations) (table : Terms) (n : ℕ) (tree : TermId → CoreTree) (sorted : (t : TermId) (sort : SortId) → t.0 < n → IsOfSort table t sort → HasTreeSort d (tree t) sort) where
  -- the sorts of the fields, and the trees of the arguments
  fields_sorted : (args : List TermId) (sels : List SelId) → AllByRecursion (λ t. t.0 < n) args → AllZip (IsOfField d table) args sels → (sorts : List SortId) × AreFieldSorts d sels sorts × HaveTreeSorts d (trees_of (map tree args)) sorts
  fields_sorted [] [] below h = ([], tt, tt)
  fields_sorted [] (s ∷ sels) below h = absurd h
  fields_sorted (t ∷ args) [] below h = absurd h
  fields_sorted (t ∷ args) (s ∷ sels) below h =
      let rest = fields_sorted args sels below.1 h.1 in
      let sort = h.0.selector.sort in
      (sort ∷ rest.0, ((h.0.selector, h.0.declared, refl), rest.1), (sorted t sort below.0 h.0.sorted, rest.2))

  args_sorted : (args : List TermId) (sorts : List SortId) → AllByRecursion (λ t. t.0 < n) args → AllZip (IsOfSort table) args sorts → HaveTreeSorts d (trees_of (map tree args)) sorts
  args_sorted [] [] below h = tt
  args_sorted [] (s ∷ sorts) below h = absurd h
  args_sorted (t ∷ args) [] below h = absurd h
  args_sorted (t ∷ args) (s ∷ sorts) below h = (sorted t s below.0 h.0, args_sorted args sorts below.1 h.1)

  booleans_sorted : (args : List TermId) → AllByRecursion (λ t. t.0 < n) args → AllByRecursion (IsBoolean table) args → AreBooleanTrees d (trees_of (map tree args))
  booleans_sorted [] below h = tt
  booleans_sorted (t ∷ args) below h = (sorted t bool_sort below.0 h.0, booleans_sorted args below.1 h.1)

  some_trees : (args : List TermId) → 0 < length args → HasSome (trees_of (map tree args))
  some_trees [] h = absurd (omega (arith, h))
  some_trees (t ∷ args) h = tt

  layer_sorted : (core : Core) (sort : SortId) → HasArgumentsBelow n core → HasSort d table core sort → HasTreeSort d (tree_layer tree core) sort
  layer_sorted (Con c args) sort below h =
      let fields = fields_sorted args h.ctor.sels below h.fields in
      (h.ctor, fields.0, h.declared, fields.1, fields.2, sym h.result)
  layer_sorted (Sel s t) sort below h = (h.selector, h.ctor, h.declared, h.constructor, sorted t h.ctor.sort below.0 h.sorted, sym h.result)
  layer_sorted (Test c t) sort below h = (h.ctor, h.declared, sorted t h.ctor.sort below.0 h.sorted, sym h.result)
  layer_sorted (Apply f args) sort below h = (h.function, h.declared, args_sorted args h.function.args below h.sorted, sym h.result)
  layer_sorted (Eq a b) sort below h = (h.side, sorted a h.side below.0 h.left, sorted b h.side below.1.0 h.right, h.other, sym h.result)
  layer_sorted (Not t) sort below h = (sorted t bool_sort below.0 h.0, sym h.1)
  layer_sorted (And args) sort below h = (some_trees args h.some, booleans_sorted args below (recursion_from_All (IsBoolean table) args h.booleans), sym h.result)
  layer_sorted (Or args) sort below h = (some_trees args h.some, booleans_sorted args below (recursion_from_All (IsBoolean table) args h.booleans), sym h.result)
  layer_sorted (Iff a b) sort below h = (sorted a bool_sort below.0 h.0, sorted b bool_sort below.1.0 h.1, sym h.2)
  layer_sorted (Ite c a b) sort below h = (sorted c bool_sort below.0 h.0, sorted a sort below.1.0 h.1, sorted b sort below.1.1.0 h.2)

-- a term of a well-sorted table has its sort as a tree
tree_below-sorted : (d : Declarations) (table : Terms) → AreOrdered table → AreSorted d table → (n : ℕ) (t : TermId) (sort : SortId) → t.0 < n → IsOfSort table t sort → HasTreeSort d (tree_below n table t) sort
unfolding tree_below
tree_below-sorted d table ordered all zero t sort below h = absurd (omega (arith, below))
tree_below-sorted d table ordered all (suc n) t sort below h =
    subst (λ (o : Option (Core × SortId)). HasTreeSort d (tree_of_entry (tree_below n table) o) sort) (sym h.1)
    (layer_sorted d table t.0 (tree_below n table) (λ u s under of. tree_below-sorted d table ordered all n u s (omega (arith, under, below)) of)
    h.0 sort (ordered t.0 h.0 (sort, h.1)) (all t.0 h.0 sort h.1))

pub term_at-sorted : (d : Declarations) (table : Terms) (t : TermId) (sort : SortId) → AreOrdered table → AreSorted d table → IsOfSort table t sort → HasTreeSort d (term_at table t) sort
term_at-sorted d table t sort ordered all h = tree_below-sorted d table ordered all (suc t.0) t sort (omega arith) h
