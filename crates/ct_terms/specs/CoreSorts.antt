-- The sort of a term without its table (SMT-LIB 2.7, sections 3.6 and 5.3).
use Rattle.std.specs.Prelude.{◌≡◌, List, [], ◌∷◌, Some, option_map, unwrap_or, slice_get}
use Rattle.std.specs.List.{AllZip}
use Rattle.ct_sorts.specs.declared.ids.SelId.{SelId}
use Rattle.ct_sorts.specs.declared.ids.SortId.{SortId}
use Rattle.ct_sorts.specs.Declarations.{Declarations, Constructor, Selector, Function, bool_sort}
use Rattle.ct_terms.specs.CoreTree.{CoreTree, CoreTrees, con, sel, test, apply, equation, negation, conjunction, disjunction, equivalence, choice, no_trees, with_tree}

-- the field of the selector has this sort
abbrev pub IsFieldSort : Declarations → SelId → SortId → Type 0
IsFieldSort d s sort = (selector : Selector) × (slice_get d.sels s.0 ≡ Some selector) × (selector.sort ≡ sort)

-- the fields of the selectors have these sorts, one for one
abbrev pub AreFieldSorts : Declarations → List SelId → List SortId → Type 0
AreFieldSorts d sels sorts = AllZip (IsFieldSort d) sels sorts

-- there is at least one tree
abbrev pub HasSome : CoreTrees → Type 0
HasSome no_trees = ⊥
HasSome (with_tree t ts) = Unit {0}

abbrev mutual
  -- the tree is well sorted, and has this sort: one line a kind of term
  pub HasTreeSort : Declarations → CoreTree → SortId → Type 0
  HasTreeSort d (con c ts) sort = (ctor : Constructor) × (fields : List SortId) × (slice_get d.ctors c.0 ≡ Some ctor) × AreFieldSorts d ctor.sels fields × HaveTreeSorts d ts fields × (ctor.sort ≡ sort)
  HasTreeSort d (sel s t) sort = (selector : Selector) × (ctor : Constructor) × (slice_get d.sels s.0 ≡ Some selector) × (slice_get d.ctors selector.ctor.0 ≡ Some ctor) × HasTreeSort d t ctor.sort × (selector.sort ≡ sort)
  HasTreeSort d (test c t) sort = (ctor : Constructor) × (slice_get d.ctors c.0 ≡ Some ctor) × HasTreeSort d t ctor.sort × (bool_sort ≡ sort)
  HasTreeSort d (apply f ts) sort = (function : Function) × (slice_get d.functions f.0 ≡ Some function) × HaveTreeSorts d ts function.args × (function.result ≡ sort)
  HasTreeSort d (equation a b) sort = (side : SortId) × HasTreeSort d a side × HasTreeSort d b side × (side ≡ bool_sort → ⊥) × (bool_sort ≡ sort)
  HasTreeSort d (negation t) sort = HasTreeSort d t bool_sort × (bool_sort ≡ sort)
  HasTreeSort d (conjunction ts) sort = HasSome ts × AreBooleanTrees d ts × (bool_sort ≡ sort)
  HasTreeSort d (disjunction ts) sort = HasSome ts × AreBooleanTrees d ts × (bool_sort ≡ sort)
  HasTreeSort d (equivalence a b) sort = HasTreeSort d a bool_sort × HasTreeSort d b bool_sort × (bool_sort ≡ sort)
  HasTreeSort d (choice c a b) sort = HasTreeSort d c bool_sort × HasTreeSort d a sort × HasTreeSort d b sort

  -- the trees have these sorts, one for one
  pub HaveTreeSorts : Declarations → CoreTrees → List SortId → Type 0
  HaveTreeSorts d no_trees [] = Unit {0}
  HaveTreeSorts d no_trees (s ∷ sorts) = ⊥
  HaveTreeSorts d (with_tree t ts) [] = ⊥
  HaveTreeSorts d (with_tree t ts) (s ∷ sorts) = HasTreeSort d t s × HaveTreeSorts d ts sorts

  -- every tree is Boolean
  pub AreBooleanTrees : Declarations → CoreTrees → Type 0
  AreBooleanTrees d no_trees = Unit {0}
  AreBooleanTrees d (with_tree t ts) = HasTreeSort d t bool_sort × AreBooleanTrees d ts

-- the sort that a tree has where it is well sorted: it is read off its head
abbrev pub tree_sort : Declarations → CoreTree → SortId
tree_sort d (con c ts) = unwrap_or (option_map (λ (ctor : Constructor). ctor.sort) (slice_get d.ctors c.0)) bool_sort
tree_sort d (sel s t) = unwrap_or (option_map (λ (selector : Selector). selector.sort) (slice_get d.sels s.0)) bool_sort
tree_sort d (apply f ts) = unwrap_or (option_map (λ (function : Function). function.result) (slice_get d.functions f.0)) bool_sort
tree_sort d (choice c a b) = tree_sort d a
tree_sort d _ = bool_sort
