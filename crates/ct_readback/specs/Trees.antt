-- Values that are written as constructor terms.
use Rattle.std.specs.Prelude.{Bool, true, false, ◌&&◌, ◌||◌, List, [], ◌∷◌, Option, Some, None, option_map, option_and_then, codes}
use Rattle.ct_sorts.specs.declared.ids.SortId.{SortId}
use Rattle.ct_sorts.specs.declared.ids.CtorId.{CtorId}
use Rattle.ct_sorts.specs.Declarations.{Declarations}
use Rattle.ct_sexpr.specs.Expression.{Expression, leaf, list, Expressions, none, more}
use Rattle.ct_values.specs.Value.{Value, Values, element, construct, no_values, with_value}
use Rattle.ct_names.specs.Symbols.{ctor_field_sorts}
use Rattle.ct_readback.specs.Parts.{or_other, option_both, are_some, parts_after}
use Rattle.ct_readback.specs.Heads.{is_head, is_constructor_head, constructor_at, element_at}

-- The expression has the form of a constructor term: a constructor or an element, or a constructor before such terms, one at least.
abbrev mutual
  pub is_tree : Expression → Bool
  is_tree (leaf a) = is_head (leaf a)
  is_tree (list es) = is_head (list es) || is_application es

  pub is_application : Expressions → Bool
  is_application none = false
  is_application (more e es) = is_constructor_head e && (are_some es && are_trees es)

  pub are_trees : Expressions → Bool
  are_trees none = true
  are_trees (more e es) = is_tree e && are_trees es

-- the constructor alone, where it has no fields
abbrev pub lone : List SortId → CtorId → Option Value
lone [] c = Some (construct c no_values)
lone (s ∷ ss) c = None

abbrev pub lone_at : Declarations → SortId → Expression → Option Value
lone_at d s e = option_and_then (λ c. lone (ctor_field_sorts d c) c) (constructor_at d s e)

-- the element that the expression says
abbrev pub element_value : Declarations → SortId → Expression → Option Value
element_value d s e = option_map (element s) (option_and_then (element_at d s) (parts_after (codes "as") e))

-- The value of this sort that the expression says: names are those of the declarations, and each field has a value of its sort.
abbrev mutual
  pub tree_at : Declarations → SortId → Expression → Option Value
  tree_at d s (leaf a) = lone_at d s (leaf a)
  tree_at d s (list es) = or_other (element_value d s (list es)) (or_other (lone_at d s (list es)) (application_at d s es))

  pub application_at : Declarations → SortId → Expressions → Option Value
  application_at d s none = None
  application_at d s (more e es) = option_and_then (λ c. option_map (construct c) (trees_at d (ctor_field_sorts d c) es)) (constructor_at d s e)

  -- the values of these sorts that the expressions say, one for one
  pub trees_at : Declarations → List SortId → Expressions → Option Values
  trees_at d [] none = Some no_values
  trees_at d (s ∷ ss) none = None
  trees_at d [] (more e es) = None
  trees_at d (s ∷ ss) (more e es) = option_both with_value (tree_at d s e) (trees_at d ss es)
