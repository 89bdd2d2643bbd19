-- The sorts of the fields of a generic's constructor.
use Rattle.std.specs.Prelude.{◌≡◌, ℕ, Bool, false, ◌||◌, ◌==◌, List, [], map, Option, Some, None, unwrap_or, slice_get, position, option_map}
use Rattle.std.specs.Global.{Vec}
use Rattle.std.specs.Option.{option_and_then}
use Rattle.ct_generics.specs.Declarations.{Head}
use Rattle.std.specs.List.{list_all, list_any, range_with_len}
use Rattle.ct_generics.specs.Expression.{Expression, parameter, named, applied, head_of}
use Rattle.ct_sorts.specs.declared.ids.SortId.{SortId}
use Rattle.ct_sorts.specs.declared.ids.CtorId.{CtorId}
use Rattle.ct_sorts.specs.declared.ids.GenId.{GenId}
use Rattle.ct_sorts.specs.Declarations.{Declarations, Sort, Constructor}
use Rattle.ct_instances.specs.Among.{origin_of}
use Rattle.ct_instances.specs.Matching.{Assignment, unmatched, all_matched, sorts_for}

-- the sorts of the fields of constructor `i`, over the parameters; every number that is asked for is that of a generic
abbrev pub generic_fields : Declarations → GenId → ℕ → List Expression
generic_fields d g i = unwrap_or (option_and_then (λ (head : Head). slice_get head.ctors i) (slice_get d.declared.heads g.0)) []

-- how many parameters the generic has
abbrev pub generic_params : Declarations → GenId → ℕ
generic_params d g = unwrap_or (option_map (λ (head : Head). head.params) (slice_get d.declared.heads g.0)) 0

-- the parameter occurs in the expression
abbrev pub occurs : ℕ → Expression → Bool
occurs i (parameter j) = i == j
occurs i (named h) = false
occurs i (applied e a) = occurs i e || occurs i a

-- the sorts of the fields determine the sort of the constructor: each parameter occurs in them
abbrev pub is_determined : Declarations → GenId → ℕ → Bool
is_determined d g i = list_all (λ j. list_any (occurs j) (generic_fields d g i)) (range_with_len 0 (generic_params d g))

-- the sort of a constructor; every number that is asked for is that of a constructor
abbrev pub sort_of_ctor : Declarations → CtorId → SortId
sort_of_ctor d c = unwrap_or (option_map (λ (ctor : Constructor). ctor.sort) (slice_get d.ctors c.0)) (record { 0 = 0 })

-- the index of a constructor among those of the sort
abbrev pub index_among : Declarations → SortId → CtorId → ℕ
index_among d s c = unwrap_or (position (λ (k : CtorId). k.0 == c.0) (unwrap_or (option_map (λ (sort : Sort). sort.ctors) (slice_get d.sorts s.0)) [])) 0

-- the sorts of its fields determine the constructor's own; so it is for each constructor of a sort without arguments
abbrev pub is_ctor_determined : Declarations → CtorId → Bool
is_ctor_determined d c = is_determined d (record { 0 = unwrap_or (head_of (origin_of d (sort_of_ctor d c))) 0 }) (index_among d (sort_of_ctor d c) c)

-- what the first fields of the constructor say of the parameters, where they stand beside these sorts
abbrev pub field_matches : Declarations → GenId → ℕ → List SortId → Option Assignment
field_matches d g i sorts = all_matched (generic_fields d g i) (map (origin_of d) sorts) (unmatched (generic_params d g))

-- the sorts with these numbers are the sorts for which the parameters stand, where the fields match and each parameter was matched
abbrev pub IsMatched : Declarations → Option Assignment → Option (Vec SortId) → Type 0
IsMatched d found None = option_and_then sorts_for found ≡ None
IsMatched d found (Some sorts) = option_and_then sorts_for found ≡ Some (map (origin_of d) sorts.items)
