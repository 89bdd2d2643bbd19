-- Patterns of a `match` (SMT-LIB 2.7, section 3.6.1): what a pattern fits and binds, or its first error.
use Rattle.std.specs.Prelude.{ℕ, Bool, true, false, not, ◌||◌, ◌==◌, List, [], ◌∷◌, length, Option, Some, None, option_map, unwrap_or, slice_get, Ok, Err}
use Rattle.std.specs.List.{list_all, list_any}
use Rattle.ct_sorts.specs.declared.ids.SortId.{SortId}
use Rattle.ct_sorts.specs.declared.ids.CtorId.{CtorId}
use Rattle.ct_sorts.specs.declared.ids.Kind.{Kind}
use Rattle.ct_sorts.specs.declared.ids.Kind.TheVariants.{Bool as BoolKind, Free, Data, Codata}
use Rattle.ct_sorts.specs.Declarations.{Declarations, Sort}
use Rattle.ct_formulas.specs.declared.tree.Pattern.{Pattern}
use Rattle.ct_formulas.specs.declared.tree.Pattern.TheVariants.{Ctor, Any}
use Rattle.ct_instances.specs.declared.among.NamedCtor.{NamedCtor}
use Rattle.ct_instances.specs.Among.{ctor_among}
use Rattle.ct_names.specs.Refusals.{unknown_symbol, wrong_count, wrong_sort, foreign_pattern, repeated_variable, out_of_scope}
use Rattle.ct_names.specs.Outcome.{Outcome, and_then, unless_refused}
use Rattle.ct_names.specs.Symbols.{ctor_named, ctor_field_sorts}
use Rattle.ct_names.specs.Parts.{Part, Parts, atom_part, list_part, no_parts, with_part, name_of}
use Rattle.ct_names.specs.Variables.{Variable, variables, present_names, has_repeated}

-- a pattern with the variables that it binds, in order
abbrev pub Binding : Type 0
Binding = Pattern × List Variable

-- the names of variables, none for `_`
abbrev pub variable_names : Parts → List (Option (List ℕ))
variable_names no_parts = []
variable_names (with_part e es) = name_of e ∷ variable_names es

-- a variable that fits every value of the sort
abbrev pub any_pattern : SortId → Option (List ℕ) → Binding
any_pattern side name = (Any, record { name = name; sort = side } ∷ [])

-- the constructor, where it is one of the sort
abbrev pub own_ctor : Option CtorId → Outcome CtorId
own_ctor None = Err foreign_pattern
own_ctor (Some c) = Ok c

-- a constructor that stands alone: it is of the sort, and has no fields
abbrev pub lone_ctor : Declarations → SortId → NamedCtor → Outcome Binding
lone_ctor d side ctor =
    and_then (own_ctor (ctor_among d ctor side)) (λ c.
    unless_refused (length (ctor_field_sorts d c) == 0) wrong_count (Ok (Ctor c, [])))

-- a name that stands alone: a constructor of this name, and else a variable
abbrev pub lone_pattern : Declarations → SortId → List ℕ → Option NamedCtor → Outcome Binding
lone_pattern d side name None = Ok (any_pattern side (Some name))
lone_pattern d side name (Some c) = lone_ctor d side c

-- a constructor with variables: it is of the sort, has as many fields, at least one, and no variable stands twice
abbrev pub ctor_with : Declarations → SortId → List (Option (List ℕ)) → NamedCtor → Outcome Binding
ctor_with d side names ctor =
    and_then (own_ctor (ctor_among d ctor side)) (λ c.
    unless_refused (length names == length (ctor_field_sorts d c)) wrong_count
    (unless_refused (not (length names == 0)) out_of_scope
    (unless_refused (not (has_repeated (present_names names))) repeated_variable
    (Ok (Ctor c, variables names (ctor_field_sorts d c))))))

-- the head of a pattern with variables: a constructor
abbrev pub headed_pattern : Declarations → SortId → List (Option (List ℕ)) → Option NamedCtor → Outcome Binding
headed_pattern d side names None = Err unknown_symbol
headed_pattern d side names (Some c) = ctor_with d side names c

-- a leaf: a name, or `_`, which has no name
abbrev pub leaf_pattern : Declarations → SortId → Option (List ℕ) → Outcome Binding
leaf_pattern d side None = Ok (any_pattern side None)
leaf_pattern d side (Some name) = lone_pattern d side name (ctor_named d name)

-- the constructor that the name is
abbrev pub ctor_at : Declarations → Option (List ℕ) → Option NamedCtor
ctor_at d None = None
ctor_at d (Some name) = ctor_named d name

-- what an expression in the form of a pattern fits and binds, against values of the sort
abbrev pub pattern : Declarations → SortId → Part → Outcome Binding
pattern d side (atom_part a) = leaf_pattern d side (name_of (atom_part a))
pattern d side (list_part no_parts meaning) = Err out_of_scope
pattern d side (list_part (with_part c xs) meaning) = headed_pattern d side (variable_names xs) (ctor_at d (name_of c))

-- the sort, where its values may be matched: a datatype or a codatatype
abbrev pub matchable_kind : SortId → Kind → Outcome SortId
matchable_kind side BoolKind = Err out_of_scope
matchable_kind side Free = Err wrong_sort
matchable_kind side Data = Ok side
matchable_kind side Codata = Ok side

abbrev pub matchable : Declarations → SortId → Outcome SortId
matchable d side = matchable_kind side (unwrap_or (option_map (λ (sort : Sort). sort.kind) (slice_get d.sorts side.0)) BoolKind)

-- the pattern fits everything
abbrev pub fits_all : Pattern → Bool
fits_all Any = true
fits_all (Ctor c) = false

-- the pattern is of this constructor
abbrev pub is_of_ctor : CtorId → Pattern → Bool
is_of_ctor c Any = false
is_of_ctor c (Ctor k) = k.0 == c.0

-- the constructors of the sort
abbrev pub sort_ctors : Declarations → SortId → List CtorId
sort_ctors d side = unwrap_or (option_map (λ (sort : Sort). sort.ctors) (slice_get d.sorts side.0)) []

-- some pattern fits everything, or each constructor of the sort has one
abbrev pub are_exhaustive : Declarations → SortId → List Pattern → Bool
are_exhaustive d side patterns = list_any fits_all patterns || list_all (λ c. list_any (is_of_ctor c) patterns) (sort_ctors d side)
