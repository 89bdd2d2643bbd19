-- Variables in scope (SMT-LIB 2.7, section 3.6): parameters of a definition, bindings of `let`, and variables of patterns and of
-- quantifiers.
use Rattle.std.specs.Prelude.{ℕ, suc, Bool, false, ◌||◌, List, [], ◌∷◌, map, Option, Some, None, if◌then◌else◌}
use Rattle.std.specs.List.{list_any}
use Rattle.std.specs.Str.{bytes_eq}
use Rattle.ct_sorts.specs.declared.ids.SortId.{SortId}
use Rattle.ct_sorts.specs.Declarations.{Declarations, IsSort}

-- the name of a variable, none where `_` was written, and its sort
pub record Variable : Type 0 where
  pub name : Option (List ℕ)
  pub sort : SortId

-- the variable has this name
abbrev pub is_named : List ℕ → Option (List ℕ) → Bool
is_named name None = false
is_named name (Some other) = bytes_eq other name

-- the variable with this name that was bound last, by its number counted from the innermost, with its sort
abbrev pub find_from : ℕ → List Variable → List ℕ → Option (ℕ × SortId)
find_from n [] name = None
find_from n (v ∷ scope) name = if is_named name v.name then Some (n, v.sort) else find_from (suc n) scope name

abbrev pub find : List Variable → List ℕ → Option (ℕ × SortId)
find scope name = find_from 0 scope name

-- some name stands twice among these
abbrev pub has_repeated : List (List ℕ) → Bool
has_repeated [] = false
has_repeated (name ∷ names) = list_any (bytes_eq name) names || has_repeated names

-- names with sorts, one for one, as variables
abbrev pub variables : List (Option (List ℕ)) → List SortId → List Variable
variables [] sorts = []
variables (name ∷ names) [] = []
variables (name ∷ names) (sort ∷ sorts) = record { name = name; sort = sort } ∷ variables names sorts

-- the names that are there
abbrev pub present_names : List (Option (List ℕ)) → List (List ℕ)
present_names [] = []
present_names (None ∷ names) = present_names names
present_names (Some name ∷ names) = name ∷ present_names names

-- the sorts of variables
abbrev pub variable_sorts : List Variable → List SortId
variable_sorts scope = map (λ (v : Variable). v.sort) scope

-- the sorts of these variables are there
abbrev pub ScopeIn : Declarations → List Variable → Type 0
ScopeIn d [] = Unit {0}
ScopeIn d (v ∷ scope) = IsSort d v.sort × ScopeIn d scope
