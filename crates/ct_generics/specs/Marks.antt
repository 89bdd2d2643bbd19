-- Rounds of marking over a graph of expressions.
use Rattle.std.specs.Prelude.{◌≡◌, ℕ, suc, Bool, true, false, List, [], ◌∷◌, Option, Some, None, slice_get, get_or}
use Rattle.std.specs.List.{list_all, list_any}
use Rattle.ct_generics.specs.declared.kind.Kind.{Kind}
use Rattle.ct_generics.specs.declared.kind.Kind.TheVariants.{Bool as BoolKind, Free, Data, Codata}
use Rattle.ct_generics.specs.declared.graph.Vertex.{Vertex}
use Rattle.ct_generics.specs.Graph.{IsFoundedAt}

-- the vertices that are marked
abbrev pub marked : List Bool → ℕ → Bool
marked marks i = get_or marks i false

-- how many are not marked
abbrev pub unmarked : List Bool → ℕ
unmarked [] = 0
unmarked (true ∷ marks) = unmarked marks
unmarked (false ∷ marks) = suc (unmarked marks)

-- an expression of this kind is well founded where the set holds all fields of one of its constructors
abbrev pub is_built_of : Option Kind → (ℕ → Bool) → List (List ℕ) → Bool
is_built_of None set ctors = true
is_built_of (Some BoolKind) set ctors = true
is_built_of (Some Free) set ctors = true
is_built_of (Some Codata) set ctors = true
is_built_of (Some Data) set ctors = list_any (list_all set) ctors

abbrev pub is_built : (ℕ → Bool) → Vertex → Bool
is_built set v = is_built_of v.kind set v.ctors

-- the set holds each vertex that is well founded by what it holds
abbrev pub IsClosedSet : List Vertex → (ℕ → Bool) → Type 0
IsClosedSet g set = (i : ℕ) (v : Vertex) → slice_get g i ≡ Some v → is_built set v ≡ true → set i ≡ true

-- each marked vertex is well founded
abbrev pub AreMarksSound : List Vertex → List Bool → Type 0
AreMarksSound g marks = (i : ℕ) → marked marks i ≡ true → IsFoundedAt g i
