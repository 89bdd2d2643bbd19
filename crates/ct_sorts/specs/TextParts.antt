-- The text of a sort, put together from those of its arguments.
use Rattle.std.specs.Prelude.{ℕ, List, [], ◌∷◌, ◌++◌, map, slice_get, unwrap_or}
use Rattle.std.specs.List.{flat_map}
use Rattle.ct_sexpr.specs.Written.{written_name}
use Rattle.ct_sorts.specs.declared.ids.SortId.{SortId}

-- the texts of these sorts
abbrev pub texts_of : List (List ℕ) → List SortId → List (List ℕ)
texts_of texts sorts = map (λ s. unwrap_or (slice_get texts s.0) []) sorts

-- a name, or in parentheses a name and after it each argument with a space before it
abbrev pub text_with : List ℕ → List (List ℕ) → List ℕ
text_with name [] = written_name name
text_with name (arg ∷ args) = 40 ∷ (written_name name ++ (flat_map (λ a. 32 ∷ a) (arg ∷ args) ++ 41 ∷ []))
