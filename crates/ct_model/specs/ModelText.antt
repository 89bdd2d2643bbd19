-- How a whole model is written (SMT-LIB 2.7, section 4.2.6, `get-model`): a line for each declared function, and a line for each selector
-- that can be wrongly applied.
use Rattle.std.specs.Prelude.{◌≡◌, ℕ, List, ◌∷◌, ◌++◌, Bool, Option, option_map, option_and_then, unwrap_or, length, slice_get, nat_lt, codes}
use Rattle.std.specs.List.{AllZip, filter, range_with_len}
use Rattle.ct_sorts.specs.declared.ids.SortId.{SortId}
use Rattle.ct_sorts.specs.Declarations.{Declarations}
use Rattle.ct_eval.specs.declared.interp.Interp.{Interp}
use Rattle.ct_model.specs.Listed.{lines}
use Rattle.ct_model.specs.TableText.{IsTableText, IsOffText}

-- the sort of the argument of the selector s
abbrev pub argument_sort : Declarations → ℕ → Option SortId
argument_sort d s = option_and_then (λ selector. option_map (λ ctor. ctor.sort) (slice_get d.ctors selector.ctor.0)) (slice_get d.sels s)

-- how many constructors that sort has
abbrev pub constructor_count : Declarations → ℕ → ℕ
constructor_count d s = unwrap_or (option_and_then (λ sort. option_map (λ found. length found.ctors) (slice_get d.sorts sort.0)) (argument_sort d s)) 0

-- the selector can be wrongly applied: the sort of its argument has two or more constructors
abbrev pub can_miss : Declarations → ℕ → Bool
can_miss d s = nat_lt 1 (constructor_count d s)

-- the numbers of the functions, in order of declaration
abbrev pub function_numbers : Declarations → List ℕ
function_numbers d = range_with_len 0 (length d.functions)

-- the numbers of the selectors that can be wrongly applied, in order
abbrev pub off_numbers : Declarations → List ℕ
off_numbers d = filter (can_miss d) (range_with_len 0 (length d.sels))

-- the text of a model: the line `(`, those of the functions, those of the selectors, and `)`, which no byte 10 ends
pub record IsModelText (d : Declarations) (i : Interp) (text : List ℕ) : Type 0 where
  pub tables : List (List ℕ)
  pub tables_are : AllZip (IsTableText d i) (function_numbers d) tables
  pub offs : List (List ℕ)
  pub offs_are : AllZip (IsOffText d i) (off_numbers d) offs
  pub text_is : text ≡ lines (codes "(" ∷ (tables ++ offs)) ++ codes ")"
