-- Reading a model back: the interpretation that a list of items says over declarations, or the first item that is refused and the number
-- of its error.
use Rattle.std.specs.Prelude.{◌≡◌, ℕ, ◌+◌, ◌<◌, ◌⊎◌, true, false, List, [], ◌∷◌, length, Option, Some, None, slice_get, Result, Ok, Err}
use Rattle.ct_sorts.specs.declared.ids.SortId.{SortId}
use Rattle.ct_sorts.specs.Declarations.{Declarations, Function, Selector}
use Rattle.ct_sexpr.specs.Expression.{Expression, leaf, list, Expressions, none, more}
use Rattle.ct_values.specs.Graph.{Nodes}
use Rattle.ct_eval.specs.declared.interp.Table.{Table}
use Rattle.ct_eval.specs.declared.interp.Interp.{Interp}
use Rattle.ct_eval.specs.Interpretation.{IsProper}
use Rattle.ct_card.specs.Sizes.{IsDefaultValue, Table as Sizes}
use Rattle.ct_model.specs.ModelText.{can_miss, off_numbers}
use Rattle.ct_readback.specs.ItemText.{Due, due_function, due_off, all_due, has_form}
use Rattle.ct_readback.specs.ItemAt.{TableValues, values_in, IsItemAt, HasCycle, IsRight, IsRead}

-- the numbers of the errors: an item departs from its form, it does not fit the declarations, and a value of a datatype is cyclic
abbrev pub departs : ℕ
departs = 45

abbrev pub misfits : ℕ
misfits = 46

abbrev pub cyclic : ℕ
cyclic = 47

-- the items of a list
abbrev pub items_of : Expressions → List Expression
items_of none = []
items_of (more e es) = e ∷ items_of es

-- a table without rows, whose default is the default value of the sort
pub record IsDefaultTable (d : Declarations) (sizes : Sizes) (g : Nodes) (s : SortId) (table : Table) : Type 0 where
  pub no_rows : table.rows ≡ []
  pub value : IsDefaultValue d sizes g s.0 table.default

-- The interpretation is what the items say. The table of each function, and of each selector that can be wrongly applied, is that of
-- its item; one of any other selector has no row, and its sort's default value. The sizes are those of the declarations.
pub record IsModel (d : Declarations) (sizes : Sizes) (items : List Expression) (i : Interp) : Type 0 where
  pub proper : IsProper d i
  pub count : length items ≡ length d.functions + length (off_numbers d)
  pub functions : (f : ℕ) (function : Function) (item : Expression) (table : Table)
      → slice_get d.functions f ≡ Some function → slice_get items f ≡ Some item → slice_get i.funs f ≡ Some table
      → IsRead d i.graph (due_function function) item table
  pub offs : (k s : ℕ) (due : Due) (item : Expression) (table : Table)
      → slice_get (off_numbers d) k ≡ Some s → due_off d s ≡ Some due → slice_get items (length d.functions + k) ≡ Some item → slice_get i.offs s ≡ Some table
      → IsRead d i.graph due item table
  pub others : (s : ℕ) (selector : Selector) (table : Table) → can_miss d s ≡ false → slice_get d.sels s ≡ Some selector → slice_get i.offs s ≡ Some table
      → IsDefaultTable d sizes i.graph selector.sort table

-- the item is refused with this number: the lowest that applies
abbrev pub IsRefused : Declarations → Due → Expression → ℕ → Type 0
IsRefused d due e code =
    ((code ≡ departs) × (has_form due e ≡ false))
    ⊎ (((code ≡ misfits) × (has_form due e ≡ true) × ((values : TableValues) → IsItemAt d due e values → ⊥))
    ⊎ ((code ≡ cyclic) × (has_form due e ≡ true) × (values : TableValues) × IsItemAt d due e values × HasCycle d (values_in values)))

-- at this place an item is due and refused; or one is due and missing, or none is due and there is one
abbrev pub IsRefusedAt : Declarations → Option (Option Due) → Option Expression → ℕ → Type 0
IsRefusedAt d (Some (Some due)) (Some item) code = IsRefused d due item code
IsRefusedAt d (Some due) None code = code ≡ departs
IsRefusedAt d None (Some item) code = code ≡ departs
IsRefusedAt d due item code = ⊥

-- an item is due there, and is right
abbrev pub IsRightAt : Declarations → Option (Option Due) → Option Expression → Type 0
IsRightAt d (Some (Some due)) (Some item) = (values : TableValues) × IsRight d due item values
IsRightAt d due item = ⊥

-- the item at this place, counted from 0, is the first that is refused
pub record IsFirstRefused (d : Declarations) (items : List Expression) (place code : ℕ) : Type 0 where
  pub before : (i : ℕ) → i < place → IsRightAt d (slice_get (all_due d) i) (slice_get items i)
  pub here : IsRefusedAt d (slice_get (all_due d) place) (slice_get items place) code

-- an interpretation, or the place and the number of an error
abbrev pub ModelOutcome : Type 0
ModelOutcome = Result Interp (ℕ × ℕ)

-- what the expression reads as; what is no list departs from its form at the first item
abbrev pub ModelReads : Declarations → Sizes → Expression → ModelOutcome → Type 0
ModelReads d sizes (list es) (Ok i) = IsModel d sizes (items_of es) i
ModelReads d sizes (list es) (Err (place, code)) = IsFirstRefused d (items_of es) place code
ModelReads d sizes (leaf a) (Ok i) = ⊥
ModelReads d sizes (leaf a) (Err (place, code)) = (place ≡ 0) × (code ≡ departs)
