-- The items of a model: `(define-fun f ((@x0 S) ..) T body)` for each function, and `(@off s ((@x0 S)) T body)` for what a selector gives
-- where it is wrongly applied.
use Rattle.std.specs.Prelude.{ℕ, suc, Bool, true, false, not, ◌&&◌, ◌||◌, ◌==◌, List, [], ◌∷◌, ◌++◌, map, Option, Some, option_map, option_and_then, unwrap_or, slice_get, if◌then◌else◌, codes}
use Rattle.ct_sorts.specs.declared.ids.SortId.{SortId}
use Rattle.ct_sorts.specs.Declarations.{Declarations, Function, Selector, bool_sort}
use Rattle.ct_sexpr.specs.Expression.{Expression, Expressions, none, more}
use Rattle.ct_model.specs.ModelText.{argument_sort, off_numbers}
use Rattle.ct_readback.specs.Words.{is_name, is_named, is_numbered}
use Rattle.ct_readback.specs.Parts.{holds, only_if, list_items, count, two_in, four_of, parts_after}
use Rattle.ct_readback.specs.SortText.{is_sort_text, says_sort}
use Rattle.ct_readback.specs.Rows.{is_body}

-- what is due at an item: whether it is that of a selector, the name, and the sorts of the arguments and of the result
pub record Due : Type 0 where
  pub off : Bool
  pub name : List ℕ
  pub args : List SortId
  pub result : SortId

-- a function is due
abbrev pub due_function : Function → Due
due_function f = record { off = false; name = f.name; args = f.args; result = f.result }

-- a wrongly applied selector is due
abbrev pub due_off : Declarations → ℕ → Option Due
due_off d s =
    option_map (λ (selector : Selector). record { off = true; name = selector.name; args = unwrap_or (argument_sort d s) bool_sort ∷ []; result = selector.sort })
    (slice_get d.sels s)

-- what is due at each item, in order: the functions in order of declaration, then the selectors that can be wrongly applied
abbrev pub all_due : Declarations → List (Option Due)
all_due d = map (λ f. Some (due_function f)) d.functions ++ map (due_off d) (off_numbers d)

-- the word of an item
abbrev pub item_word : Bool → List ℕ
item_word off = if off then codes "@off" else codes "define-fun"

-- the name, the parameters, the sort of the result and the body of an item
pub record ItemText : Type 0 where
  pub name : Expression
  pub parameters : Expressions
  pub result : Expression
  pub body : Expression

abbrev pub item_of : Expression × Expression × Expression × Expression → Option ItemText
item_of parts = option_map (λ parameters. record { name = parts.0; parameters = parameters; result = parts.2; body = parts.3 }) (list_items parts.1)

abbrev pub item_in : Bool → Expression → Option ItemText
item_in off e = option_and_then item_of (option_and_then four_of (parts_after (item_word off) e))

-- the sort text of the parameter number i, `(@xi S)`
abbrev pub parameter_sort : ℕ → Expression → Option Expression
parameter_sort i e = option_and_then (λ parts. only_if (is_numbered (codes "@x") i parts.0) parts.1) (two_in e)

-- the expressions are parameters, numbered from i on
abbrev pub are_parameters : ℕ → Expressions → Bool
are_parameters i none = true
are_parameters i (more e es) = holds is_sort_text (parameter_sort i e) && are_parameters (suc i) es

-- the parts have their form; a selector has one parameter
abbrev pub has_parts : Bool → ItemText → Bool
has_parts off item =
    is_name item.name && (are_parameters 0 item.parameters && ((not off || count item.parameters == 1)
    && (is_sort_text item.result && is_body (count item.parameters) item.body)))

-- the expression has the form of the item that is due
abbrev pub has_form : Due → Expression → Bool
has_form due e = holds (has_parts due.off) (item_in due.off e)

-- the parameters, numbered from i on, have these sorts, one for one
abbrev pub say_parameters : Declarations → ℕ → List SortId → Expressions → Bool
say_parameters d i [] none = true
say_parameters d i (s ∷ ss) none = false
say_parameters d i [] (more e es) = false
say_parameters d i (s ∷ ss) (more e es) = holds (says_sort d s) (parameter_sort i e) && say_parameters d (suc i) ss es

-- the name, the parameters and the sort of the result are those that are due
abbrev pub is_heading : Declarations → Due → ItemText → Bool
is_heading d due item =
    is_named due.name item.name && (say_parameters d 0 due.args item.parameters && says_sort d due.result item.result)
