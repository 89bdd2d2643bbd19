-- How the table of a function is written, as its definition (SMT-LIB 2.7, section 4.2.3, `define-fun`), and the table of a selector where
-- it is wrongly applied, in the same form. The names `@x0`, `@x1` of parameters and the word `@off` are this project's choice.
use Rattle.std.specs.Prelude.{◌≡◌, ℕ, suc, Bool, true, false, ◌==◌, List, [], ◌∷◌, Option, None, Some, slice_get, codes}
use Rattle.std.specs.List.{AllZip}
use Rattle.ct_sorts.specs.declared.ids.SortId.{SortId}
use Rattle.ct_sorts.specs.Declarations.{Declarations, Constructor, Selector, Function}
use Rattle.ct_sexpr.specs.Written.{written_name}
use Rattle.ct_values.specs.declared.node.NodeId.{NodeId}
use Rattle.ct_values.specs.Graph.{Nodes}
use Rattle.ct_value_text.specs.Numeral.{numeral}
use Rattle.ct_value_text.specs.ValueText.{sort_text, IsValueText}
use Rattle.ct_eval.specs.declared.interp.Row.{Row}
use Rattle.ct_eval.specs.declared.interp.Table.{Table}
use Rattle.ct_eval.specs.declared.interp.Interp.{Interp}
use Rattle.ct_model.specs.Listed.{listed}

-- the parameter n, as `@x3`; 64 is `@` and 120 is `x`
abbrev pub parameter : ℕ → List ℕ
parameter n = 64 ∷ (120 ∷ numeral n)

-- the parameter n and its sort, as `(@x3 S)`
abbrev pub sorted_parameter : Declarations → ℕ → SortId → List ℕ
sorted_parameter d n s = listed (parameter n ∷ (sort_text d s.0 ∷ []))

-- the parameters from the number n on, of these sorts
abbrev pub parameters : Declarations → ℕ → List SortId → List (List ℕ)
parameters d n [] = []
parameters d n (s ∷ ss) = sorted_parameter d n s ∷ parameters d (suc n) ss

-- that the parameter n is the value, as `(= @x3 v)`
abbrev pub equation : ℕ → List ℕ → List ℕ
equation n value = listed (codes "=" ∷ (parameter n ∷ (value ∷ [])))

-- that the parameters from the number n on are these values
abbrev pub equations : ℕ → List (List ℕ) → List (List ℕ)
equations n [] = []
equations n (v ∷ vs) = equation n v ∷ equations (suc n) vs

-- that all of these hold: one alone, and more as `(and ..)`
abbrev pub conjunction : List (List ℕ) → List ℕ
conjunction [] = listed (codes "and" ∷ [])
conjunction (e ∷ []) = e
conjunction (e ∷ (f ∷ es)) = listed (codes "and" ∷ (e ∷ (f ∷ es)))

-- the texts of a row: those of its arguments, and that of its result; and whether it stands together with the row after it
pub record RowTexts : Type 0 where
  pub args : List (List ℕ)
  pub result : List ℕ
  pub joins : Bool

-- that the parameters are the row's arguments
abbrev pub row_test : RowTexts → List ℕ
row_test row = conjunction (equations 0 row.args)

-- rows that stand together: their tests, and their result
pub record GroupTexts : Type 0 where
  pub tests : List (List ℕ)
  pub result : List ℕ

-- a row alone
abbrev pub alone : List ℕ → List ℕ → GroupTexts
alone test result = record { tests = test ∷ []; result = result }

-- a row with this test and this result before groups: in the first of them where it stands together with the row after it
abbrev pub with_row : Bool → List ℕ → List ℕ → List GroupTexts → List GroupTexts
with_row joins test result [] = alone test result ∷ []
with_row true test result (group ∷ groups) = record { tests = test ∷ group.tests; result = group.result } ∷ groups
with_row false test result (group ∷ groups) = alone test result ∷ (group ∷ groups)

abbrev pub grouped : List RowTexts → List GroupTexts
grouped [] = []
grouped (row ∷ rows) = with_row row.joins (row_test row) row.result (grouped rows)

-- that one of these holds: one alone, and more as `(or ..)`
abbrev pub disjunction : List (List ℕ) → List ℕ
disjunction [] = listed (codes "or" ∷ [])
disjunction (t ∷ []) = t
disjunction (t ∷ (u ∷ ts)) = listed (codes "or" ∷ (t ∷ (u ∷ ts)))

-- `(ite test result rest)` for each group in order, and the default where no group is left
abbrev pub choice_of : List GroupTexts → List ℕ → List ℕ
choice_of [] default = default
choice_of (group ∷ groups) default = listed (codes "ite" ∷ (disjunction group.tests ∷ (group.result ∷ (choice_of groups default ∷ []))))

abbrev pub choice : List RowTexts → List ℕ → List ℕ
choice rows default = choice_of (grouped rows) default

-- the texts are those of the row's values; that of the result is written with the last row of a group alone
pub record AreRowTexts (d : Declarations) (g : Nodes) (row : Row) (texts : RowTexts) : Type 0 where
  pub args_are : AllZip (IsValueText d g) row.args texts.args
  pub result_is : texts.joins ≡ false → IsValueText d g row.result texts.result

-- both are rows, of one result
abbrev pub have_one_result : Option Row → Option Row → Bool
have_one_result (Some a) (Some b) = a.result.0 == b.result.0
have_one_result a b = false

-- a row stands together with the one after it where both have one result
abbrev pub AreJoined : List Row → List RowTexts → Type 0
AreJoined rows texts = (i : ℕ) (text : RowTexts) → slice_get texts i ≡ Some text → text.joins ≡ have_one_result (slice_get rows i) (slice_get rows (suc i))

-- the text chooses by the table's rows
pub record IsChoiceText (d : Declarations) (g : Nodes) (table : Table) (text : List ℕ) : Type 0 where
  pub row_texts : List RowTexts
  pub rows_are : AllZip (AreRowTexts d g) table.rows row_texts
  pub joined : AreJoined table.rows row_texts
  pub default_text : List ℕ
  pub default_is : IsValueText d g table.default default_text
  pub text_is : text ≡ choice row_texts default_text

-- what a table without arguments gives: the result of its first row, and the default where it has no row
abbrev pub constant : List Row → NodeId → NodeId
constant [] default = default
constant (row ∷ rows) default = row.result

-- the body of a table whose arguments are of these sorts
abbrev pub IsBodyText : Declarations → Nodes → List SortId → Table → List ℕ → Type 0
IsBodyText d g [] table text = IsValueText d g (constant table.rows table.default) text
IsBodyText d g (s ∷ ss) table text = IsChoiceText d g table text

-- a table as `(word name ((@x0 S0) ..) T body)`
abbrev pub definition : Declarations → List ℕ → List ℕ → List SortId → SortId → List ℕ → List ℕ
definition d word name args result body =
    listed (word ∷ (written_name name ∷ (listed (parameters d 0 args) ∷ (sort_text d result.0 ∷ (body ∷ [])))))

-- the text of the table of the function f: `(define-fun name ((@x0 S0) ..) T body)`
pub record IsTableText (d : Declarations) (i : Interp) (f : ℕ) (text : List ℕ) : Type 0 where
  pub function : Function
  pub declared : slice_get d.functions f ≡ Some function
  pub table : Table
  pub at_table : slice_get i.funs f ≡ Some table
  pub body : List ℕ
  pub body_is : IsBodyText d i.graph function.args table body
  pub text_is : text ≡ definition d (codes "define-fun") function.name function.args function.result body

-- the text of the table of the selector s where it is wrongly applied: `(@off name ((@x0 S)) T body)`
pub record IsOffText (d : Declarations) (i : Interp) (s : ℕ) (text : List ℕ) : Type 0 where
  pub selector : Selector
  pub declared : slice_get d.sels s ≡ Some selector
  pub ctor : Constructor
  pub constructed : slice_get d.ctors selector.ctor.0 ≡ Some ctor
  pub table : Table
  pub at_table : slice_get i.offs s ≡ Some table
  pub body : List ℕ
  pub body_is : IsBodyText d i.graph (ctor.sort ∷ []) table body
  pub text_is : text ≡ definition d (codes "@off") selector.name (ctor.sort ∷ []) selector.sort body
