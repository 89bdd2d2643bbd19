-- Texts of tables in the order in which they are written: what stands before a body, and of a body what stands before the rest of each
-- row, the default, and the closing parentheses of all rows.
use Rattle.std.specs.Prelude.{ℕ, zero, suc, Bool, true, false, not, List, [], ◌∷◌, ◌++◌, codes}
use Rattle.ct_sorts.specs.declared.ids.SortId.{SortId}
use Rattle.ct_sorts.specs.Declarations.{Declarations}
use Rattle.ct_sexpr.specs.Written.{written_name}
use Rattle.ct_value_text.specs.ValueText.{sort_text}
use Rattle.ct_model.specs.Listed.{listed}
use Rattle.ct_model.specs.TableText.{RowTexts, row_test, parameters}

-- what is written before a body, after the first word: `f ((@x0 S0) ..) T ` with the space at the end
abbrev pub heading : Declarations → List ℕ → List SortId → SortId → List ℕ
heading d name args result = written_name name ++ 32 ∷ (listed (parameters d 0 args) ++ 32 ∷ (sort_text d result.0 ++ 32 ∷ []))

-- what is written before the test of a row, whether it is the first of its group and whether the next row is of its group
abbrev pub before_test : Bool → Bool → List ℕ
before_test true true = codes "(ite (or "
before_test true false = codes "(ite "
before_test false joins = codes " "

-- and what is written after it
abbrev pub after_test : Bool → Bool → List ℕ → List ℕ
after_test first true result = []
after_test true false result = 32 ∷ (result ++ 32 ∷ [])
after_test false false result = 41 ∷ (32 ∷ (result ++ 32 ∷ []))

-- what is written of a row before the rest
abbrev pub opening : Bool → Bool → List ℕ → List ℕ → List ℕ
opening first joins test result = before_test first joins ++ (test ++ after_test first joins result)

-- what is written of rows, where the first of them is the first of its group or is not
abbrev pub openings : Bool → List RowTexts → List ℕ
openings first [] = []
openings first (row ∷ rows) = opening first row.joins (row_test row) row.result ++ openings (not row.joins) rows

-- whether the row after these is the first of its group
abbrev pub begins_after : Bool → List RowTexts → Bool
begins_after first [] = first
begins_after first (row ∷ rows) = begins_after (not row.joins) rows

-- how many groups end there
abbrev pub ended : Bool → ℕ → ℕ
ended true n = n
ended false n = suc n

abbrev pub ends : List RowTexts → ℕ
ends [] = zero
ends (row ∷ rows) = ended row.joins (ends rows)

-- so many closing parentheses
abbrev pub closings : ℕ → List ℕ
closings zero = []
closings (suc n) = 41 ∷ closings n
