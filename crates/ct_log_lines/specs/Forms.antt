-- What the items of a derivation are made of: words, numbers, names, and things of one form one after another.
use Rattle.std.specs.Prelude.{ℕ, Bool, true, false, ◌&&◌, ◌==◌, min, nat_lt, List, [], ◌∷◌, Option, Some, None, is_some, codes, option_map, option_and_then, if◌then◌else◌, bytes_eq}
use Rattle.ct_sexpr.specs.Atom.{symbol, numeral}
use Rattle.ct_sexpr.specs.Expression.{Expression, leaf, list, Expressions, none, more}
use Rattle.ct_sexpr.specs.Readable.{name_of_atom}
use Rattle.ct_terms.specs.declared.ids.TermId.{TermId}

-- both values, put together
abbrev pub option_both : {A B C : Type 0} → (A → B → C) → Option A → Option B → Option C
option_both f None y = None
option_both f (Some x) None = None
option_both f (Some x) (Some y) = Some (f x y)

-- the expression is the simple symbol with these bytes
abbrev pub is_word : List ℕ → Expression → Bool
is_word text (leaf (symbol w)) = bytes_eq w text
is_word text (leaf a) = false
is_word text (list es) = false

-- the items of a list
abbrev pub list_items : Expression → Option Expressions
list_items (leaf a) = None
list_items (list es) = Some es

-- the first of the expressions, and those after it
abbrev pub first_with_rest : Expressions → Option (Expression × Expressions)
first_with_rest none = None
first_with_rest (more e es) = Some (e, es)

-- the expressions, where there are so many
abbrev pub alone : Expression → Option (Expression × Expressions) → Option Expression
alone e None = Some e
alone e (Some parts) = None

abbrev pub one_of : Expressions → Option Expression
one_of es = option_and_then (λ parts. alone parts.0 (first_with_rest parts.1)) (first_with_rest es)

abbrev pub two_of : Expressions → Option (Expression × Expression)
two_of es = option_and_then (λ parts. option_map (λ b. (parts.0, b)) (one_of parts.1)) (first_with_rest es)

abbrev pub three_of : Expressions → Option (Expression × Expression × Expression)
three_of es = option_and_then (λ parts. option_map (λ others. (parts.0, others.0, others.1)) (two_of parts.1)) (first_with_rest es)

-- what stands in a list after this word, with which it begins
abbrev pub after_word : List ℕ → Expression × Expressions → Option Expressions
after_word text parts = if is_word text parts.0 then Some parts.1 else None

abbrev pub parts_after : List ℕ → Expression → Option Expressions
parts_after text e = option_and_then (after_word text) (option_and_then first_with_rest (list_items e))

-- numbers are below 2^64
abbrev pub number_bound : ℕ
number_bound = 18446744073709551616

abbrev pub short_number : ℕ → Option ℕ
short_number n = if nat_lt n number_bound then Some n else None

-- the number that the expression is
abbrev pub number_in : Expression → Option ℕ
number_in (leaf (numeral n)) = short_number n
number_in (leaf a) = None
number_in (list es) = None

-- the expression is this number
abbrev pub is_number : ℕ → Option ℕ → Bool
is_number n None = false
is_number n (Some m) = m == n

-- what stands in a list after this word and this number, with which it begins
abbrev pub after_number : ℕ → Expression × Expressions → Option Expressions
after_number n parts = if is_number n (number_in parts.0) then Some parts.1 else None

abbrev pub parts_numbered : List ℕ → ℕ → Expression → Option Expressions
parts_numbered text n e = option_and_then (after_number n) (option_and_then first_with_rest (parts_after text e))

-- the greatest number that a term can have in memory; no table has as many terms
abbrev pub greatest_term : ℕ
greatest_term = 4294967295

-- the term with this number, where a number that is too great for a term stands for the greatest
abbrev pub term_numbered : ℕ → TermId
term_numbered n = record { 0 = min n greatest_term }

-- the term that the expression names by its number
abbrev pub term_in : Expression → Option TermId
term_in e = option_map term_numbered (number_in e)

-- the name that the expression is; `a` and `|a|` are one name, and a reserved word is none
abbrev pub name_in : Expression → Option (List ℕ)
name_in (leaf a) = name_of_atom a
name_in (list es) = None

-- what each of the expressions is, where each is something
abbrev pub each : {X : Type 0} → (Expression → Option X) → Expressions → Option (List X)
each read none = Some []
each read (more e es) = option_both (λ x xs. x ∷ xs) (read e) (each read es)

-- the numbers that the expressions are
abbrev pub numbers_in : Expressions → Option (List ℕ)
numbers_in es = each number_in es

-- the expression is a name
abbrev pub is_name : Expression → Bool
is_name e = is_some (name_in e)

-- there is one at least
abbrev pub are_some : Expressions → Bool
are_some none = false
are_some (more e es) = true

-- the expression has the form of a sort: a name, or a name before sorts, one at least
abbrev mutual
  pub is_sort_form : Expression → Bool
  is_sort_form (leaf a) = is_name (leaf a)
  is_sort_form (list es) = is_sort_list es

  pub is_sort_list : Expressions → Bool
  is_sort_list none = false
  is_sort_list (more e es) = is_name e && (are_some es && are_sort_forms es)

  pub are_sort_forms : Expressions → Bool
  are_sort_forms none = true
  are_sort_forms (more e es) = is_sort_form e && are_sort_forms es

-- the name, where what stands beside it has the form of a sort
abbrev pub if_sort : Expression → List ℕ → Option (List ℕ × Expression)
if_sort sort name = if is_sort_form sort then Some (name, sort) else None

abbrev pub qualified_by : Expression × Expression → Option (List ℕ × Expression)
qualified_by parts = option_and_then (if_sort parts.1) (name_in parts.0)

-- the name and the sort of `(as C S)`
abbrev pub qualified_in : Expression → Option (List ℕ × Expression)
qualified_in e = option_and_then qualified_by (option_and_then two_of (parts_after (codes "as") e))
