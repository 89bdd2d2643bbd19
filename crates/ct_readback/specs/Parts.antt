-- The parts of lists.
use Rattle.std.specs.Prelude.{ℕ, zero, suc, Bool, true, false, List, Option, Some, None, option_map, option_and_then, if◌then◌else◌}
use Rattle.ct_sexpr.specs.Expression.{Expression, leaf, list, Expressions, none, more}
use Rattle.ct_readback.specs.Words.{is_word}

-- what is there has the property; where nothing is, it has not
abbrev pub holds : {X : Type 0} → (X → Bool) → Option X → Bool
holds P None = false
holds P (Some x) = P x

-- both values, put together
abbrev pub option_both : {A B C : Type 0} → (A → B → C) → Option A → Option B → Option C
option_both f None y = None
option_both f (Some x) None = None
option_both f (Some x) (Some y) = Some (f x y)

-- the first that is there
abbrev pub or_other : {X : Type 0} → Option X → Option X → Option X
or_other None other = other
or_other (Some x) other = Some x

-- what is there, where it has the property
abbrev pub only_if : {X : Type 0} → Bool → X → Option X
only_if b x = if b then Some x else None

-- the items of a list
abbrev pub list_items : Expression → Option Expressions
list_items (leaf a) = None
list_items (list es) = Some es

-- how many there are
abbrev pub count : Expressions → ℕ
count none = zero
count (more e es) = suc (count es)

-- the expression at this place
abbrev pub nth : Expressions → ℕ → Option Expression
nth none n = None
nth (more e es) zero = Some e
nth (more e es) (suc n) = nth es n

-- there is one at least
abbrev pub are_some : Expressions → Bool
are_some none = false
are_some (more e es) = true

-- the first of the expressions, and those after it
abbrev pub first_of : Expressions → Option (Expression × Expressions)
first_of none = None
first_of (more e es) = Some (e, es)

-- the expressions, where there are so many
abbrev pub alone : Expression → Option (Expression × Expressions) → Option Expression
alone e None = Some e
alone e (Some parts) = None

abbrev pub one_of : Expressions → Option Expression
one_of es = option_and_then (λ parts. alone parts.0 (first_of parts.1)) (first_of es)

abbrev pub two_of : Expressions → Option (Expression × Expression)
two_of es = option_and_then (λ parts. option_map (λ b. (parts.0, b)) (one_of parts.1)) (first_of es)

abbrev pub three_of : Expressions → Option (Expression × Expression × Expression)
three_of es = option_and_then (λ parts. option_map (λ others. (parts.0, others.0, others.1)) (two_of parts.1)) (first_of es)

abbrev pub four_of : Expressions → Option (Expression × Expression × Expression × Expression)
four_of es = option_and_then (λ parts. option_map (λ others. (parts.0, others.0, others.1, others.2)) (three_of parts.1)) (first_of es)

-- the items of a list of so many
abbrev pub two_in : Expression → Option (Expression × Expression)
two_in e = option_and_then two_of (list_items e)

abbrev pub three_in : Expression → Option (Expression × Expression × Expression)
three_in e = option_and_then three_of (list_items e)

-- what stands in a list after this word, with which it begins
abbrev pub after_word : List ℕ → Expression × Expressions → Option Expressions
after_word text parts = only_if (is_word text parts.0) parts.1

abbrev pub parts_after : List ℕ → Expression → Option Expressions
parts_after text e = option_and_then (after_word text) (option_and_then first_of (list_items e))
