-- The items of a list nest less than the list.
use Rattle.std.proofs.Common.{◌≡◌, ℕ, zero, suc, ◌<◌, ◌≤◌, List, [], ◌∷◌, drop, Some, Result, Ok, Err, IfOk, slice_get, inl, inr, ap, arith}
use Rattle.std.proofs.Math.Nat.{le-max_left, le-max_right}
use Rattle.ct_sexpr.specs.declared.sexpr.Sexpr.{Sexpr}
use Rattle.ct_sexpr.specs.Expression.{Expression, list, Expressions, none, more, nesting, nesting_of_each}
use Rattle.ct_sexpr.specs.Reading.{nesting_limit}
use Rattle.ct_sexpr.specs.Nested.{IsItem, NestsWithinLimit}
use Rattle.ct_sexpr.specs.declared.reader.Next.{Next}
use Rattle.ct_sexpr.specs.declared.reader.Next.TheVariants.{Command, Need, End}
use Rattle.ct_sexpr.specs.declared.error.ReadError.{ReadError}
use Rattle.ct_sexpr.specs.Unread.{Unread}
use Rattle.ct_sexpr.specs.Answer.{GivesCommand, IsAnswer}
use Rattle.ct_sexpr.specs.View.{expression_of, expressions_of}
use Rattle.ct_sexpr.proofs.Depths.{command_nests}

-- an item nests no deeper than the items
item_nests : (e : Expression) (es : Expressions) → IsItem e es → nesting e ≤ nesting_of_each es
item_nests e none h = absurd h
item_nests e (more first others) (inl same) = omega (arith, ap nesting same, le-max_left (nesting first) (nesting_of_each others))
item_nests e (more first others) (inr there) = omega (arith, item_nests e others there, le-max_right (nesting first) (nesting_of_each others))

pub item_nests_less : (e : Expression) (es : Expressions) → IsItem e es → nesting e < nesting (list es)
item_nests_less e es h = omega (arith, item_nests e es h)

-- so do items in memory
pub item_in_memory : (items : List Sexpr) (index : ℕ) (item : Sexpr) → slice_get items index ≡ Some item → IsItem (expression_of item) (expressions_of items)
item_in_memory [] index item h = cc
item_in_memory (first ∷ others) zero item h = inl (let same : item ≡ first = cc in ap expression_of same)
item_in_memory (first ∷ others) (suc index) item h = inr (item_in_memory others index item h)

-- the items from an index on nest no deeper than all
pub suffix_nests : (items : List Sexpr) (n : ℕ) → nesting_of_each (expressions_of (drop n items)) ≤ nesting_of_each (expressions_of items)
suffix_nests items zero = omega arith
suffix_nests [] (suc n) = omega arith
suffix_nests (first ∷ others) (suc n) = omega (arith, suffix_nests others n, le-max_right (nesting (expression_of first)) (nesting_of_each (expressions_of others)))

-- a command that is given nests within the limit
pub given_nests : (old new : Unread) (e : Expression) (line : ℕ) → GivesCommand old new e line → nesting e ≤ nesting_limit
given_nests old new e line g = command_nests old.bytes e new.bytes g.begins

-- so each answer does
pub answer_nests : (old new : Unread) (answer : Result Next ReadError) → IsAnswer old new answer → IfOk answer NestsWithinLimit
answer_nests old new (Ok (Command e line)) a = given_nests old new (expression_of e) line a
answer_nests old new (Ok Need) a = tt
answer_nests old new (Ok End) a = tt
answer_nests old new (Err e) a = tt
