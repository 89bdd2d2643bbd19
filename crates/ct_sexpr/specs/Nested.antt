-- How deep an answer of a reader nests, and the items of a list.
use Rattle.std.specs.Prelude.{◌≡◌, ◌≤◌, ◌⊎◌}
use Rattle.ct_sexpr.specs.Expression.{Expression, Expressions, none, more, nesting}
use Rattle.ct_sexpr.specs.Reading.{nesting_limit}
use Rattle.ct_sexpr.specs.View.{expression_of}
use Rattle.ct_sexpr.specs.declared.reader.Next.{Next}
use Rattle.ct_sexpr.specs.declared.reader.Next.TheVariants.{Command, Need, End}

-- the expression is one of these
abbrev pub IsItem : Expression → Expressions → Type 0
IsItem e none = ⊥
IsItem e (more first others) = (e ≡ first) ⊎ IsItem e others

-- the command that is given, where one is, nests within the limit
abbrev pub NestsWithinLimit : Next → Type 0
NestsWithinLimit (Command e line) = nesting (expression_of e) ≤ nesting_limit
NestsWithinLimit Need = Unit {0}
NestsWithinLimit End = Unit {0}
