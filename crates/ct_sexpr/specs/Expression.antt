-- Expressions (SMT-LIB 2.7, section 3.2): atoms, and lists of expressions.
use Rattle.std.specs.Prelude.{ℕ, ◌+◌, max, List, [], ◌∷◌, ◌++◌}
use Rattle.ct_sexpr.specs.Atom.{Atom, symbol}
use Rattle.ct_sexpr.specs.Token.{Token, opening, closing, atom}

mutual
  pub data Expression : Type 0 where
    leaf : Atom → Expression
    list : Expressions → Expression

  pub data Expressions : Type 0 where
    none : Expressions
    more : Expression → Expressions → Expressions

-- the tokens that an expression is written with
abbrev mutual
  pub tokens_of : Expression → List Token
  tokens_of (leaf a) = atom a ∷ []
  tokens_of (list es) = opening ∷ (tokens_of_each es ++ closing ∷ [])

  pub tokens_of_each : Expressions → List Token
  tokens_of_each none = []
  tokens_of_each (more e es) = tokens_of e ++ tokens_of_each es

-- how deep the parentheses of an expression nest
abbrev mutual
  pub nesting : Expression → ℕ
  nesting (leaf a) = 0
  nesting (list es) = nesting_of_each es + 1

  pub nesting_of_each : Expressions → ℕ
  nesting_of_each none = 0
  nesting_of_each (more e es) = max (nesting e) (nesting_of_each es)

-- one more expression at the end
abbrev pub with_last : Expressions → Expression → Expressions
with_last none last = more last none
with_last (more e es) last = more e (with_last es last)

-- the simple symbol with these bytes
abbrev pub word : List ℕ → Expression
word bytes = leaf (symbol bytes)
