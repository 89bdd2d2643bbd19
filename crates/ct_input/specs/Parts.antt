-- Where the parts of an expression stand in the bytes that it is read from.
use Rattle.std.specs.Prelude.{◌≡◌, ℕ, zero, suc, ◌+◌, ◌-◌, ◌≤◌, ◌==◌, List, [], ◌∷◌, ◌⊎◌, length, drop, Option, Some, None, if◌then◌else◌}
use Rattle.ct_sexpr.specs.Whitespace.{after_whitespace}
use Rattle.ct_sexpr.specs.Token.{opening, closing, left_parenthesis, right_parenthesis, AreTokens}
use Rattle.ct_sexpr.specs.Expression.{Expression, leaf, list, Expressions, none, more, tokens_of}
use Rattle.ct_input.specs.declared.parts.Span.{Span}

-- the part of an expression at a path, which goes from a list to the item at its first index and on from there; the empty one ends at the
-- expression itself
abbrev mutual
  pub part_of : Expression → List ℕ → Option Expression
  part_of e [] = Some e
  part_of (leaf a) (index ∷ path) = None
  part_of (list es) (index ∷ path) = part_among es index path

  pub part_among : Expressions → ℕ → List ℕ → Option Expression
  part_among none index path = None
  part_among (more e es) zero path = part_of e path
  part_among (more e es) (suc index) path = part_among es index path

-- The bytes begin with the expression, and its part at the path begins where `from` does and ends before
-- `rest`
abbrev mutual
  pub StandsAt : Expression → List ℕ → List ℕ → List ℕ → List ℕ → Type 0
  StandsAt e [] bytes from rest = (from ≡ after_whitespace bytes) × AreTokens (tokens_of e) bytes rest
  StandsAt (leaf a) (index ∷ path) bytes from rest = ⊥
  StandsAt (list es) (index ∷ path) bytes from rest = (inside : List ℕ) × AreTokens (opening ∷ []) bytes inside × StandsAmong es index path inside from rest

  pub StandsAmong : Expressions → ℕ → List ℕ → List ℕ → List ℕ → List ℕ → Type 0
  StandsAmong none index path bytes from rest = ⊥
  StandsAmong (more e es) zero path bytes from rest = StandsAt e path bytes from rest
  StandsAmong (more e es) (suc index) path bytes from rest = (others : List ℕ) × AreTokens (tokens_of e) bytes others × StandsAmong es index path others from rest

-- the bytes begin with a closing parenthesis
abbrev pub BeginsClosing : List ℕ → Type 0
BeginsClosing bytes = (rest : List ℕ) × AreTokens (closing ∷ []) bytes rest

-- the bytes begin with no expression, as its list is closed, or with one that has no part at the path
abbrev pub Lacks : List ℕ → List ℕ → Type 0
Lacks path bytes = BeginsClosing bytes ⊎ ((e : Expression) × (rest : List ℕ) × AreTokens (tokens_of e) bytes rest × (part_of e path ≡ None))

-- the span of what begins where `from` does and ends before `rest`
pub record IsSpan (bytes from rest : List ℕ) (span : Span) : Type 0 where
  pub start : drop span.start bytes ≡ from
  pub end : drop span.end bytes ≡ rest
  pub order : span.start ≤ span.end
  pub within : span.end ≤ length bytes

abbrev pub HasSpan : List ℕ → List ℕ → List ℕ → Option Span → Type 0
HasSpan bytes from rest None = ⊥
HasSpan bytes from rest (Some span) = IsSpan bytes from rest span

-- how many parentheses are open after a token that begins with the byte, where so many were before it
abbrev pub depth_after : ℕ → ℕ → ℕ
depth_after byte depth = if byte == left_parenthesis then depth + 1 else (if byte == right_parenthesis then depth - 1 else depth)
