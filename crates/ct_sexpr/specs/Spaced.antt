-- Whitespace and comments between tokens (SMT-LIB 2.7, section 3.1), and the texts of an expression
-- that have any of it where `Written` has one space or nothing.
use Rattle.std.specs.Prelude.{◌≡◌, ℕ, ◌<◌, Bool, true, false, ◌==◌, List, [], ◌∷◌, ◌++◌, length, if◌then◌else◌}
use Rattle.ct_sexpr.specs.Whitespace.{is_whitespace, ends_comment, semicolon}
use Rattle.ct_sexpr.specs.Token.{left_parenthesis, right_parenthesis}
use Rattle.ct_sexpr.specs.Expression.{Expression, leaf, list, Expressions, none, more}
use Rattle.ct_sexpr.specs.Written.{written_atom}

-- whitespace and whole comments alone; a comment that no line end follows may go on, and is none of
-- them
abbrev mutual
  pub is_spacing : List ℕ → Bool
  is_spacing [] = true
  is_spacing (b ∷ bs) =
      if b == semicolon then is_comment_and_spacing bs else
      (if is_whitespace b then is_spacing bs else false)

  pub is_comment_and_spacing : List ℕ → Bool
  is_comment_and_spacing [] = false
  is_comment_and_spacing (b ∷ bs) =
      if ends_comment b then is_spacing bs else is_comment_and_spacing bs

-- The text is written for the expression with any whitespace and comments between its tokens: some
-- between two items of a list, and any or none beside a parenthesis.
abbrev mutual
  pub IsSpaced : Expression → List ℕ → Type 0
  IsSpaced (leaf a) text = text ≡ written_atom a
  IsSpaced (list es) text =
      (inside : List ℕ) × AreSpaced es inside × (text ≡ left_parenthesis ∷ inside)

  -- all items and the closing parenthesis
  pub AreSpaced : Expressions → List ℕ → Type 0
  AreSpaced none text =
      (space : List ℕ) × (is_spacing space ≡ true) × (text ≡ space ++ right_parenthesis ∷ [])
  AreSpaced (more e es) text =
      (space : List ℕ) × (item : List ℕ) × (others : List ℕ) × (is_spacing space ≡ true)
      × IsSpaced e item × AreSpacedAfter es others × (text ≡ space ++ (item ++ others))

  -- the items after another one and the closing parenthesis
  pub AreSpacedAfter : Expressions → List ℕ → Type 0
  AreSpacedAfter none text =
      (space : List ℕ) × (is_spacing space ≡ true) × (text ≡ space ++ right_parenthesis ∷ [])
  AreSpacedAfter (more e es) text =
      (space : List ℕ) × (item : List ℕ) × (others : List ℕ) × (0 < length space)
      × (is_spacing space ≡ true) × IsSpaced e item × AreSpacedAfter es others
      × (text ≡ space ++ (item ++ others))
