-- A text with one item a line is a text of its expression, with whitespace between the items, and is read as the expression.
use Rattle.std.proofs.Common.{ℕ, ◌≤◌, List, [], ◌∷◌, ◌++◌, refl, ap, append_assoc, arith}
use Rattle.ct_sexpr.specs.Expression.{Expression, list, Expressions, none, more, nesting}
use Rattle.ct_sexpr.specs.Reading.{nesting_limit, BeginsCommand}
use Rattle.ct_sexpr.specs.Readable.{IsReadable}
use Rattle.ct_sexpr.specs.Written.{written, canonical}
use Rattle.ct_sexpr.specs.Spaced.{IsSpaced, AreSpaced, AreSpacedAfter}
use Rattle.ct_log_text.specs.Written.{item_lines, text_of}

module _ (is_spaced : (e : Expression) → IsSpaced e (written e)) where
  after_spaced : (es : Expressions) → AreSpacedAfter es (10 ∷ (item_lines es ++ 41 ∷ []))
  after_spaced none = (10 ∷ [], refl, refl)
  after_spaced (more e es) =
      (10 ∷ [], written e, 10 ∷ (item_lines es ++ 41 ∷ []), omega arith, refl, is_spaced e, after_spaced es, ap (λ w. 10 ∷ w) (append_assoc (written e) (10 ∷ item_lines es) (41 ∷ [])))

  lines_spaced : (es : Expressions) → AreSpaced es (10 ∷ (item_lines es ++ 41 ∷ []))
  lines_spaced none = (10 ∷ [], refl, refl)
  lines_spaced (more e es) =
      (10 ∷ [], written e, 10 ∷ (item_lines es ++ 41 ∷ []), refl, is_spaced e, after_spaced es, ap (λ w. 10 ∷ w) (append_assoc (written e) (10 ∷ item_lines es) (41 ∷ [])))

  pub text_read : ((es : Expressions) (text : List ℕ) → IsReadable (list es) → nesting (list es) ≤ nesting_limit → IsSpaced (list es) text → BeginsCommand text (canonical (list es)) [])
      → (es : Expressions) → IsReadable (list es) → nesting (list es) ≤ nesting_limit → BeginsCommand (text_of (list es)) (canonical (list es)) []
  text_read spaced es readable nests = spaced es (text_of (list es)) readable nests (10 ∷ (item_lines es ++ 41 ∷ []), lines_spaced es, refl)
