-- Which records can be written and read back: numbers of terms are below that of the terms, literals are over Boolean terms
-- that are no negations, a term and a place that are not written are 0, numbers fit into 64 bits, and the text nests no deeper than
-- what is read.
use Rattle.std.specs.Prelude.{◌≡◌, ℕ, ◌≤◌, Bool, true, ◌&&◌, ◌||◌, ◌==◌, nat_lt, List, [], length, Some, Ok}
use Rattle.std.specs.List.{list_all}
use Rattle.ct_sexpr.specs.Atom.{numeral}
use Rattle.ct_sexpr.specs.Expression.{Expression, leaf, list, Expressions, none, more, nesting}
use Rattle.ct_sexpr.specs.Reading.{BeginsCommand, nesting_limit}
use Rattle.ct_sorts.specs.Declarations.{Declarations}
use Rattle.ct_terms.specs.Terms.{Terms, IsTermTable, AreSorted}
use Rattle.ct_log.specs.Recorded.{Recorded}
use Rattle.ct_log_text.specs.Reading.{Reads, number_of}
use Rattle.ct_log_text.specs.Written.{expression_of_record}
use Rattle.ct_log.specs.declared.line.Line.{Line}
use Rattle.ct_log.specs.declared.line.Step.{Step}
use Rattle.ct_log.specs.declared.line.Step.TheVariants.{Gate}
use Rattle.ct_log_lines.specs.Forms.{number_bound}
use Rattle.ct_log_lines.specs.Gates.{has_term, has_place}
use Rattle.ct_log_text.specs.Fitting.{has_terms, has_stripped}

-- a gate has no term and no place but those that are written
abbrev pub is_bare : Step → Bool
is_bare (Gate gate t place) = (has_term gate || t.0 == 0) && (has_place gate || place == 0)
is_bare _ = true

-- the line can be written over these terms
abbrev pub is_writable : Terms → Line → Bool
is_writable terms line = has_terms (length terms) line && (has_stripped terms line && is_bare line.step)

-- every number of the expression is below 2^64
abbrev mutual
  pub is_short : Expression → Bool
  is_short (leaf (numeral n)) = nat_lt n number_bound
  is_short (leaf a) = true
  is_short (list es) = are_short es

  pub are_short : Expressions → Bool
  are_short none = true
  are_short (more e es) = is_short e && are_short es

-- the record can be written, with this number of a check, and read back
pub record CanBeRead (d : Declarations) (k : ℕ) (rec : Recorded) : Type 0 where
  pub some : 1 ≤ k
  pub table : IsTermTable rec.terms
  pub sorted : AreSorted d rec.terms
  pub lines : list_all (is_writable rec.terms) rec.lines ≡ true
  pub short : is_short (expression_of_record d k rec) ≡ true
  -- a sort may be nested deeper than anything that is read
  pub nests : nesting (expression_of_record d k rec) ≤ nesting_limit

-- the bytes are the text of one expression, with nothing after it, which is read as this record, with this number of a check
pub record IsReadBack (d : Declarations) (k : ℕ) (rec : Recorded) (bytes : List ℕ) : Type 0 where
  pub expression : Expression
  pub whole : BeginsCommand bytes expression []
  pub reads : Reads d expression (Ok rec)
  pub number : number_of expression ≡ Some k
