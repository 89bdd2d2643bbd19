-- What a reader may answer, from where its scanner is.
use Rattle.std.proofs.Common.{◌≡◌, ℕ, ◌+◌, ◌<◌, Bool, true, false, List, [], length, None, inl, inr, refl, arith}
use Rattle.ct_sexpr.specs.Expression.{Expression}
use Rattle.ct_sexpr.specs.Reading.{HasError}
use Rattle.ct_sexpr.specs.Unread.{Unread}
use Rattle.ct_sexpr.specs.Answer.{GivesCommand, Needs, Ends, Refuses, line_of_start}
use Rattle.ct_sexpr.specs.Scanning.{BeginsAfter, Reached, Completes, Refutes, EndsWrong, EndsAt, IsOnLine}
use Rattle.ct_sexpr.specs.declared.scanner.Scanner.{Scanner}
use Rattle.ct_sexpr.proofs.Texts.{one_command, unfinished_has_none, error_has_none}
use Rattle.ct_sexpr.proofs.Prefixes.{command_prefix}
use Rattle.ct_sexpr.proofs.Counted.{more_than_lines}
use Rattle.ct_sexpr.proofs.Decided.{definite_is_error}
use Rattle.ct_sexpr.proofs.Ended.{unfinished_at}

-- what a reader stands for whose bytes begin after so many lines
abbrev pub unread : List ℕ → ℕ → ℕ → Bool → Unread
unread whole lines fed ended = record { bytes = whole; line = lines + 1; fed = fed; ended = ended }

-- the line of the first byte that is no whitespace
line_is : (lines before : ℕ) (whole : List ℕ) (fed : ℕ) (ended : Bool) → BeginsAfter before whole →
    lines + before + 1 ≡ line_of_start (unread whole lines fed ended)
line_is lines before whole fed ended b = let e = b.count in omega arith

-- the next command
pub gives : (s : Scanner) (e : Expression) (whole left : List ℕ) (lines fed : ℕ) (ended : Bool) → Completes s e whole left →
    GivesCommand (unread whole lines fed ended) (unread left (lines + s.line_feeds) fed ended) e (lines + s.before + 1)
gives s e whole left lines fed ended c = let taken = command_prefix whole e left c.begins in record {
  begins = c.begins;
  only = λ other rest d. one_command whole e other left rest c.begins d;
  prefix = taken.0;
  taken = taken.2;
  some = taken.1;
  line_is = line_is lines s.before whole fed ended c.begun;
  line_after = let k = c.lines.count in omega arith;
  fed = refl;
  ended = refl;
}

-- the line of an error is one of the text's
pub line_fits : (s : Scanner) (whole : List ℕ) (code : ℕ) (suffix : List ℕ) → HasError whole code suffix → IsOnLine s whole suffix → s.line_feeds < length whole
line_fits s whole code suffix h line = omega (arith, more_than_lines whole code suffix h)

module _ (s : Scanner) (whole : List ℕ) (lines fed : ℕ) (ended : Bool) where
  -- more bytes are needed
  pub needs : Reached s whole [] → ended ≡ false → Needs (unread whole lines fed ended) (unread whole lines fed ended)
  needs r open_ended =
      let unfinished = unfinished_at s.lists s.mode s.word.items whole r.position in
      record { ended = open_ended; unfinished = unfinished; none = unfinished_has_none whole unfinished; same = refl }

  -- the input ends after the last command
  pub ends_here : Reached s whole [] → ended ≡ true → EndsAt s None → Ends (unread whole lines fed ended) (unread whole lines fed ended)
  ends_here r over whitespace =
      record { ended = over; whitespace = whitespace whole r; none = unfinished_has_none whole (unfinished_at s.lists s.mode s.word.items whole r.position); same = refl }

  -- the input ends where there is an error
  pub ends_wrong : (code : ℕ) → ended ≡ true → EndsWrong s code whole → Refuses (unread whole lines fed ended) (unread whole lines fed ended) code (lines + s.line_feeds + 1)
  ends_wrong code over e = record {
    suffix = e.suffix;
    fault = inr (over, e.error);
    none = error_has_none whole code e.suffix e.error;
    line_is = let line = e.line in omega arith;
    same = refl;
  }

-- an error in the bytes is definite
pub refuses : (s : Scanner) (code : ℕ) (whole left : List ℕ) (lines fed : ℕ) (ended : Bool) → Refutes s code whole left →
    Refuses (unread whole lines fed ended) (unread whole lines fed ended) code (lines + s.line_feeds + 1)
refuses s code whole left lines fed ended r = record {
  suffix = r.suffix;
  fault = inl r.error;
  none = error_has_none whole code r.suffix (definite_is_error whole code r.suffix r.error);
  line_is = let line = r.line in omega arith;
  same = refl;
}
