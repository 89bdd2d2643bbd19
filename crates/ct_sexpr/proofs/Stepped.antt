-- What each step of a scanner does to where it is.
use Rattle.std.proofs.Common.{◌≡◌, ℕ, ◌+◌, ◌-◌, ◌<◌, true, false, eqb, nat_lt, List, [], ◌∷◌, ◌++◌, Some, Result, Ok, Err, ◌⊎◌, inl, inr, refl, ap, ◌∙◌, subst, arith}
use Rattle.std.proofs.lemmas.Bool.Decides.{nat_tests}
use Rattle.ct_sexpr.specs.Whitespace.{is_whitespace, line_feeds}
use Rattle.ct_sexpr.specs.Atom.{Atom, quoted, text, is_word_byte, atom_of}
use Rattle.ct_sexpr.specs.Token.{opening, closing, atom, is_in_quoted_symbol, begins_atom, may_go_on}
use Rattle.ct_sexpr.specs.Expression.{Expression, leaf, tokens_of}
use Rattle.ct_sexpr.specs.Reading.{nesting_limit, error_at}
use Rattle.ct_sexpr.specs.Open.{Open, none_open}
use Rattle.ct_sexpr.specs.Scanning.{IsAt, Counts, Reached, Completes, Refutes, ReadsByte, Stays, Steps, lines_before}
use Rattle.ct_sexpr.specs.declared.scanner.Mode.{Mode}
use Rattle.ct_sexpr.specs.declared.scanner.Mode.TheVariants.{Between, Word, Quoted, Text, Mark}
use Rattle.ct_sexpr.specs.declared.scanner.ScanStep.{ScanStep}
use Rattle.ct_sexpr.specs.declared.scanner.ScanStep.TheVariants.{Going, Command, Wrong}
use Rattle.ct_sexpr.specs.declared.scanner.Scanner.{Scanner}
use Rattle.ct_sexpr.specs.declared.error.ReadError.{ReadError}
use Rattle.ct_sexpr.proofs.WhitespaceLemmas.{distinguished}
use Rattle.ct_sexpr.proofs.Positions.{grow_word, end_word, wrong_word, grow_quoted, end_quoted, wrong_quoted, grow_text, double_mark, end_text, open_list, close_list, close_command, find_error, error_at-deep, error_at-closing, error_at-outside, error_at-no_token}
use Rattle.ct_sexpr.proofs.Counted.{word_on_line, count_byte, count_other, count_depth, count_begin, begins_after}

-- a scanner's position, where its mode is known
was_at : (s : Scanner) (mode : Mode) (whole left : List ℕ) → s.mode ≡ mode → Reached s whole left → IsAt s.lists mode s.word.items whole left
was_at s mode whole left e r = subst (λ m. IsAt s.lists m s.word.items whole left) e r.position

-- a scanner is where its parts say
now_at : (s : Scanner) (lists : Open) (mode : Mode) (word whole left : List ℕ) → s.lists ≡ lists → s.mode ≡ mode → s.word.items ≡ word →
    IsAt lists mode word whole left → Counts lists.depth s.line_feeds s.before whole left → Reached s whole left
now_at s lists mode word whole left l m w at c = record { position = rw (l, m, w) at; lines = rw l c }

-- what a scanner is known to be inside, where no list is opened or closed
module _ (old new : Scanner) (b : ℕ) (lists : new.lists ≡ old.lists) (before : new.before ≡ old.before) where
  -- a byte that is counted
  moves : (from to : Mode) (word : List ℕ) → old.mode ≡ from →
      ((whole left : List ℕ) → IsAt old.lists from old.word.items whole (b ∷ left) → IsAt old.lists to word whole left) →
      new.mode ≡ to → new.word.items ≡ word → new.line_feeds ≡ old.line_feeds + line_feeds (b ∷ []) → ReadsByte old new b
  moves from to word mode suffix now is lines whole left r =
      now_at new old.lists to word whole left lists now is (suffix whole left (was_at old from whole (b ∷ left) mode r))
      (rw (lines, before) (count_byte old.lists.depth old.line_feeds old.before b whole left r.lines))

  -- a byte that ends no line
  moves_on_line : (from to : Mode) (word : List ℕ) → old.mode ≡ from →
      ((whole left : List ℕ) → IsAt old.lists from old.word.items whole (b ∷ left) → IsAt old.lists to word whole left) →
      new.mode ≡ to → new.word.items ≡ word → new.line_feeds ≡ old.line_feeds → eqb b 10 ≡ false → ReadsByte old new b
  moves_on_line from to word mode suffix now is lines feed whole left r =
      now_at new old.lists to word whole left lists now is (suffix whole left (was_at old from whole (b ∷ left) mode r))
      (rw (lines, before) (count_other old.lists.depth old.line_feeds old.before b whole left feed r.lines))

  -- a later byte of a word
  pub grows_word : old.mode ≡ Word → is_word_byte b ≡ true → new.mode ≡ old.mode → new.word.items ≡ old.word.items ++ b ∷ [] → new.line_feeds ≡ old.line_feeds → ReadsByte old new b
  grows_word mode further now is lines =
      moves_on_line Word Word (old.word.items ++ b ∷ []) mode (λ whole left. grow_word old.lists old.word.items whole left b further) (now ∙ mode) is lines (distinguished is_word_byte b 10 further refl)

  -- a byte of a quoted symbol
  pub grows_quoted : old.mode ≡ Quoted → is_in_quoted_symbol b ≡ true → new.mode ≡ old.mode → new.word.items ≡ old.word.items ++ b ∷ [] →
      new.line_feeds ≡ old.line_feeds + line_feeds (b ∷ []) → ReadsByte old new b
  grows_quoted mode further now is lines =
      moves Quoted Quoted (old.word.items ++ b ∷ []) mode (λ whole left. grow_quoted old.lists old.word.items whole left b further) (now ∙ mode) is lines

  -- a byte that a string says
  pub grows_text : old.mode ≡ Text → eqb b 34 ≡ false → new.mode ≡ old.mode → new.word.items ≡ old.word.items ++ b ∷ [] →
      new.line_feeds ≡ old.line_feeds + line_feeds (b ∷ []) → ReadsByte old new b
  grows_text mode further now is lines =
      moves Text Text (old.word.items ++ b ∷ []) mode (λ whole left. grow_text old.lists old.word.items whole left b further) (now ∙ mode) is lines

  -- a second mark, which the string says
  pub doubles_mark : old.mode ≡ Mark → b ≡ 34 → new.mode ≡ Text → new.word.items ≡ old.word.items ++ b ∷ [] → new.line_feeds ≡ old.line_feeds → ReadsByte old new b
  doubles_mark mode mark now is lines =
      moves_on_line Mark Text (old.word.items ++ b ∷ []) mode (λ whole left. double_mark old.lists old.word.items whole left b mark) now is lines (rw mark refl)

-- an opening parenthesis
pub opens : (old new : Scanner) → old.mode ≡ Between → old.lists.depth < nesting_limit →
    new.lists ≡ record { tokens = old.lists.tokens ++ opening ∷ []; depth = old.lists.depth + 1 } → new.mode ≡ old.mode → new.word.items ≡ old.word.items →
    new.line_feeds ≡ old.line_feeds → new.before ≡ lines_before old → ReadsByte old new 40
opens old new mode room lists same word lines before whole left r =
    let at = was_at old Between whole (40 ∷ left) mode r in
    let test : nat_lt old.lists.depth nesting_limit ≡ true = grind (arith, nat_tests) in
    let begun = begins_after old.lists old.word.items whole left 40 old.line_feeds old.before at refl r.lines in
    let c = count_begin old.lists.depth (old.lists.depth + 1) old.line_feeds old.before (lines_before old) whole left begun (count_other old.lists.depth old.line_feeds old.before 40 whole left refl r.lines) in
    now_at new _ Between old.word.items whole left lists (same ∙ mode) word (open_list old.lists old.word.items whole left 40 refl test at) (rw (lines, before) c)

-- a closing parenthesis
pub closes : (old new : Scanner) → old.mode ≡ Between → 1 < old.lists.depth →
    new.lists ≡ record { tokens = old.lists.tokens ++ closing ∷ []; depth = old.lists.depth - 1 } → new.mode ≡ old.mode → new.word.items ≡ old.word.items →
    new.line_feeds ≡ old.line_feeds → new.before ≡ old.before → ReadsByte old new 41
closes old new mode inner lists same word lines before whole left r =
    let at = was_at old Between whole (41 ∷ left) mode r in
    let test : nat_lt 1 old.lists.depth ≡ true = grind (arith, nat_tests) in
    let c = count_depth old.lists.depth (old.lists.depth - 1) old.line_feeds old.before whole left (omega arith) (count_other old.lists.depth old.line_feeds old.before 41 whole left refl r.lines) in
    now_at new _ Between old.word.items whole left lists (same ∙ mode) word (close_list old.lists old.word.items whole left 41 refl test at) (rw (lines, before) c)

-- the closing parenthesis of a command
pub completes : (old new : Scanner) (e : Expression) → old.mode ≡ Between → old.lists.depth ≡ 1 → tokens_of e ≡ old.lists.tokens ++ closing ∷ [] →
    new.lists ≡ none_open → new.mode ≡ old.mode → new.word.items ≡ old.word.items → new.line_feeds ≡ old.line_feeds → new.before ≡ old.before →
    (whole left : List ℕ) → Reached old whole (41 ∷ left) → Completes new e whole left
completes old new e mode one tokens lists same word lines before whole left r =
    let at = was_at old Between whole (41 ∷ left) mode r in
    let c = count_other old.lists.depth old.line_feeds old.before 41 whole left refl r.lines in
    let begun = c.begun (omega arith) in
    record {
      begins = close_command old.lists old.word.items whole left 41 e refl one tokens at;
      fresh = record { lists = lists; mode = same ∙ mode; word = word ∙ at.goes_on.0 };
      lines = rw (lines, before) (count_depth old.lists.depth 0 old.line_feeds old.before whole left (omega arith) c);
      begun = rw before begun;
    }

-- the innermost list has one more atom
abbrev with_atom : Open → Atom → Open
with_atom lists a = record { tokens = lists.tokens ++ atom a ∷ []; depth = lists.depth }

-- an item of the innermost list that is an atom
item_added : (old new : Scanner) (e : Expression) (a : Atom) → e ≡ leaf a →
    new.lists ≡ record { tokens = old.lists.tokens ++ tokens_of e; depth = old.lists.depth } → new.lists ≡ with_atom old.lists a
item_added old new e a is lists = lists ∙ ap (λ x. record { tokens = old.lists.tokens ++ tokens_of x; depth = old.lists.depth }) is

-- the end of an atom
module _ (old new : Scanner) (e : Expression)
    (lists : 0 < old.lists.depth → new.lists ≡ record { tokens = old.lists.tokens ++ tokens_of e; depth = old.lists.depth })
    (now : new.mode ≡ Between) (word : new.word.items ≡ []) (lines : new.line_feeds ≡ old.line_feeds) (before : new.before ≡ old.before) where
  -- a word ends before a byte that is none of its
  pub ends_word : (b : ℕ) (a : Atom) → old.mode ≡ Word → is_word_byte b ≡ false → atom_of old.word.items ≡ Ok a → e ≡ leaf a → Stays old new b
  ends_word b a mode over is item whole left r =
      let at = was_at old Word whole (b ∷ left) mode r in
      now_at new (with_atom old.lists a) Between [] whole (b ∷ left) (item_added old new e a item (lists at.goes_on.1)) now word
      (end_word old.lists old.word.items whole left b a over is at) (rw (lines, before) r.lines)

  -- a quoted symbol ends with its `|`
  pub ends_quoted : old.mode ≡ Quoted → e ≡ leaf (quoted old.word.items) → ReadsByte old new 124
  ends_quoted mode item whole left r =
      let at = was_at old Quoted whole (124 ∷ left) mode r in
      now_at new (with_atom old.lists (quoted old.word.items)) Between [] whole left (item_added old new e (quoted old.word.items) item (lists at.goes_on.1)) now word
      (end_quoted old.lists old.word.items whole left 124 refl at) (rw (lines, before) (count_other old.lists.depth old.line_feeds old.before 124 whole left refl r.lines))

  -- a string ends with a mark before a byte that is none
  pub ends_text : (b : ℕ) → old.mode ≡ Mark → eqb b 34 ≡ false → e ≡ leaf (text old.word.items) → Stays old new b
  ends_text b mode over item whole left r =
      let at = was_at old Mark whole (b ∷ left) mode r in
      now_at new (with_atom old.lists (text old.word.items)) Between [] whole (b ∷ left) (item_added old new e (text old.word.items) item (lists at.goes_on.0)) now word
      (end_text old.lists old.word.items whole left b over at) (rw (lines, before) r.lines)

-- an error at the byte that comes next, between tokens
refutes : (s : Scanner) (code b : ℕ) → s.mode ≡ Between → is_whitespace b ≡ false → eqb b 59 ≡ false →
    ((left : List ℕ) → error_at s.lists.depth (b ∷ left) ≡ Some (code, b ∷ left)) → ((left : List ℕ) → (s.lists.depth ≡ 0) ⊎ (may_go_on (b ∷ left) ≡ false)) →
    (whole left : List ℕ) → Reached s whole (b ∷ left) → Refutes s code whole (b ∷ left)
refutes s code b mode space comment error definite whole left r = record {
  reached = r;
  suffix = b ∷ left;
  error = find_error s.lists s.word.items whole left b code space comment (error left) (definite left) (was_at s Between whole (b ∷ left) mode r);
  line = r.lines.count;
}

-- a parenthesis that opens one list too many
pub refutes_deep : (s : Scanner) → s.mode ≡ Between → nat_lt s.lists.depth nesting_limit ≡ false → (whole left : List ℕ) → Reached s whole (40 ∷ left) → Refutes s 4 whole (40 ∷ left)
refutes_deep s mode full = refutes s 4 40 mode refl refl (λ left. error_at-deep s.lists.depth left full) (λ left. inr refl)

-- a parenthesis that closes nothing
pub refutes_closing : (s : Scanner) → s.mode ≡ Between → s.lists.depth ≡ 0 → (whole left : List ℕ) → Reached s whole (41 ∷ left) → Refutes s 2 whole (41 ∷ left)
refutes_closing s mode none = refutes s 2 41 mode refl refl (λ left. error_at-closing s.lists.depth left none) (λ left. inl none)

-- a byte that begins no token
pub refutes_no_token : (s : Scanner) (b : ℕ) → s.mode ≡ Between → is_whitespace b ≡ false → eqb b 59 ≡ false → eqb b 40 ≡ false → eqb b 41 ≡ false → begins_atom b ≡ false →
    (whole left : List ℕ) → Reached s whole (b ∷ left) → Refutes s 1 whole (b ∷ left)
refutes_no_token s b mode space comment left_one right_one no_atom =
    refutes s 1 b mode space comment (λ left. (error_at-no_token s.lists.depth b left no_atom left_one right_one).0) (λ left. inr (error_at-no_token s.lists.depth b left no_atom left_one right_one).1)

-- an atom outside all parentheses
pub refutes_outside : (s : Scanner) (b : ℕ) → s.mode ≡ Between → begins_atom b ≡ true → s.lists.depth ≡ 0 →
    (whole left : List ℕ) → Reached s whole (b ∷ left) → Refutes s 5 whole (b ∷ left)
refutes_outside s b mode first none =
    refutes s 5 b mode (no_whitespace b first) (distinguished begins_atom b 59 first refl) (λ left. error_at-outside s.lists.depth b left first none) (λ left. inl none)
  where
    no_whitespace : (b : ℕ) → begins_atom b ≡ true → is_whitespace b ≡ false
    no_whitespace b first = rw (distinguished begins_atom b 9 first refl, distinguished begins_atom b 10 first refl, distinguished begins_atom b 13 first refl, distinguished begins_atom b 32 first refl) refl

-- a word that is no atom
pub refutes_word : (s : Scanner) (code b : ℕ) → s.mode ≡ Word → is_word_byte b ≡ false → atom_of s.word.items ≡ Err code →
    (whole left : List ℕ) → Reached s whole (b ∷ left) → Refutes s code whole (b ∷ left)
refutes_word s code b mode over is whole left r =
    let at = was_at s Word whole (b ∷ left) mode r in
    record {
      reached = r;
      suffix = s.word.items ++ b ∷ left;
      error = wrong_word s.lists s.word.items whole left b code over is at;
      line = ap (λ n. s.line_feeds + n) (word_on_line s.word.items (b ∷ left) at.goes_on.0) ∙ r.lines.count;
    }

-- a backslash in a quoted symbol
pub refutes_backslash : (s : Scanner) → s.mode ≡ Quoted → (whole left : List ℕ) → Reached s whole (92 ∷ left) → Refutes s 1 whole (92 ∷ left)
refutes_backslash s mode whole left r = record {
  reached = r;
  suffix = 92 ∷ left;
  error = wrong_quoted s.lists s.word.items whole left 92 refl (was_at s Quoted whole (92 ∷ left) mode r);
  line = r.lines.count;
}

-- a step after what reads no byte is a step
pub Steps-remaining : (old middle new : Scanner) (b : ℕ) (result : Result ScanStep ReadError) → Stays old middle b → Steps middle new b result → Steps old new b result
Steps-remaining old middle new b (Ok Going) s t = λ whole left r. t whole left (s whole left r)
Steps-remaining old middle new b (Ok (Command e)) s t = λ whole left r. t whole left (s whole left r)
Steps-remaining old middle new b (Ok (Wrong code)) s t = λ whole left r. t whole left (s whole left r)
Steps-remaining old middle new b (Err e) s t = (t.0, λ whole left r. t.1 whole left (s whole left r))
