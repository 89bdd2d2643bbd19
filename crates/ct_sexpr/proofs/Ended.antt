-- How a text ends that a scanner has read whole.
use Rattle.std.proofs.Common.{◌≡◌, ℕ, ◌+◌, ◌<◌, true, List, [], ◌∷◌, ◌++◌, Some, Ok, Err, refl, sym, ap, ◌∙◌, subst, arith}
use Rattle.std.proofs.lemmas.List.{append-nil}
use Rattle.ct_sexpr.specs.Whitespace.{after_whitespace, line_feeds}
use Rattle.ct_sexpr.specs.Atom.{Atom, text, atom_of}
use Rattle.ct_sexpr.specs.Token.{atom, token, word_lexeme, lexeme_at, may_go_on}
use Rattle.ct_sexpr.specs.Reading.{error_of, error_at, BeginsPart, HasError, Waits, IsUnfinished, IsWhitespace}
use Rattle.ct_sexpr.specs.Written.{doubled}
use Rattle.ct_sexpr.specs.Open.{Open}
use Rattle.ct_sexpr.specs.Scanning.{IsAt, Reached, EndsWrong}
use Rattle.ct_sexpr.specs.declared.scanner.Mode.{Mode}
use Rattle.ct_sexpr.specs.declared.scanner.Mode.TheVariants.{Between, Comment, Word, Quoted, Text, Mark}
use Rattle.ct_sexpr.specs.declared.scanner.Scanner.{Scanner}
use Rattle.ct_sexpr.proofs.Nesting.{some_open}
use Rattle.ct_sexpr.proofs.Texts.{part_push}
use Rattle.ct_sexpr.proofs.Lexemes.{lexeme-word-last, lexeme-word-goes_on, lexeme-quoted-cut, lexeme-quoted-goes_on, lexeme-text-last, lexeme-text-last-goes_on, lexeme-text-cut, lexeme-text-goes_on}
use Rattle.ct_sexpr.proofs.Positions.{error_at-inside, error_at-word}
use Rattle.ct_sexpr.proofs.Counted.{nothing_read, word_on_line}

-- the bytes of an atom that bytes which follow may change wait for them
atom_waits : (l : List ℕ) (depth : ℕ) → 0 < depth → may_go_on l ≡ true → Waits depth l
atom_waits [] depth deep h = tt
atom_waits (b ∷ bs) depth deep h = (deep, h)

-- a text that was read to its end is unfinished
waits_at : (lists : Open) (mode : Mode) (word whole : List ℕ) → (at : IsAt lists mode word whole []) → Waits lists.depth (after_whitespace at.remaining)
waits_at lists Between word whole at = subst (Waits lists.depth) (sym at.goes_on.1) tt
waits_at lists Comment word whole at = subst (Waits lists.depth) (sym at.goes_on.1) tt
waits_at lists Word word whole at =
    atom_waits (after_whitespace at.remaining) lists.depth at.goes_on.1 (ap may_go_on (at.goes_on.2 ∙ append-nil word) ∙ lexeme-word-goes_on word at.goes_on.0)
waits_at lists Quoted word whole at =
    atom_waits (after_whitespace at.remaining) lists.depth at.goes_on.1 (ap may_go_on (at.goes_on.2 ∙ ap (λ l. 124 ∷ l) (append-nil word)) ∙ lexeme-quoted-goes_on word at.goes_on.0)
waits_at lists Text word whole at =
    atom_waits (after_whitespace at.remaining) lists.depth at.goes_on.0 (ap may_go_on (at.goes_on.1 ∙ ap (λ l. 34 ∷ l) (append-nil (doubled word))) ∙ lexeme-text-goes_on word)
waits_at lists Mark word whole at = atom_waits (after_whitespace at.remaining) lists.depth at.goes_on.0 (ap may_go_on at.goes_on.1 ∙ lexeme-text-last-goes_on word)

pub unfinished_at : (lists : Open) (mode : Mode) (word whole : List ℕ) → IsAt lists mode word whole [] → IsUnfinished whole
unfinished_at lists mode word whole at = record {
  tokens = lists.tokens;
  depth = lists.depth;
  rest = at.remaining;
  part = at.part;
  waits = waits_at lists mode word whole at;
}

-- a text that was read to its end, with nothing open, is whitespace and comments
whitespace_at : (lists : Open) (mode : Mode) (word whole : List ℕ) → lists.depth ≡ 0 → IsAt lists mode word whole [] → IsWhitespace whole
whitespace_at lists Between word whole none at =
    ap after_whitespace (nothing_read whole lists.tokens at.remaining (subst (λ d. BeginsPart whole lists.tokens d at.remaining) none at.part)) ∙ at.goes_on.1
whitespace_at lists Comment word whole none at =
    ap after_whitespace (nothing_read whole lists.tokens at.remaining (subst (λ d. BeginsPart whole lists.tokens d at.remaining) none at.part)) ∙ at.goes_on.1
whitespace_at lists Word word whole none at = absurd (omega (arith, at.goes_on.1))
whitespace_at lists Quoted word whole none at = absurd (omega (arith, at.goes_on.1))
whitespace_at lists Text word whole none at = absurd (omega (arith, at.goes_on.0))
whitespace_at lists Mark word whole none at = absurd (omega (arith, at.goes_on.0))

-- the input ends inside parentheses
open_end : (whole remaining : List ℕ) (lists : Open) → 0 < lists.depth → BeginsPart whole lists.tokens lists.depth remaining →
    error_at lists.depth (after_whitespace remaining) ≡ Some (3, []) → HasError whole 3 []
open_end whole remaining lists deep part e = record { tokens = lists.tokens; depth = lists.depth; rest = remaining; part = part; error = e }

-- there after a whole atom
atom_end : (whole remaining : List ℕ) (lists : Open) (a : Atom) → 0 < lists.depth → BeginsPart whole lists.tokens lists.depth remaining →
    lexeme_at (after_whitespace remaining) ≡ token (atom a) [] → HasError whole 3 []
atom_end whole remaining lists a deep part e = record {
  tokens = lists.tokens ++ atom a ∷ [];
  depth = lists.depth;
  rest = [];
  part = part_push whole remaining [] lists.tokens (atom a) lists.depth lists.depth part e (rw (some_open lists.depth deep) refl);
  error = rw (some_open lists.depth deep) refl;
}

-- the input ends inside parentheses, and a word that it ends is an atom
inside_at : (lists : Open) (mode : Mode) (word whole : List ℕ) → 0 < lists.depth → (mode ≡ Word → (a : Atom) × (atom_of word ≡ Ok a)) →
    IsAt lists mode word whole [] → HasError whole 3 []
inside_at lists Between word whole deep is at = open_end whole at.remaining lists deep at.part (ap (error_at lists.depth) at.goes_on.1 ∙ rw (some_open lists.depth deep) refl)
inside_at lists Comment word whole deep is at = open_end whole at.remaining lists deep at.part (ap (error_at lists.depth) at.goes_on.1 ∙ rw (some_open lists.depth deep) refl)
inside_at lists Word word whole deep is at =
    let a = is refl in
    atom_end whole at.remaining lists a.0 deep at.part
    (ap lexeme_at (at.goes_on.2 ∙ append-nil word) ∙ lexeme-word-last word at.goes_on.0 ∙ ap (λ r. word_lexeme r word []) a.1)
inside_at lists Quoted word whole deep is at =
    open_end whole at.remaining lists deep at.part
    (ap (error_at lists.depth) (at.goes_on.2 ∙ ap (λ l. 124 ∷ l) (append-nil word)) ∙ error_at-inside lists.depth 124 word deep refl refl ∙ ap error_of (lexeme-quoted-cut word at.goes_on.0))
inside_at lists Text word whole deep is at =
    open_end whole at.remaining lists deep at.part
    (ap (error_at lists.depth) (at.goes_on.1 ∙ ap (λ l. 34 ∷ l) (append-nil (doubled word))) ∙ error_at-inside lists.depth 34 (doubled word) deep refl refl ∙ ap error_of (lexeme-text-cut word))
inside_at lists Mark word whole deep is at = atom_end whole at.remaining lists (text word) deep at.part (ap lexeme_at at.goes_on.1 ∙ lexeme-text-last word)

-- the input ends with a word that is no atom
word_at : (lists : Open) (word whole : List ℕ) (code : ℕ) → atom_of word ≡ Err code → IsAt lists Word word whole [] → HasError whole code word
word_at lists word whole code is at = record {
  tokens = lists.tokens;
  depth = lists.depth;
  rest = at.remaining;
  part = at.part;
  error = ap (error_at lists.depth) at.goes_on.2
      ∙ error_at-word lists.depth word [] at.goes_on.0 at.goes_on.1
      ∙ ap (λ l. error_of (lexeme_at l)) (append-nil word)
      ∙ ap error_of (lexeme-word-last word at.goes_on.0 ∙ ap (λ r. word_lexeme r word []) is);
}

-- the end of the input where nothing is open
pub ends_as_whitespace : (s : Scanner) → s.lists.depth ≡ 0 → (whole : List ℕ) → Reached s whole [] → IsWhitespace whole
ends_as_whitespace s none whole r = whitespace_at s.lists s.mode s.word.items whole none r.position

-- the end of the input inside parentheses
pub ends_open : (s : Scanner) → 0 < s.lists.depth → (s.mode ≡ Word → (a : Atom) × (atom_of s.word.items ≡ Ok a)) → (whole : List ℕ) → Reached s whole [] → EndsWrong s 3 whole
ends_open s deep is whole r = record { suffix = []; error = inside_at s.lists s.mode s.word.items whole deep is r.position; line = r.lines.count }

-- the end of the input in a word that is no atom
pub ends_in_word : (s : Scanner) (code : ℕ) → s.mode ≡ Word → atom_of s.word.items ≡ Err code → (whole : List ℕ) → Reached s whole [] → EndsWrong s code whole
ends_in_word s code mode is whole r =
    let at = subst (λ m. IsAt s.lists m s.word.items whole []) mode r.position in
    let on_line : line_feeds s.word.items ≡ line_feeds [] = ap line_feeds (sym (append-nil s.word.items)) ∙ word_on_line s.word.items [] at.goes_on.0 in
    record { suffix = s.word.items; error = word_at s.lists s.word.items whole code is at; line = ap (λ n. s.line_feeds + n) on_line ∙ r.lines.count }
