-- The lines of a text, byte by byte.
use Rattle.std.proofs.Common.{◌≡◌, ℕ, ◌+◌, ◌<◌, ◌≤◌, Bool, true, false, not, eqb, cond, List, [], ◌∷◌, ◌++◌, length, inl, inr, Some, if◌then◌else◌, refl, sym, ap, ◌∙◌, subst, arith}
use Rattle.std.proofs.lemmas.Bool.Decides.{eqb_tells}
use Rattle.std.proofs.lemmas.List.Sums.{sum_by-append}
use Rattle.ct_sexpr.specs.Whitespace.{is_whitespace, ends_comment, after_whitespace, after_comment, line_feeds}
use Rattle.ct_sexpr.specs.TakeWhile.{drop_while}
use Rattle.ct_sexpr.specs.Atom.{is_word_byte, begins_word}
use Rattle.ct_sexpr.specs.Token.{Token, token, lexeme_at, AreTokens}
use Rattle.ct_sexpr.specs.Reading.{open_after, BeginsPart, error_at, HasError}
use Rattle.ct_sexpr.specs.Open.{Open}
use Rattle.ct_sexpr.specs.Scanning.{BeginsWord, IsAt, BeginsAfter, Counts}
use Rattle.ct_sexpr.specs.declared.scanner.Mode.TheVariants.{Between}
use Rattle.ct_sexpr.proofs.WhitespaceLemmas.{distinguished, run_goes_on}
use Rattle.ct_sexpr.proofs.Nesting.{one_is_open}

-- the lines that end in one byte and in what follows
line_feeds-cons : (b : ℕ) (bs : List ℕ) → line_feeds (b ∷ bs) ≡ line_feeds (b ∷ []) + line_feeds bs
line_feeds-cons b bs = sum_by-append (λ c. cond (eqb c 10) 1 0) (b ∷ []) bs

-- a byte that is no line feed ends no line
pub ends_no_line : (b : ℕ) → eqb b 10 ≡ false → line_feeds (b ∷ []) ≡ 0
ends_no_line b h = rw h refl

-- a run without line feeds ends no line
run_on_line : (test : ℕ → Bool) (w left : List ℕ) → test 10 ≡ false → drop_while test w ≡ [] → line_feeds (w ++ left) ≡ line_feeds left
run_on_line test [] left feed e = refl
run_on_line test (b ∷ w) left feed e =
    let p = run_goes_on (test b) (drop_while test w) w b e in
    let one : line_feeds (b ∷ []) ≡ 0 = ends_no_line b (distinguished test b 10 p.0 feed) in
    omega (arith, line_feeds-cons b (w ++ left), run_on_line test w left feed p.1)

pub word_on_line : (w left : List ℕ) → BeginsWord w → line_feeds (w ++ left) ≡ line_feeds left
word_on_line [] left s = absurd s
word_on_line (b ∷ w) left s =
    let one : line_feeds (b ∷ []) ≡ 0 = ends_no_line b (distinguished begins_word b 10 s.0 refl) in
    omega (arith, line_feeds-cons b (w ++ left), run_on_line is_word_byte w left refl s.1)

-- one byte ends one line at most
one_line : (b : ℕ) → line_feeds (b ∷ []) ≤ 1
one_line b = of (eqb b 10)
  where
    of : (p : Bool) → 0 + cond p 1 0 ≤ 1
    of true = omega arith
    of false = omega arith

-- a byte that is counted
pub count_byte : (depth lines before b : ℕ) (whole left : List ℕ) → Counts depth lines before whole (b ∷ left) →
    Counts depth (lines + line_feeds (b ∷ [])) before whole left
count_byte depth lines before b whole left c = record {
  count = omega (arith, line_feeds-cons b left, c.count);
  few = omega (arith, one_line b, c.few);
  begun = c.begun;
}

-- a byte that ends no line
pub count_other : (depth lines before b : ℕ) (whole left : List ℕ) → eqb b 10 ≡ false → Counts depth lines before whole (b ∷ left) →
    Counts depth lines before whole left
count_other depth lines before b whole left h c = record {
  count =
      let none : line_feeds (b ∷ []) ≡ 0 = rw h refl in
      omega (arith, line_feeds-cons b left, c.count);
  few = omega (arith, c.few);
  begun = c.begun;
}

-- the depth changes while something stays open
pub count_depth : (depth next lines before : ℕ) (whole left : List ℕ) → 0 < depth → Counts depth lines before whole left → Counts next lines before whole left
count_depth depth next lines before whole left h c = record { count = c.count; few = c.few; begun = λ _. c.begun h }

-- a command begins
pub count_begin : (depth next lines before begun : ℕ) (whole left : List ℕ) → BeginsAfter begun whole → Counts depth lines before whole left → Counts next lines begun whole left
count_begin depth next lines before begun whole left h c = record { count = c.count; few = c.few; begun = λ _. h }

-- where nothing is open there is no token yet
no_tokens : (ts : List Token) → open_after ts 0 ≡ Some 0 → ts ≡ []
no_tokens [] e = refl
no_tokens (t ∷ ts) e = absurd (omega (arith, one_is_open t ts 0 0 e))

-- where nothing is open, the text goes on as the bytes after the last token
pub nothing_read : (whole : List ℕ) (ts : List Token) (remaining : List ℕ) → BeginsPart whole ts 0 remaining → whole ≡ remaining
nothing_read whole ts remaining p = subst (λ us. AreTokens us whole remaining) (no_tokens ts p.nested) p.spelled

-- no more lines end than there are bytes
line_feeds-le : (l : List ℕ) → line_feeds l ≤ length l
line_feeds-le [] = omega arith
line_feeds-le (b ∷ bs) = omega (arith, line_feeds-cons b bs, one_line b, line_feeds-le bs)

-- bytes after which something is left have more bytes than lines
abbrev HasMore : List ℕ → List ℕ → Type 0
HasMore l remaining = (b : ℕ) (bs : List ℕ) → remaining ≡ b ∷ bs → line_feeds l < length l

one_more : (c : ℕ) (cs : List ℕ) → line_feeds cs < length cs → line_feeds (c ∷ cs) < length (c ∷ cs)
one_more c cs h = omega (arith, line_feeds-cons c cs, one_line c)

whitespace_by : (p q : Bool) (c : ℕ) (cs : List ℕ) → is_whitespace c ≡ q → HasMore cs (after_comment cs) → HasMore cs (after_whitespace cs) →
    HasMore (c ∷ cs) (cond p (after_comment cs) (cond q (after_whitespace cs) (c ∷ cs)))
whitespace_by true q c cs is comment whitespace b bs e = one_more c cs (comment b bs e)
whitespace_by false true c cs is comment whitespace b bs e = one_more c cs (whitespace b bs e)
whitespace_by false false c cs is comment whitespace b bs e =
    let one : line_feeds (c ∷ []) ≡ 0 = ends_no_line c (distinguished (λ m. not (is_whitespace m)) c 10 (ap not is) refl) in
    omega (arith, line_feeds-cons c cs, line_feeds-le cs)

comment_by : (p : Bool) (c : ℕ) (cs : List ℕ) → HasMore cs (after_whitespace cs) → HasMore cs (after_comment cs) →
    HasMore (c ∷ cs) (cond p (after_whitespace cs) (after_comment cs))
comment_by true c cs whitespace comment b bs e = one_more c cs (whitespace b bs e)
comment_by false c cs whitespace comment b bs e = one_more c cs (comment b bs e)

mutual
  more_than_whitespace : (l : List ℕ) → HasMore l (after_whitespace l)
  more_than_whitespace [] b bs e = cc
  more_than_whitespace (c ∷ cs) b bs e = whitespace_by (eqb c 59) (is_whitespace c) c cs refl (more_than_comment cs) (more_than_whitespace cs) b bs e

  more_than_comment : (l : List ℕ) → HasMore l (after_comment l)
  more_than_comment [] b bs e = cc
  more_than_comment (c ∷ cs) b bs e = comment_by (ends_comment c) c cs (more_than_whitespace cs) (more_than_comment cs) b bs e

-- bytes with an error have more bytes than lines
pub more_than_lines : (whole : List ℕ) (code : ℕ) (suffix : List ℕ) → HasError whole code suffix → line_feeds whole < length whole
more_than_lines whole code suffix h = of h.tokens h.depth h.rest h.part.spelled h.part.nested h.error
  where
    at_prefix : (l : List ℕ) → after_whitespace whole ≡ l → error_at 0 l ≡ Some (code, suffix) → line_feeds whole < length whole
    at_prefix [] is e = cc
    at_prefix (b ∷ bs) is e = more_than_whitespace whole b bs is

    at_token : (l : List ℕ) (t : Token) (remaining : List ℕ) → after_whitespace whole ≡ l → lexeme_at l ≡ token t remaining → line_feeds whole < length whole
    at_token [] t remaining is e = cc
    at_token (b ∷ bs) t remaining is e = more_than_whitespace whole b bs is

    of : (ts : List Token) (depth : ℕ) (rest : List ℕ) → AreTokens ts whole rest → open_after ts 0 ≡ Some depth → error_at depth (after_whitespace rest) ≡ Some (code, suffix) → line_feeds whole < length whole
    of [] depth rest a n e =
        let outside : 0 ≡ depth = cc in
        at_prefix (after_whitespace whole) refl
        (subst (λ d. error_at d (after_whitespace whole) ≡ Some (code, suffix)) (sym outside) (subst (λ l. error_at depth (after_whitespace l) ≡ Some (code, suffix)) (sym a) e))
    of (t ∷ ts) depth rest a n e = at_token (after_whitespace whole) t a.0 refl a.1

-- the command that is open, or that the next byte would begin, begins after so many lines
pub begins_after : (lists : Open) (word whole left : List ℕ) (b lines before : ℕ) → IsAt lists Between word whole (b ∷ left) →
    after_whitespace (b ∷ left) ≡ b ∷ left → Counts lists.depth lines before whole (b ∷ left) → BeginsAfter (if eqb lists.depth 0 then lines else before) whole
begins_after lists word whole left b lines before at here c =
    elim (eqb_tells lists.depth 0) [
      | inl x ↦ rw x.0 (first x.1)
      | inr x ↦ rw x.0 (c.begun (omega (arith, x.1)))
    ]
  where
    first : lists.depth ≡ 0 → BeginsAfter lines whole
    first none =
        let same : whole ≡ at.remaining = nothing_read whole lists.tokens at.remaining (subst (λ d. BeginsPart whole lists.tokens d at.remaining) none at.part) in
        let prefix : after_whitespace whole ≡ b ∷ left = ap after_whitespace same ∙ at.goes_on.1 ∙ here in
        record { count = ap (λ l. lines + line_feeds l) prefix ∙ c.count; few = let e = c.few in omega arith }
