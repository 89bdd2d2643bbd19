-- Where a scanner is, byte by byte.
use Rattle.std.proofs.Common.{◌≡◌, ℕ, ◌+◌, ◌-◌, ◌<◌, Bool, true, false, not, ◌||◌, eqb, nat_lt, List, [], ◌∷◌, ◌++◌, Some, Ok, Err, ◌⊎◌, inr, refl, sym, ap, ◌∙◌, subst}
use Rattle.std.proofs.lemmas.List.{append_assoc}
use Rattle.ct_sexpr.specs.Whitespace.{is_whitespace, after_whitespace}
use Rattle.ct_sexpr.specs.Atom.{Atom, quoted, text, is_word_byte, begins_word, atom_of}
use Rattle.ct_sexpr.specs.Token.{opening, closing, atom, is_in_quoted_symbol, word_lexeme, lexeme_at, begins_atom, may_go_on}
use Rattle.ct_sexpr.specs.Expression.{Expression, tokens_of}
use Rattle.ct_sexpr.specs.Reading.{nesting_limit, error_of, error_at, BeginsPart, BeginsCommand, HasDefiniteError}
use Rattle.ct_sexpr.specs.Written.{doubled}
use Rattle.ct_sexpr.specs.Open.{Open}
use Rattle.ct_sexpr.specs.Scanning.{BeginsWord, GoesOn, IsAt}
use Rattle.ct_sexpr.specs.declared.scanner.Mode.TheVariants.{Between, Word, Quoted, Text, Mark}
use Rattle.ct_sexpr.proofs.Nesting.{some_open}
use Rattle.ct_sexpr.proofs.Texts.{part_push}
use Rattle.ct_sexpr.proofs.WhitespaceLemmas.{distinguished, after_whitespace-other, drop_while-push}
use Rattle.ct_sexpr.proofs.Lexemes.{lexeme-word, lexeme-word-definite, lexeme-quoted, lexeme-quoted-backslash, lexeme-quoted-backslash-definite, lexeme-text, doubled-append}

BeginsWord-push : (w : List ℕ) (b : ℕ) → BeginsWord w → is_word_byte b ≡ true → BeginsWord (w ++ b ∷ [])
BeginsWord-push [] b s h = absurd s
BeginsWord-push (c ∷ w) b s h = (s.0, drop_while-push is_word_byte w b s.1 h)

-- one more byte of what a string says
doubled-push : (w : List ℕ) (b : ℕ) (left : List ℕ) → eqb b 34 ≡ false → doubled (w ++ b ∷ []) ++ left ≡ doubled w ++ b ∷ left
doubled-push w b left h =
    let one : doubled (b ∷ []) ≡ b ∷ [] = rw h refl in
    ap (λ v. v ++ left) (doubled-append w (b ∷ []) ∙ ap (λ v. doubled w ++ v) one) ∙ append_assoc (doubled w) (b ∷ []) left

doubled-push_mark : (w left : List ℕ) → doubled (w ++ 34 ∷ []) ++ left ≡ doubled w ++ 34 ∷ (34 ∷ left)
doubled-push_mark w left = ap (λ v. v ++ left) (doubled-append w (34 ∷ [])) ∙ append_assoc (doubled w) (34 ∷ (34 ∷ [])) left

-- the error of what stands inside parentheses and is none
pub error_at-inside : (depth b : ℕ) (bs : List ℕ) → 0 < depth → eqb b 40 ≡ false → eqb b 41 ≡ false → error_at depth (b ∷ bs) ≡ error_of (lexeme_at (b ∷ bs))
error_at-inside depth b bs deep h k =
    let test : nat_lt 0 depth ≡ true = some_open depth deep in
    rw (h, k, test) refl

-- the error of a word is that of its atom
pub error_at-word : (depth : ℕ) (w left : List ℕ) → BeginsWord w → 0 < depth → error_at depth (w ++ left) ≡ error_of (lexeme_at (w ++ left))
error_at-word depth [] left s deep = absurd s
error_at-word depth (c ∷ w) left s deep = error_at-inside depth c (w ++ left) deep (distinguished begins_word c 40 s.0 refl) (distinguished begins_word c 41 s.0 refl)

-- a parenthesis opens one list too many
pub error_at-deep : (depth : ℕ) (bs : List ℕ) → nat_lt depth nesting_limit ≡ false → error_at depth (40 ∷ bs) ≡ Some (4, 40 ∷ bs)
error_at-deep depth bs h = rw h refl

-- a parenthesis closes nothing
pub error_at-closing : (depth : ℕ) (bs : List ℕ) → depth ≡ 0 → error_at depth (41 ∷ bs) ≡ Some (2, 41 ∷ bs)
error_at-closing depth bs h = ap (λ d. error_at d (41 ∷ bs)) h

-- an atom stands outside all parentheses
pub error_at-outside : (depth b : ℕ) (bs : List ℕ) → begins_atom b ≡ true → depth ≡ 0 → error_at depth (b ∷ bs) ≡ Some (5, b ∷ bs)
error_at-outside depth b bs h none =
    ap (λ d. error_at d (b ∷ bs)) none ∙ rw (distinguished begins_atom b 40 h refl, distinguished begins_atom b 41 h refl, h) refl

-- what a byte that begins no atom is not
not_atom : (b n : ℕ) → begins_atom b ≡ false → begins_atom n ≡ true → eqb b n ≡ false
not_atom b n h k = distinguished (λ m. not (begins_atom m)) b n (ap not h) (ap not k)

not_word : (p q : Bool) → (p || q) ≡ false → p ≡ false
not_word true q e = e
not_word false q e = refl

-- a byte that begins no token
pub error_at-no_token : (depth b : ℕ) (bs : List ℕ) → begins_atom b ≡ false → eqb b 40 ≡ false → eqb b 41 ≡ false →
    (error_at depth (b ∷ bs) ≡ Some (1, b ∷ bs)) × (may_go_on (b ∷ bs) ≡ false)
error_at-no_token depth b bs h k l =
    let bar : eqb b 124 ≡ false = not_atom b 124 h refl in
    let mark : eqb b 34 ≡ false = not_atom b 34 h refl in
    let word : begins_word b ≡ false = not_word (begins_word b) _ h in
    (by (nat_lt 0 depth) bar mark word refl, rw (bar, mark, word) refl)
  where
    by : (p : Bool) → eqb b 124 ≡ false → eqb b 34 ≡ false → begins_word b ≡ false → nat_lt 0 depth ≡ p → error_at depth (b ∷ bs) ≡ Some (1, b ∷ bs)
    by true bar mark word e = rw (k, l, e, bar, mark, word) refl
    by false bar mark word e = rw (k, l, e, h) refl

module _ (lists : Open) (word whole left : List ℕ) (b : ℕ) where
  pub grow_word : is_word_byte b ≡ true → IsAt lists Word word whole (b ∷ left) → IsAt lists Word (word ++ b ∷ []) whole left
  grow_word h at = record {
    remaining = at.remaining;
    part = at.part;
    goes_on = (BeginsWord-push word b at.goes_on.0 h, at.goes_on.1, at.goes_on.2 ∙ sym (append_assoc word (b ∷ []) left));
  }

  pub end_word : (a : Atom) → is_word_byte b ≡ false → atom_of word ≡ Ok a → IsAt lists Word word whole (b ∷ left) →
      IsAt (record { tokens = lists.tokens ++ atom a ∷ []; depth = lists.depth }) Between [] whole (b ∷ left)
  end_word a h is at = record {
    remaining = b ∷ left;
    part = part_push whole at.remaining (b ∷ left) lists.tokens (atom a) lists.depth lists.depth at.part
        (ap lexeme_at at.goes_on.2 ∙ lexeme-word word b left at.goes_on.0 h ∙ ap (λ r. word_lexeme r (word ++ b ∷ left) (b ∷ left)) is)
        (rw (some_open lists.depth at.goes_on.1) refl);
    goes_on = (refl, refl);
  }

  pub wrong_word : (code : ℕ) → is_word_byte b ≡ false → atom_of word ≡ Err code → IsAt lists Word word whole (b ∷ left) → HasDefiniteError whole code (word ++ b ∷ left)
  wrong_word code h is at = record {
    tokens = lists.tokens;
    depth = lists.depth;
    rest = at.remaining;
    part = at.part;
    error = ap (error_at lists.depth) at.goes_on.2
        ∙ error_at-word lists.depth word (b ∷ left) at.goes_on.0 at.goes_on.1
        ∙ ap error_of (lexeme-word word b left at.goes_on.0 h ∙ ap (λ r. word_lexeme r (word ++ b ∷ left) (b ∷ left)) is);
    definite = inr (ap may_go_on at.goes_on.2 ∙ lexeme-word-definite word b left at.goes_on.0 h);
  }

  pub grow_quoted : is_in_quoted_symbol b ≡ true → IsAt lists Quoted word whole (b ∷ left) → IsAt lists Quoted (word ++ b ∷ []) whole left
  grow_quoted h at = record {
    remaining = at.remaining;
    part = at.part;
    goes_on = (
      drop_while-push is_in_quoted_symbol word b at.goes_on.0 h,
      at.goes_on.1,
      at.goes_on.2 ∙ ap (λ l. 124 ∷ l) (sym (append_assoc word (b ∷ []) left)),
    );
  }

  pub end_quoted : b ≡ 124 → IsAt lists Quoted word whole (b ∷ left) →
      IsAt (record { tokens = lists.tokens ++ atom (quoted word) ∷ []; depth = lists.depth }) Between [] whole left
  end_quoted h at = record {
    remaining = left;
    part = part_push whole at.remaining left lists.tokens (atom (quoted word)) lists.depth lists.depth at.part
        (ap lexeme_at (at.goes_on.2 ∙ ap (λ c. 124 ∷ (word ++ c ∷ left)) h) ∙ lexeme-quoted word left at.goes_on.0)
        (rw (some_open lists.depth at.goes_on.1) refl);
    goes_on = (refl, refl);
  }

  pub wrong_quoted : b ≡ 92 → IsAt lists Quoted word whole (b ∷ left) → HasDefiniteError whole 1 (b ∷ left)
  wrong_quoted h at =
      let reads : after_whitespace at.remaining ≡ 124 ∷ (word ++ 92 ∷ left) = at.goes_on.2 ∙ ap (λ c. 124 ∷ (word ++ c ∷ left)) h in
      record {
        tokens = lists.tokens;
        depth = lists.depth;
        rest = at.remaining;
        part = at.part;
        error = ap (error_at lists.depth) reads
            ∙ error_at-inside lists.depth 124 (word ++ 92 ∷ left) at.goes_on.1 refl refl
            ∙ ap error_of (lexeme-quoted-backslash word left at.goes_on.0)
            ∙ ap (λ c. Some (1, c ∷ left)) (sym h);
        definite = inr (ap may_go_on reads ∙ lexeme-quoted-backslash-definite word left at.goes_on.0);
      }

  pub grow_text : eqb b 34 ≡ false → IsAt lists Text word whole (b ∷ left) → IsAt lists Text (word ++ b ∷ []) whole left
  grow_text h at = record {
    remaining = at.remaining;
    part = at.part;
    goes_on = (at.goes_on.0, at.goes_on.1 ∙ ap (λ l. 34 ∷ l) (sym (doubled-push word b left h)));
  }

  pub double_mark : b ≡ 34 → IsAt lists Mark word whole (b ∷ left) → IsAt lists Text (word ++ b ∷ []) whole left
  double_mark h at = record {
    remaining = at.remaining;
    part = at.part;
    goes_on =
        subst (λ c. GoesOn Text (word ++ c ∷ []) lists.depth at.remaining left) (sym h)
        (at.goes_on.0, at.goes_on.1 ∙ ap (λ c. 34 ∷ (doubled word ++ 34 ∷ (c ∷ left))) h ∙ ap (λ l. 34 ∷ l) (sym (doubled-push_mark word left)));
  }

  pub end_text : eqb b 34 ≡ false → IsAt lists Mark word whole (b ∷ left) →
      IsAt (record { tokens = lists.tokens ++ atom (text word) ∷ []; depth = lists.depth }) Between [] whole (b ∷ left)
  end_text h at = record {
    remaining = b ∷ left;
    part = part_push whole at.remaining (b ∷ left) lists.tokens (atom (text word)) lists.depth lists.depth at.part
        (ap lexeme_at at.goes_on.1 ∙ lexeme-text word b left h) (rw (some_open lists.depth at.goes_on.0) refl);
    goes_on = (refl, refl);
  }

  pub open_list : b ≡ 40 → nat_lt lists.depth nesting_limit ≡ true → IsAt lists Between word whole (b ∷ left) →
      IsAt (record { tokens = lists.tokens ++ opening ∷ []; depth = lists.depth + 1 }) Between word whole left
  open_list h room at = record {
    remaining = left;
    part = part_push whole at.remaining left lists.tokens opening lists.depth (lists.depth + 1) at.part
        (ap lexeme_at (at.goes_on.1 ∙ ap (λ c. after_whitespace (c ∷ left)) h)) (rw room refl);
    goes_on = (at.goes_on.0, refl);
  }

  pub close_list : b ≡ 41 → nat_lt 1 lists.depth ≡ true → IsAt lists Between word whole (b ∷ left) →
      IsAt (record { tokens = lists.tokens ++ closing ∷ []; depth = lists.depth - 1 }) Between word whole left
  close_list h inner at = record {
    remaining = left;
    part = part_push whole at.remaining left lists.tokens closing lists.depth (lists.depth - 1) at.part
        (ap lexeme_at (at.goes_on.1 ∙ ap (λ c. after_whitespace (c ∷ left)) h)) (rw inner refl);
    goes_on = (at.goes_on.0, refl);
  }

  pub close_command : (e : Expression) → b ≡ 41 → lists.depth ≡ 1 → tokens_of e ≡ lists.tokens ++ closing ∷ [] →
      IsAt lists Between word whole (b ∷ left) → BeginsCommand whole e left
  close_command e h one tokens at = record {
    before = lists.tokens;
    remaining = at.remaining;
    tokens = tokens;
    part = subst (λ d. BeginsPart whole lists.tokens d at.remaining) one at.part;
    closed = (left, ap lexeme_at (at.goes_on.1 ∙ ap (λ c. after_whitespace (c ∷ left)) h), refl);
  }

  -- an error at the byte that comes next, between tokens
  pub find_error : (code : ℕ) → is_whitespace b ≡ false → eqb b 59 ≡ false → error_at lists.depth (b ∷ left) ≡ Some (code, b ∷ left) →
      (lists.depth ≡ 0) ⊎ (may_go_on (b ∷ left) ≡ false) → IsAt lists Between word whole (b ∷ left) → HasDefiniteError whole code (b ∷ left)
  find_error code h k error definite at =
      let reads : after_whitespace at.remaining ≡ b ∷ left = at.goes_on.1 ∙ after_whitespace-other b left h k in
      record {
        tokens = lists.tokens;
        depth = lists.depth;
        rest = at.remaining;
        part = at.part;
        error = ap (error_at lists.depth) reads ∙ error;
        definite = subst (λ l. (lists.depth ≡ 0) ⊎ (may_go_on l ≡ false)) (sym reads) definite;
      }
