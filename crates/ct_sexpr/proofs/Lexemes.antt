-- What stands at the start of bytes that begin with a whole atom, or with a prefix of one.
use Rattle.std.proofs.Common.{◌≡◌, ℕ, true, false, eqb, List, [], ◌∷◌, ◌++◌, Some, inl, inr, refl, sym, ap, ◌∙◌, subst}
use Rattle.std.proofs.lemmas.Bool.Decides.{eqb_tells}
use Rattle.std.proofs.lemmas.List.{append-nil}
use Rattle.ct_sexpr.specs.TakeWhile.{take_while, drop_while}
use Rattle.ct_sexpr.specs.Atom.{quoted, text, is_word_byte, begins_word, word_of, after_word, atom_of}
use Rattle.ct_sexpr.specs.Token.{atom, is_in_quoted_symbol, string_content, after_text, token, wrong, cut, quoted_lexeme, text_lexeme, word_lexeme, lexeme_at, is_empty, text_may_go_on, may_go_on}
use Rattle.ct_sexpr.specs.Written.{doubled}
use Rattle.ct_sexpr.specs.Scanning.{BeginsWord}
use Rattle.ct_sexpr.proofs.WhitespaceLemmas.{distinguished, take_while-append, drop_while-append}

-- a word, a keyword or a literal, by its first byte
lexeme_at-word : (b : ℕ) (bs : List ℕ) → begins_word b ≡ true → lexeme_at (b ∷ bs) ≡ word_lexeme (atom_of (b ∷ word_of bs)) (b ∷ bs) (after_word bs)
lexeme_at-word b bs h =
    rw (
      distinguished begins_word b 40 h refl,
      distinguished begins_word b 41 h refl,
      distinguished begins_word b 124 h refl,
      distinguished begins_word b 34 h refl,
      h,
    )
    refl

may_go_on-word : (b : ℕ) (bs : List ℕ) → begins_word b ≡ true → may_go_on (b ∷ bs) ≡ is_empty (after_word bs)
may_go_on-word b bs h = rw (distinguished begins_word b 124 h refl, distinguished begins_word b 34 h refl, h) refl

-- a word with bytes after it, by what they begin with
word_before : (w bs : List ℕ) → BeginsWord w → lexeme_at (w ++ bs) ≡ word_lexeme (atom_of (w ++ word_of bs)) (w ++ bs) (after_word bs)
word_before [] bs s = absurd s
word_before (c ∷ w) bs s =
    lexeme_at-word c (w ++ bs) s.0
    ∙ ap (λ v. word_lexeme (atom_of (c ∷ v)) (c ∷ (w ++ bs)) (after_word (w ++ bs))) (take_while-append is_word_byte w bs s.1)
    ∙ ap (λ v. word_lexeme (atom_of (c ∷ (w ++ word_of bs))) (c ∷ (w ++ bs)) v) (drop_while-append is_word_byte w bs s.1)

word_before_goes_on : (w bs : List ℕ) → BeginsWord w → may_go_on (w ++ bs) ≡ is_empty (after_word bs)
word_before_goes_on [] bs s = absurd s
word_before_goes_on (c ∷ w) bs s = may_go_on-word c (w ++ bs) s.0 ∙ ap is_empty (drop_while-append is_word_byte w bs s.1)

-- a word ends before a byte that is none of its
pub lexeme-word : (w : List ℕ) (b : ℕ) (bs : List ℕ) → BeginsWord w → is_word_byte b ≡ false →
    lexeme_at (w ++ b ∷ bs) ≡ word_lexeme (atom_of w) (w ++ b ∷ bs) (b ∷ bs)
lexeme-word w b bs s h =
    let run : word_of (b ∷ bs) ≡ [] = rw h refl in
    let remaining : after_word (b ∷ bs) ≡ b ∷ bs = rw h refl in
    word_before w (b ∷ bs) s
    ∙ ap (λ v. word_lexeme (atom_of (w ++ v)) (w ++ b ∷ bs) (after_word (b ∷ bs))) run
    ∙ ap (λ v. word_lexeme (atom_of (w ++ [])) (w ++ b ∷ bs) v) remaining
    ∙ ap (λ v. word_lexeme (atom_of v) (w ++ b ∷ bs) (b ∷ bs)) (append-nil w)

pub lexeme-word-definite : (w : List ℕ) (b : ℕ) (bs : List ℕ) → BeginsWord w → is_word_byte b ≡ false → may_go_on (w ++ b ∷ bs) ≡ false
lexeme-word-definite w b bs s h = word_before_goes_on w (b ∷ bs) s ∙ rw h refl

-- a word with nothing after it
pub lexeme-word-last : (w : List ℕ) → BeginsWord w → lexeme_at w ≡ word_lexeme (atom_of w) w []
lexeme-word-last w s = subst (λ v. lexeme_at v ≡ word_lexeme (atom_of v) v []) (append-nil w) (word_before w [] s)

pub lexeme-word-goes_on : (w : List ℕ) → BeginsWord w → may_go_on w ≡ true
lexeme-word-goes_on w s = ap may_go_on (sym (append-nil w)) ∙ word_before_goes_on w [] s

-- a quoted symbol with bytes after it, by what they begin with
quoted_before : (w bs : List ℕ) → drop_while is_in_quoted_symbol w ≡ [] →
    lexeme_at (124 ∷ (w ++ bs)) ≡ quoted_lexeme (w ++ take_while is_in_quoted_symbol bs) (drop_while is_in_quoted_symbol bs)
quoted_before w bs e =
    ap (λ v. quoted_lexeme v (drop_while is_in_quoted_symbol (w ++ bs))) (take_while-append is_in_quoted_symbol w bs e)
    ∙ ap (λ v. quoted_lexeme (w ++ take_while is_in_quoted_symbol bs) v) (drop_while-append is_in_quoted_symbol w bs e)

-- a quoted symbol ends with its `|`
pub lexeme-quoted : (w bs : List ℕ) → drop_while is_in_quoted_symbol w ≡ [] → lexeme_at (124 ∷ (w ++ 124 ∷ bs)) ≡ token (atom (quoted w)) bs
lexeme-quoted w bs e = quoted_before w (124 ∷ bs) e ∙ ap (λ v. token (atom (quoted v)) bs) (append-nil w)

-- no backslash stands in a quoted symbol
pub lexeme-quoted-backslash : (w bs : List ℕ) → drop_while is_in_quoted_symbol w ≡ [] → lexeme_at (124 ∷ (w ++ 92 ∷ bs)) ≡ wrong 1 (92 ∷ bs)
lexeme-quoted-backslash w bs e = quoted_before w (92 ∷ bs) e

pub lexeme-quoted-backslash-definite : (w bs : List ℕ) → drop_while is_in_quoted_symbol w ≡ [] → may_go_on (124 ∷ (w ++ 92 ∷ bs)) ≡ false
lexeme-quoted-backslash-definite w bs e = ap is_empty (drop_while-append is_in_quoted_symbol w (92 ∷ bs) e)

-- a quoted symbol that nothing ends
pub lexeme-quoted-cut : (w : List ℕ) → drop_while is_in_quoted_symbol w ≡ [] → lexeme_at (124 ∷ w) ≡ cut
lexeme-quoted-cut w e = ap (quoted_lexeme (take_while is_in_quoted_symbol w)) e

pub lexeme-quoted-goes_on : (w : List ℕ) → drop_while is_in_quoted_symbol w ≡ [] → may_go_on (124 ∷ w) ≡ true
lexeme-quoted-goes_on w e = ap is_empty e

-- what a string says, after the mark that begins it
string_content-doubled : (w rest : List ℕ) → string_content (doubled w ++ rest) ≡ w ++ string_content rest
string_content-doubled [] rest = refl
string_content-doubled (c ∷ w) rest =
    elim (eqb_tells c 34) [
      | inl x ↦ rw x.0 (rw x.0 (ap (λ v. c ∷ v) (string_content-doubled w rest)))
      | inr x ↦ rw x.0 (rw x.0 (ap (λ v. c ∷ v) (string_content-doubled w rest)))
    ]

after_text-doubled : (w rest : List ℕ) → after_text (doubled w ++ rest) ≡ after_text rest
after_text-doubled [] rest = refl
after_text-doubled (c ∷ w) rest =
    elim (eqb_tells c 34) [
      | inl x ↦ rw x.0 (rw x.0 (after_text-doubled w rest))
      | inr x ↦ rw x.0 (rw x.0 (after_text-doubled w rest))
    ]

-- a string with bytes after what it says so far, by what they begin with
text_before : (w rest : List ℕ) → lexeme_at (34 ∷ (doubled w ++ rest)) ≡ text_lexeme (w ++ string_content rest) (after_text rest)
text_before w rest =
    ap (λ v. text_lexeme v (after_text (doubled w ++ rest))) (string_content-doubled w rest)
    ∙ ap (λ v. text_lexeme (w ++ string_content rest) v) (after_text-doubled w rest)

-- a string ends with a mark after which no other stands
pub lexeme-text : (w : List ℕ) (b : ℕ) (bs : List ℕ) → eqb b 34 ≡ false → lexeme_at (34 ∷ (doubled w ++ 34 ∷ (b ∷ bs))) ≡ token (atom (text w)) (b ∷ bs)
lexeme-text w b bs h =
    let said : string_content (34 ∷ (b ∷ bs)) ≡ [] = rw h refl in
    let remaining : after_text (34 ∷ (b ∷ bs)) ≡ Some (b ∷ bs) = rw h refl in
    text_before w (34 ∷ (b ∷ bs))
    ∙ ap (λ v. text_lexeme (w ++ v) (after_text (34 ∷ (b ∷ bs)))) said
    ∙ ap (λ v. text_lexeme (w ++ []) v) remaining
    ∙ ap (λ v. token (atom (text v)) (b ∷ bs)) (append-nil w)

-- a string with nothing after its mark
pub lexeme-text-last : (w : List ℕ) → lexeme_at (34 ∷ (doubled w ++ 34 ∷ [])) ≡ token (atom (text w)) []
lexeme-text-last w = text_before w (34 ∷ []) ∙ ap (λ v. token (atom (text v)) []) (append-nil w)

pub lexeme-text-last-goes_on : (w : List ℕ) → may_go_on (34 ∷ (doubled w ++ 34 ∷ [])) ≡ true
lexeme-text-last-goes_on w = ap text_may_go_on (after_text-doubled w (34 ∷ []))

-- a string that nothing ends
pub lexeme-text-cut : (w : List ℕ) → lexeme_at (34 ∷ doubled w) ≡ cut
lexeme-text-cut w = ap (λ v. lexeme_at (34 ∷ v)) (sym (append-nil (doubled w))) ∙ text_before w []

pub lexeme-text-goes_on : (w : List ℕ) → may_go_on (34 ∷ doubled w) ≡ true
lexeme-text-goes_on w = ap (λ v. text_may_go_on (after_text v)) (sym (append-nil (doubled w))) ∙ ap text_may_go_on (after_text-doubled w [])

-- what is said further is doubled after what was said
pub doubled-append : (v w : List ℕ) → doubled (v ++ w) ≡ doubled v ++ doubled w
doubled-append [] w = refl
doubled-append (c ∷ v) w =
    elim (eqb_tells c 34) [
      | inl x ↦ rw x.0 (ap (λ u. c ∷ (c ∷ u)) (doubled-append v w))
      | inr x ↦ rw x.0 (ap (λ u. c ∷ u) (doubled-append v w))
    ]
