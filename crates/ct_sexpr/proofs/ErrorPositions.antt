-- The number of an error is 1 to 6, and most numbers say where the error stands.
use Rattle.std.proofs.Common.{◌≡◌, ℕ, ◌≤◌, ◌<◌, true, false, eqb, nat_lt, ◌&&◌, List, [], ◌∷◌, Option, Some, None, Result, Ok, Err, ◌⊎◌, inl, inr, refl, sym, ap, ◌∙◌, subst, arith, true≢false}
use Rattle.std.specs.List.{list_all}
use Rattle.std.specs.Char.{is_ascii_digit, is_ascii_hexdigit}
use Rattle.std.proofs.lemmas.Bool.Decides.{nat_tests}
use Rattle.ct_sexpr.specs.Whitespace.{after_whitespace}
use Rattle.ct_sexpr.specs.TakeWhile.{take_while, drop_while}
use Rattle.ct_sexpr.specs.ErrorNumber.{begins_no_token, closes_nothing, ends_inside, nests_too_deep, atom_outside, numeral_too_great}
use Rattle.ct_sexpr.specs.Atom.{Atom, word_of, after_word, are_digits, is_point_and_digits, is_binary_digit, numeral_value, numeral_bound, number, keyword_of, literal, atom_of}
use Rattle.ct_sexpr.specs.Token.{Token, left_parenthesis, right_parenthesis, is_in_quoted_symbol, string_content, after_text, Lexeme, token, wrong, cut, bar, quoted_lexeme, text_lexeme, word_lexeme, lexeme_at, begins_atom, AreTokens}
use Rattle.ct_sexpr.specs.Reading.{nesting_limit, open_after, error_of, error_at, HasError}
use Rattle.ct_sexpr.proofs.Branches.{by_test, either_has}
use Rattle.ct_sexpr.proofs.Nesting.{some_open, one_is_open}
use Rattle.ct_sexpr.proofs.FirstBytes.{First, an_opening, a_closing, a_quoted, a_text, a_word, no_token, lexeme_from, first_of}

-- the number of the error of a word, or of what stands at the start
abbrev IsOfLexeme : ℕ → Type 0
IsOfLexeme code = (code ≡ begins_no_token) ⊎ (code ≡ numeral_too_great)

abbrev WordNumber : Result Atom ℕ → Type 0
WordNumber (Ok a) = Unit {0}
WordNumber (Err code) = IsOfLexeme code

abbrev LexemeNumber : Lexeme → Type 0
LexemeNumber (token t remaining) = Unit {0}
LexemeNumber (wrong code suffix) = IsOfLexeme code
LexemeNumber cut = Unit {0}

none_begins : IsOfLexeme 1
none_begins = inl refl

number_number : (word : List ℕ) → WordNumber (number word)
number_number word =
    either_has WordNumber (list_all is_ascii_digit word) _ _
    (either_has WordNumber (nat_lt (numeral_value word) numeral_bound) _ _ tt (inr refl))
    (either_has WordNumber (is_point_and_digits (drop_while is_ascii_digit word)) _ _ tt none_begins)

keyword_number : (word : List ℕ) → WordNumber (keyword_of word)
keyword_number [] = none_begins
keyword_number (b ∷ bs) = either_has WordNumber (is_ascii_digit b) _ _ none_begins tt

literal_number : (word : List ℕ) → WordNumber (literal word)
literal_number [] = none_begins
literal_number (b ∷ bs) =
    either_has WordNumber (eqb b 98 && are_digits is_binary_digit bs) _ _ tt
    (either_has WordNumber (eqb b 120 && are_digits is_ascii_hexdigit bs) _ _ tt none_begins)

word_number : (word : List ℕ) → WordNumber (atom_of word)
word_number [] = none_begins
word_number (b ∷ bs) =
    either_has WordNumber (eqb b 58) _ _ (keyword_number bs)
    (either_has WordNumber (eqb b 35) _ _ (literal_number bs) (either_has WordNumber (is_ascii_digit b) _ _ (number_number (b ∷ bs)) tt))

lexeme_number : (bytes : List ℕ) → LexemeNumber (lexeme_at bytes)
lexeme_number [] = tt
lexeme_number (b ∷ bs) = let f = first_of b in subst LexemeNumber (sym (f.1.lexeme bs)) (by f.0)
  where
    quoted_number : (content left : List ℕ) → LexemeNumber (quoted_lexeme content left)
    quoted_number content [] = tt
    quoted_number content (c ∷ cs) = either_has LexemeNumber (eqb c bar) _ _ tt none_begins

    text_number : (content : List ℕ) (left : Option (List ℕ)) → LexemeNumber (text_lexeme content left)
    text_number content None = tt
    text_number content (Some left) = tt

    of_word : (read : Result Atom ℕ) (left : List ℕ) → WordNumber read → LexemeNumber (word_lexeme read (b ∷ bs) left)
    of_word (Ok a) left n = tt
    of_word (Err code) left n = n

    by : (f : First) → LexemeNumber (lexeme_from f b bs)
    by an_opening = tt
    by a_closing = tt
    by a_quoted = quoted_number (take_while is_in_quoted_symbol bs) (drop_while is_in_quoted_symbol bs)
    by a_text = text_number (string_content bs) (after_text bs)
    by a_word = of_word (atom_of (b ∷ word_of bs)) (after_word bs) (word_number (b ∷ word_of bs))
    by no_token = none_begins

-- the position of an error outside all parentheses is the start of the bytes
abbrev AtPrefix : ℕ → List ℕ → List ℕ → Type 0
AtPrefix depth bytes suffix = (nat_lt 0 depth ≡ false) × (bytes ≡ suffix)

-- what the number of the error at the start of bytes says, where so many parentheses are open
record Positioned (depth : ℕ) (bytes : List ℕ) (code : ℕ) (suffix : List ℕ) : Type 0 where
  known : (1 ≤ code) × (code ≤ 6)
  closing : code ≡ closes_nothing → (remaining : List ℕ) × (suffix ≡ right_parenthesis ∷ remaining) × AtPrefix depth bytes suffix
  ending : code ≡ ends_inside → suffix ≡ []
  opening : code ≡ nests_too_deep → (remaining : List ℕ) × (suffix ≡ left_parenthesis ∷ remaining)
  outside : code ≡ atom_outside → (b : ℕ) × (remaining : List ℕ) × (suffix ≡ b ∷ remaining) × (begins_atom b ≡ true) × AtPrefix depth bytes suffix

abbrev ErrorPositioned : ℕ → List ℕ → Option (ℕ × List ℕ) → Type 0
ErrorPositioned depth bytes None = Unit {0}
ErrorPositioned depth bytes (Some x) = Positioned depth bytes x.0 x.1

-- the error of a word or of what stands at the start has no number between
neither : (code n : ℕ) → IsOfLexeme code → code ≡ n → 1 < n → n < 6 → ⊥
neither code n k e low high = elim k [ inl one ↦ omega (arith, one, e, low) | inr six ↦ omega (arith, six, e, high) ]

lexeme_positioned : (depth : ℕ) (bytes : List ℕ) (code : ℕ) (suffix : List ℕ) → IsOfLexeme code → Positioned depth bytes code suffix
lexeme_positioned depth bytes code suffix n = record {
  known = elim n [ inl e ↦ (omega (arith, e), omega (arith, e)) | inr e ↦ (omega (arith, e), omega (arith, e)) ];
  closing = λ e. absurd (neither code closes_nothing n e (omega arith) (omega arith));
  ending = λ e. absurd (neither code ends_inside n e (omega arith) (omega arith));
  opening = λ e. absurd (neither code nests_too_deep n e (omega arith) (omega arith));
  outside = λ e. absurd (neither code atom_outside n e (omega arith) (omega arith));
}

end_positioned : (depth : ℕ) (bytes : List ℕ) → Positioned depth bytes ends_inside []
end_positioned depth bytes = record {
  known = (omega arith, omega arith);
  closing = λ k. absurd (omega (arith, k));
  ending = λ k. refl;
  opening = λ k. absurd (omega (arith, k));
  outside = λ k. absurd (omega (arith, k));
}

opening_positioned : (depth b : ℕ) (bs : List ℕ) → eqb b 40 ≡ true → Positioned depth (b ∷ bs) nests_too_deep (b ∷ bs)
opening_positioned depth b bs is = record {
  known = (omega arith, omega arith);
  closing = λ k. absurd (omega (arith, k));
  ending = λ k. absurd (omega (arith, k));
  opening = λ k. (bs, let same : b ≡ 40 = grind (arith, nat_tests) in ap (λ x. x ∷ bs) same);
  outside = λ k. absurd (omega (arith, k));
}

closing_positioned : (depth b : ℕ) (bs : List ℕ) → eqb b 41 ≡ true → nat_lt 0 depth ≡ false → Positioned depth (b ∷ bs) closes_nothing (b ∷ bs)
closing_positioned depth b bs is closed = record {
  known = (omega arith, omega arith);
  closing = λ k. (bs, let same : b ≡ 41 = grind (arith, nat_tests) in ap (λ x. x ∷ bs) same, (closed, refl));
  ending = λ k. absurd (omega (arith, k));
  opening = λ k. absurd (omega (arith, k));
  outside = λ k. absurd (omega (arith, k));
}

atom_positioned : (depth b : ℕ) (bs : List ℕ) → begins_atom b ≡ true → nat_lt 0 depth ≡ false → Positioned depth (b ∷ bs) atom_outside (b ∷ bs)
atom_positioned depth b bs is closed = record {
  known = (omega arith, omega arith);
  closing = λ k. absurd (omega (arith, k));
  ending = λ k. absurd (omega (arith, k));
  opening = λ k. absurd (omega (arith, k));
  outside = λ k. (b, bs, refl, is, (closed, refl));
}

inside_positioned : (depth : ℕ) (bytes : List ℕ) (l : Lexeme) → LexemeNumber l → ErrorPositioned depth bytes (error_of l)
inside_positioned depth bytes (token t remaining) n = tt
inside_positioned depth bytes (wrong code suffix) n = lexeme_positioned depth bytes code suffix n
inside_positioned depth bytes cut n = end_positioned depth bytes

error_positioned : (depth : ℕ) (bytes : List ℕ) → ErrorPositioned depth bytes (error_at depth bytes)
error_positioned depth [] = either_has (λ e. ErrorPositioned depth [] e) (nat_lt 0 depth) _ _ (end_positioned depth []) tt
error_positioned depth (b ∷ bs) =
    by_test (λ e. ErrorPositioned depth (b ∷ bs) e) (eqb b 40) _ _
    (λ is. either_has (λ e. ErrorPositioned depth (b ∷ bs) e) (nat_lt depth nesting_limit) _ _ tt (opening_positioned depth b bs is))
    (λ other. by_test (λ e. ErrorPositioned depth (b ∷ bs) e) (eqb b 41) _ _
    (λ is. by_test (λ e. ErrorPositioned depth (b ∷ bs) e) (nat_lt 0 depth) _ _ (λ some. tt) (λ closed. closing_positioned depth b bs is closed))
    (λ no_closing. by_test (λ e. ErrorPositioned depth (b ∷ bs) e) (nat_lt 0 depth) _ _
    (λ some. inside_positioned depth (b ∷ bs) (lexeme_at (b ∷ bs)) (lexeme_number (b ∷ bs)))
    (λ closed. by_test (λ n. Positioned depth (b ∷ bs) n (b ∷ bs)) (begins_atom b) atom_outside begins_no_token
    (λ is. atom_positioned depth b bs is closed) (λ is. lexeme_positioned depth (b ∷ bs) begins_no_token (b ∷ bs) none_begins))))

-- what the number of an error says of its position
positioned : (bytes : List ℕ) (code : ℕ) (suffix : List ℕ) (h : HasError bytes code suffix) → Positioned h.depth (after_whitespace h.rest) code suffix
positioned bytes code suffix h = subst (ErrorPositioned h.depth (after_whitespace h.rest)) h.error (error_positioned h.depth (after_whitespace h.rest))

-- an error outside all parentheses stands at the start of the bytes, since no token was read
at_prefix : (bytes : List ℕ) (code : ℕ) (suffix : List ℕ) (h : HasError bytes code suffix) → AtPrefix h.depth (after_whitespace h.rest) suffix → after_whitespace bytes ≡ suffix
at_prefix bytes code suffix h prefix = ap after_whitespace (nothing_read h.tokens h.part.spelled h.part.nested) ∙ prefix.1
  where
    nothing_read : (ts : List Token) → AreTokens ts bytes h.rest → open_after ts 0 ≡ Some h.depth → bytes ≡ h.rest
    nothing_read [] a o = a
    nothing_read (t ∷ ts) a o = absurd (true≢false (sym (some_open h.depth (one_is_open t ts 0 h.depth o)) ∙ prefix.0))

-- an error has a number from 1 to 6
pub numbers : (bytes : List ℕ) (code : ℕ) (suffix : List ℕ) → HasError bytes code suffix → (1 ≤ code) × (code ≤ 6)
numbers bytes code suffix h = (positioned bytes code suffix h).known

-- a closing parenthesis outside all parentheses is the first of the bytes after whitespace and comments
pub closing_position : (bytes suffix : List ℕ) → HasError bytes closes_nothing suffix → (remaining : List ℕ) × (suffix ≡ right_parenthesis ∷ remaining) × (after_whitespace bytes ≡ suffix)
closing_position bytes suffix h = let p = (positioned bytes closes_nothing suffix h).closing refl in (p.0, p.1, at_prefix bytes closes_nothing suffix h p.2)

-- that the input ends inside parentheses is an error at its end
pub ending_position : (bytes suffix : List ℕ) → HasError bytes ends_inside suffix → suffix ≡ []
ending_position bytes suffix h = (positioned bytes ends_inside suffix h).ending refl

-- what nests too deep is an opening parenthesis
pub opening_position : (bytes suffix : List ℕ) → HasError bytes nests_too_deep suffix → (remaining : List ℕ) × (suffix ≡ left_parenthesis ∷ remaining)
opening_position bytes suffix h = (positioned bytes nests_too_deep suffix h).opening refl

-- an atom outside all parentheses is the first of the bytes after whitespace and comments
pub outside_position : (bytes suffix : List ℕ) → HasError bytes atom_outside suffix →
    (b : ℕ) × (remaining : List ℕ) × (suffix ≡ b ∷ remaining) × (begins_atom b ≡ true) × (after_whitespace bytes ≡ suffix)
outside_position bytes suffix h =
    let p = (positioned bytes atom_outside suffix h).outside refl in
    (p.0, p.1, p.2, p.3, at_prefix bytes atom_outside suffix h p.4)
