-- Atoms that a text says have the form of their kind, and words of that form are read as their atoms.
use Rattle.std.proofs.Common.{◌≡◌, ℕ, ◌<◌, Bool, true, false, not, ◌&&◌, ◌||◌, eqb, nat_lt, ltb, List, [], ◌∷◌, ◌++◌, Result, Ok, Err, Option, Some, None, IfOk, inl, inr, refl, sym, ap, ◌∙◌, subst, arith, true≢false}
use Rattle.std.specs.List.{list_all}
use Rattle.std.specs.Char.{is_ascii_digit, is_ascii_hexdigit}
use Rattle.std.specs.Fmt.{decimal}
use Rattle.std.specs.Cmp.Derive.{both_true}
use Rattle.std.proofs.lemmas.Bool.{eqb-true}
use Rattle.std.proofs.lemmas.Bool.Decides.{eqb_tells, nat_tests}
use Rattle.ct_lemmas.proofs.Booleans.{both_parts, not_is_false}
use Rattle.ct_sexpr.specs.Whitespace.{after_whitespace}
use Rattle.ct_sexpr.specs.TakeWhile.{take_while, drop_while}
use Rattle.ct_sexpr.specs.Atom.{Atom, symbol, quoted, keyword, numeral, decimal as decimal_atom, binary, hexadecimal, is_word_byte, begins_word, word_of, after_word, are_digits, is_binary_digit, is_point_and_digits, numeral_value, numeral_bound, number, keyword_of, literal, atom_of}
use Rattle.ct_sexpr.specs.Token.{Token, opening, closing, atom, is_in_quoted_symbol, string_content, after_text, Lexeme, token, wrong, cut, quoted_lexeme, text_lexeme, word_lexeme, lexeme_at, AreTokens}
use Rattle.ct_sexpr.specs.Expression.{Expression, leaf, list, Expressions, none, more, tokens_of, tokens_of_each}
use Rattle.ct_sexpr.specs.Written.{forms_symbol, written_atom}
use Rattle.ct_sexpr.specs.Readable.{is_keyword, is_decimal, is_literal, HasForm, IsReadable, AreReadable}
use Rattle.ct_sexpr.specs.Scanning.{BeginsWord}
use Rattle.ct_sexpr.proofs.Branches.{by_test}
use Rattle.ct_sexpr.proofs.WhitespaceLemmas.{distinguished, run_goes_on}
use Rattle.ct_sexpr.proofs.Numbers.{AreDigitsOf, decimal-AreDigitsOf}

-- what is written of the atom is a word that is the atom
abbrev pub IsWord : Atom → Type 0
IsWord a = BeginsWord (written_atom a) × (atom_of (written_atom a) ≡ Ok a)

-- a run leaves nothing after it exactly if all bytes pass
pub all_run : (test : ℕ → Bool) (bs : List ℕ) → list_all test bs ≡ true → drop_while test bs ≡ []
all_run test [] h = refl
all_run test (b ∷ bs) h =
    let p = both_parts (test b) (list_all test bs) h in
    rw p.0 (all_run test bs p.1)

run_all : (test : ℕ → Bool) (bs : List ℕ) → drop_while test bs ≡ [] → list_all test bs ≡ true
run_all test [] h = refl
run_all test (b ∷ bs) h =
    let p = run_goes_on (test b) (drop_while test bs) bs b h in
    both_true p.0 (run_all test bs p.1)

-- bytes of a kind that words have are a run of a word
within_word : (test : ℕ → Bool) → ((b : ℕ) → test b ≡ true → is_word_byte b ≡ true) → (bs : List ℕ) → list_all test bs ≡ true → after_word bs ≡ []
within_word test f [] h = refl
within_word test f (b ∷ bs) h =
    let p = both_parts (test b) (list_all test bs) h in
    rw (f b p.0) (within_word test f bs p.1)

digit_in_word : (b : ℕ) → is_ascii_digit b ≡ true → is_word_byte b ≡ true
digit_in_word b h = rw h refl

binary_digit_in_word : (b : ℕ) → is_binary_digit b ≡ true → is_word_byte b ≡ true
binary_digit_in_word b h =
    elim (eqb_tells b 48) [
      | inl x ↦ subst (λ c. is_word_byte c ≡ true) (sym x.1) refl
      | inr x ↦
          elim (eqb_tells b 49) [
            | inl y ↦ subst (λ c. is_word_byte c ≡ true) (sym y.1) refl
            | inr y ↦ let none : is_binary_digit b ≡ false = rw (x.0, y.0) refl in absurd (true≢false (sym h ∙ none))
          ]
    ]

hexadecimal_digit_in_word : (b : ℕ) → is_ascii_hexdigit b ≡ true → is_word_byte b ≡ true
hexadecimal_digit_in_word b h = grind (arith, nat_tests)

some_digits : (test : ℕ → Bool) (ds : List ℕ) → are_digits test ds ≡ true → list_all test ds ≡ true
some_digits test [] h = cc
some_digits test (d ∷ ds) h = h

-- a word that forms a symbol is that symbol
pub symbol_IsWord : (w : List ℕ) → forms_symbol w ≡ true → IsWord (symbol w)
symbol_IsWord [] h = cc
symbol_IsWord (b ∷ bs) h =
    let p = both_parts (not (is_ascii_digit b)) (list_all is_word_byte (b ∷ bs)) h in
    let q = both_parts (is_word_byte b) (list_all is_word_byte bs) p.1 in
    let no_digit : is_ascii_digit b ≡ false = not_is_false (is_ascii_digit b) p.0 in
    ((rw q.0 refl, all_run is_word_byte bs q.1), rw (distinguished is_word_byte b 58 q.0 refl, distinguished is_word_byte b 35 q.0 refl, no_digit) refl)

-- so it is after a colon
after_colon : (bs : List ℕ) → forms_symbol bs ≡ true → IsWord (keyword (58 ∷ bs))
after_colon [] h = cc
after_colon (c ∷ cs) h =
    let p = both_parts (not (is_ascii_digit c)) (list_all is_word_byte (c ∷ cs)) h in
    ((refl, all_run is_word_byte (c ∷ cs) p.1), rw (not_is_false (is_ascii_digit c) p.0) refl)

pub keyword_IsWord : (w : List ℕ) → is_keyword w ≡ true → IsWord (keyword w)
keyword_IsWord [] h = cc
keyword_IsWord (b ∷ bs) h =
    let p = both_parts (eqb b 58) (forms_symbol bs) h in
    subst (λ c. IsWord (keyword (c ∷ bs))) (sym (eqb-true b 58 p.0)) (after_colon bs p.1)

number_is : (n : ℕ) (w : List ℕ) → n < numeral_bound → AreDigitsOf n w → number w ≡ Ok (numeral n)
number_is n w small d =
    let e : ltb (numeral_value w) numeral_bound ≡ true = grind (arith, nat_tests) in
    rw (d.0, e) (ap (λ m. Ok (numeral m)) d.2)

atom_of-digit : (b : ℕ) (bs : List ℕ) → is_ascii_digit b ≡ true → atom_of (b ∷ bs) ≡ number (b ∷ bs)
atom_of-digit b bs h = rw (distinguished is_ascii_digit b 58 h refl, distinguished is_ascii_digit b 35 h refl, h) refl

-- digits that write a number below the bound are its numeral
numeral_is : (n : ℕ) (w : List ℕ) → n < numeral_bound → AreDigitsOf n w → BeginsWord w × (atom_of w ≡ Ok (numeral n))
numeral_is n [] small d = absurd (omega arith)
numeral_is n (b ∷ bs) small d =
    let p = both_parts (is_ascii_digit b) (list_all is_ascii_digit bs) d.0 in
    ((rw p.0 refl, within_word is_ascii_digit digit_in_word bs p.1), atom_of-digit b bs p.0 ∙ number_is n (b ∷ bs) small d)

pub numeral_IsWord : (n : ℕ) → n < numeral_bound → IsWord (numeral n)
numeral_IsWord n small = numeral_is n (decimal n) small (decimal-AreDigitsOf n small)

-- a point and digits after digits go on with the word, and are no digits
digits_and_more : (ds : List ℕ) → after_word (drop_while is_ascii_digit ds) ≡ [] → after_word ds ≡ []
digits_and_more [] h = refl
digits_and_more (d ∷ ds) h =
    by_test (λ left. after_word left ≡ [] → after_word (d ∷ ds) ≡ []) (is_ascii_digit d) (drop_while is_ascii_digit ds) (d ∷ ds)
    (λ e k. rw e (digits_and_more ds k)) (λ e k. k) h

point_in_word : (bs : List ℕ) → is_point_and_digits bs ≡ true → after_word bs ≡ []
point_in_word [] h = refl
point_in_word (b ∷ bs) h =
    let p = both_parts (eqb b 46) (are_digits is_ascii_digit bs) h in
    subst (λ c. after_word (c ∷ bs) ≡ []) (sym (eqb-true b 46 p.0)) (within_word is_ascii_digit digit_in_word bs (some_digits is_ascii_digit bs p.1))

not_all_digits : (ds : List ℕ) (all : Bool) → list_all is_ascii_digit ds ≡ all → is_point_and_digits (drop_while is_ascii_digit ds) ≡ true → all ≡ false
not_all_digits ds true e h =
    let nothing : is_point_and_digits (drop_while is_ascii_digit ds) ≡ false = ap is_point_and_digits (all_run is_ascii_digit ds e) in
    absurd (true≢false (sym h ∙ nothing))
not_all_digits ds false e h = refl

pub decimal_IsWord : (w : List ℕ) → is_decimal w ≡ true → IsWord (decimal_atom w)
decimal_IsWord [] h = cc
decimal_IsWord (d ∷ ds) h =
    let p = both_parts (is_ascii_digit d) (is_point_and_digits (drop_while is_ascii_digit ds)) h in
    let not_all : list_all is_ascii_digit ds ≡ false = not_all_digits ds (list_all is_ascii_digit ds) refl p.1 in
    ((rw p.0 refl, digits_and_more ds (point_in_word (drop_while is_ascii_digit ds) p.1)), atom_of-digit d ds p.0 ∙ rw (p.0, not_all, p.1) refl)

-- after a number sign and its letter digits are a literal
pub binary_IsWord : (w : List ℕ) → is_literal 98 is_binary_digit w ≡ true → IsWord (binary w)
binary_IsWord [] h = cc
binary_IsWord (b ∷ []) h = cc
binary_IsWord (b ∷ (c ∷ ds)) h =
    let p = both_parts (eqb b 35) (eqb c 98 && are_digits is_binary_digit ds) h in
    let q = both_parts (eqb c 98) (are_digits is_binary_digit ds) p.1 in
    let whole : IsWord (binary (35 ∷ (98 ∷ ds))) = ((refl, within_word is_binary_digit binary_digit_in_word ds (some_digits is_binary_digit ds q.1)), rw q.1 refl) in
    subst (λ x. IsWord (binary (x ∷ (c ∷ ds)))) (sym (eqb-true b 35 p.0)) (subst (λ x. IsWord (binary (35 ∷ (x ∷ ds)))) (sym (eqb-true c 98 q.0)) whole)

pub hexadecimal_IsWord : (w : List ℕ) → is_literal 120 is_ascii_hexdigit w ≡ true → IsWord (hexadecimal w)
hexadecimal_IsWord [] h = cc
hexadecimal_IsWord (b ∷ []) h = cc
hexadecimal_IsWord (b ∷ (c ∷ ds)) h =
    let p = both_parts (eqb b 35) (eqb c 120 && are_digits is_ascii_hexdigit ds) h in
    let q = both_parts (eqb c 120) (are_digits is_ascii_hexdigit ds) p.1 in
    let whole : IsWord (hexadecimal (35 ∷ (120 ∷ ds))) = ((refl, within_word is_ascii_hexdigit hexadecimal_digit_in_word ds (some_digits is_ascii_hexdigit ds q.1)), rw q.1 refl) in
    subst (λ x. IsWord (hexadecimal (x ∷ (c ∷ ds)))) (sym (eqb-true b 35 p.0)) (subst (λ x. IsWord (hexadecimal (35 ∷ (x ∷ ds)))) (sym (eqb-true c 120 q.0)) whole)

-- the atom of a word, where it is one, has the form of its kind
abbrev Forms : Result Atom ℕ → Type 0
Forms r = IfOk r HasForm

number_forms : (d : ℕ) (ds : List ℕ) → is_ascii_digit d ≡ true → Forms (number (d ∷ ds))
number_forms d ds h =
    let w = d ∷ ds in
    by_test Forms (list_all is_ascii_digit w) _ _
    (λ _. by_test Forms (nat_lt (numeral_value w) numeral_bound) (Ok (numeral (numeral_value w))) (Err 6) (λ small. grind (arith, nat_tests)) (λ _. tt))
    (λ _. by_test Forms (is_point_and_digits (drop_while is_ascii_digit w)) (Ok (decimal_atom w)) (Err 1) (λ e. both_true h (rw h at e)) (λ _. tt))

keyword_forms : (bs : List ℕ) → after_word bs ≡ [] → Forms (keyword_of bs)
keyword_forms [] h = tt
keyword_forms (b ∷ bs) h =
    by_test Forms (is_ascii_digit b) (Err 1) (Ok (keyword (58 ∷ (b ∷ bs)))) (λ _. tt) (λ e. both_true (ap not e) (run_all is_word_byte (b ∷ bs) h))

literal_forms : (bs : List ℕ) → Forms (literal bs)
literal_forms [] = tt
literal_forms (b ∷ bs) =
    by_test Forms (eqb b 98 && are_digits is_binary_digit bs) (Ok (binary (35 ∷ (b ∷ bs)))) _ (λ e. e)
    (λ _. by_test Forms (eqb b 120 && are_digits is_ascii_hexdigit bs) (Ok (hexadecimal (35 ∷ (b ∷ bs)))) (Err 1) (λ e. e) (λ _. tt))

first_of_three : (p q r : Bool) → p || (q || r) ≡ true → q ≡ false → r ≡ false → p ≡ true
first_of_three true q r h e f = refl
first_of_three false true r h e f = cc
first_of_three false false true h e f = cc
first_of_three false false false h e f = cc

pub atom_forms : (w : List ℕ) → BeginsWord w → Forms (atom_of w)
atom_forms [] s = absurd s
atom_forms (b ∷ bs) s =
    by_test Forms (eqb b 58) (keyword_of bs) _ (λ _. keyword_forms bs s.1)
    (λ no_colon. by_test Forms (eqb b 35) (literal bs) _ (λ _. literal_forms bs)
    (λ no_sign. by_test Forms (is_ascii_digit b) (number (b ∷ bs)) (Ok (symbol (b ∷ bs))) (λ e. number_forms b bs e)
    (λ e. both_true (ap not e) (both_true (first_of_three (is_word_byte b) (eqb b 58) (eqb b 35) s.0 no_colon no_sign) (run_all is_word_byte bs s.1)))))

-- the atom of a token has the form of its kind
abbrev HasFormToken : Token → Type 0
HasFormToken opening = Unit {0}
HasFormToken closing = Unit {0}
HasFormToken (atom a) = HasForm a

abbrev HaveForms : List Token → Type 0
HaveForms [] = Unit {0}
HaveForms (t ∷ ts) = HasFormToken t × HaveForms ts

abbrev Says : Lexeme → Type 0
Says (token t remaining) = HasFormToken t
Says (wrong code suffix) = Unit {0}
Says cut = Unit {0}

drop_while-take_while : (test : ℕ → Bool) (bs : List ℕ) → drop_while test (take_while test bs) ≡ []
drop_while-take_while test [] = refl
drop_while-take_while test (b ∷ bs) = by_test (λ r. drop_while test r ≡ []) (test b) (b ∷ take_while test bs) [] (λ h. rw h (drop_while-take_while test bs)) (λ _. refl)

quoted_says : (w rest : List ℕ) → list_all is_in_quoted_symbol w ≡ true → Says (quoted_lexeme w rest)
quoted_says w [] h = tt
quoted_says w (c ∷ cs) h = by_test Says (eqb c 124) (token (atom (quoted w)) cs) (wrong 1 (c ∷ cs)) (λ _. h) (λ _. tt)

text_says : (w : List ℕ) (remaining : Option (List ℕ)) → Says (text_lexeme w remaining)
text_says w None = tt
text_says w (Some bs) = tt

word_says : (r : Result Atom ℕ) (bytes remaining : List ℕ) → Forms r → Says (word_lexeme r bytes remaining)
word_says (Ok a) bytes remaining h = h
word_says (Err code) bytes remaining h = tt

lexeme_says : (bytes : List ℕ) → Says (lexeme_at bytes)
lexeme_says [] = tt
lexeme_says (b ∷ bs) =
    by_test Says (eqb b 40) (token opening bs) _ (λ _. tt)
    (λ _. by_test Says (eqb b 41) (token closing bs) _ (λ _. tt)
    (λ _. by_test Says (eqb b 124) (quoted_lexeme (take_while is_in_quoted_symbol bs) (drop_while is_in_quoted_symbol bs)) _
    (λ _. quoted_says (take_while is_in_quoted_symbol bs) (drop_while is_in_quoted_symbol bs) (run_all is_in_quoted_symbol (take_while is_in_quoted_symbol bs) (drop_while-take_while is_in_quoted_symbol bs)))
    (λ _. by_test Says (eqb b 34) (text_lexeme (string_content bs) (after_text bs)) _ (λ _. text_says (string_content bs) (after_text bs))
    (λ _. by_test Says (begins_word b) (word_lexeme (atom_of (b ∷ word_of bs)) (b ∷ bs) (after_word bs)) (wrong 1 (b ∷ bs))
    (λ h. word_says (atom_of (b ∷ word_of bs)) (b ∷ bs) (after_word bs) (atom_forms (b ∷ word_of bs) (h, drop_while-take_while is_word_byte bs)))
    (λ _. tt)))))

tokens_HaveForms : (ts : List Token) (bytes rest : List ℕ) → AreTokens ts bytes rest → HaveForms ts
tokens_HaveForms [] bytes rest h = tt
tokens_HaveForms (t ∷ ts) bytes rest h = (subst Says h.1 (lexeme_says (after_whitespace bytes)), tokens_HaveForms ts h.0 rest h.2)

HaveForms-parts : (ts us : List Token) → HaveForms (ts ++ us) → HaveForms ts × HaveForms us
HaveForms-parts [] us h = (tt, h)
HaveForms-parts (t ∷ ts) us h =
    let p = HaveForms-parts ts us h.1 in
    ((h.0, p.0), p.1)

mutual
  forms_readable : (e : Expression) → HaveForms (tokens_of e) → IsReadable e
  forms_readable (leaf a) h = h.0
  forms_readable (list es) h = forms_readable_each es (HaveForms-parts (tokens_of_each es) (closing ∷ []) h.1).0

  forms_readable_each : (es : Expressions) → HaveForms (tokens_of_each es) → AreReadable es
  forms_readable_each none h = tt
  forms_readable_each (more e es) h =
      let p = HaveForms-parts (tokens_of e) (tokens_of_each es) h in
      (forms_readable e p.0, forms_readable_each es p.1)

-- an expression of which bytes begin with the tokens is readable
pub tokens_IsReadable : (e : Expression) (bytes rest : List ℕ) → AreTokens (tokens_of e) bytes rest → IsReadable e
tokens_IsReadable e bytes rest h = forms_readable e (tokens_HaveForms (tokens_of e) bytes rest h)
