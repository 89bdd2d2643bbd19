-- What is left of a text is its end: a prefix was taken.
use Rattle.std.proofs.Common.{◌≡◌, ℕ, ◌<◌, Bool, true, false, eqb, nat_lt, cond, List, [], ◌∷◌, ◌++◌, length, Option, Some, None, Result, Ok, Err, inl, inr, refl, sym, ap, ◌∙◌, subst, arith, append_assoc, length-append}
use Rattle.std.proofs.lemmas.List.{append-nil}
use Rattle.ct_sexpr.specs.Whitespace.{is_whitespace, ends_comment, after_whitespace, after_comment}
use Rattle.ct_sexpr.specs.TakeWhile.{take_while, drop_while}
use Rattle.ct_sexpr.specs.ErrorNumber.{begins_no_token, ends_inside}
use Rattle.ct_sexpr.specs.Atom.{Atom, quoted, word_of, after_word, atom_of, is_word_byte}
use Rattle.ct_sexpr.specs.Token.{Token, closing, atom, bar, is_in_quoted_symbol, string_content, after_text, after_mark, Lexeme, token, wrong, cut, quoted_lexeme, text_lexeme, word_lexeme, lexeme_at, AreTokens}
use Rattle.ct_sexpr.specs.Expression.{Expression}
use Rattle.ct_sexpr.specs.Reading.{BeginsCommand, error_of, error_at, HasError}
use Rattle.ct_sexpr.proofs.Branches.{by_test, either_has}
use Rattle.ct_sexpr.proofs.FirstBytes.{First, an_opening, a_closing, a_quoted, a_text, a_word, no_token, lexeme_from, first_of, same_error, no_error, error_cases}

-- the text ends with the rest
abbrev pub EndsWith : List ℕ → List ℕ → Type 0
EndsWith bytes rest = (prefix : List ℕ) × (bytes ≡ prefix ++ rest)

-- the text ends with the rest, and is longer
abbrev pub IsAfter : List ℕ → List ℕ → Type 0
IsAfter rest bytes = (prefix : List ℕ) × (0 < length prefix) × (bytes ≡ prefix ++ rest)

one_more : (b : ℕ) (bytes rest : List ℕ) → EndsWith bytes rest → EndsWith (b ∷ bytes) rest
one_more b bytes rest h = (b ∷ h.0, ap (λ bs. b ∷ bs) h.1)

joined : (bytes middle rest : List ℕ) → EndsWith bytes middle → EndsWith middle rest → EndsWith bytes rest
joined bytes middle rest p q = (p.0 ++ q.0, p.1 ∙ ap (λ xs. p.0 ++ xs) q.1 ∙ sym (append_assoc p.0 q.0 rest))

-- what follows is shorter
pub after_is_shorter : (rest bytes : List ℕ) → IsAfter rest bytes → length rest < length bytes
after_is_shorter rest bytes h = omega (arith, h.1, length-append h.0 rest, ap length h.2)

pub after_joined : (bytes middle rest : List ℕ) → EndsWith bytes middle → IsAfter rest middle → IsAfter rest bytes
after_joined bytes middle rest p q =
    (p.0 ++ q.0, omega (arith, q.1, length-append p.0 q.0), p.1 ∙ ap (λ xs. p.0 ++ xs) q.2 ∙ sym (append_assoc p.0 q.0 rest))

-- whitespace and comments are a prefix
mutual
  pub whitespace_prefix : (bytes : List ℕ) → EndsWith bytes (after_whitespace bytes)
  whitespace_prefix [] = ([], refl)
  whitespace_prefix (b ∷ bs) =
      either_has (EndsWith (b ∷ bs)) (eqb b 59) _ _ (one_more b bs _ (comment_prefix bs))
      (either_has (EndsWith (b ∷ bs)) (is_whitespace b) _ _ (one_more b bs _ (whitespace_prefix bs)) ([], refl))

  comment_prefix : (bytes : List ℕ) → EndsWith bytes (after_comment bytes)
  comment_prefix [] = ([], refl)
  comment_prefix (b ∷ bs) = either_has (EndsWith (b ∷ bs)) (ends_comment b) _ _ (one_more b bs _ (whitespace_prefix bs)) (one_more b bs _ (comment_prefix bs))

-- the bytes that pass a test are a prefix
run_prefix : (test : ℕ → Bool) (bytes : List ℕ) → EndsWith bytes (drop_while test bytes)
run_prefix test [] = ([], refl)
run_prefix test (b ∷ bs) = either_has (EndsWith (b ∷ bs)) (test b) _ _ (one_more b bs _ (run_prefix test bs)) ([], refl)

-- what is left, where something is, is an end
abbrev Leaves : List ℕ → List ℕ → Option (List ℕ) → Type 0
Leaves bytes rest left = left ≡ Some rest → EndsWith bytes rest

all_left : (left rest : List ℕ) → Some left ≡ Some rest → EndsWith left rest
all_left left rest e = let same : left ≡ rest = cc in ([], same)

-- a string is a prefix
mutual
  text_prefix : (bytes rest : List ℕ) → after_text bytes ≡ Some rest → EndsWith bytes rest
  text_prefix [] rest e = cc
  text_prefix (b ∷ bs) rest e =
      by_test (Leaves (b ∷ bs) rest) (eqb b 34) (after_mark bs) (after_text bs)
      (λ _ k. one_more b bs rest (mark_prefix bs rest k)) (λ _ k. one_more b bs rest (text_prefix bs rest k)) e

  mark_prefix : (bytes rest : List ℕ) → after_mark bytes ≡ Some rest → EndsWith bytes rest
  mark_prefix [] rest e = all_left [] rest e
  mark_prefix (b ∷ bs) rest e =
      by_test (Leaves (b ∷ bs) rest) (eqb b 34) (after_text bs) (Some (b ∷ bs))
      (λ _ k. one_more b bs rest (text_prefix bs rest k)) (λ _ k. all_left (b ∷ bs) rest k) e

first_byte : (b : ℕ) (bs rest : List ℕ) → EndsWith bs rest → IsAfter rest (b ∷ bs)
first_byte b bs rest h = (b ∷ h.0, omega arith, ap (λ xs. b ∷ xs) h.1)

-- what a lexeme leaves after it comes after its first byte, and an error has its position there or at the first byte
abbrev Positioned : ℕ → List ℕ → Lexeme → Type 0
Positioned b bs (token t rest) = EndsWith bs rest
Positioned b bs (wrong code suffix) = EndsWith (b ∷ bs) suffix × (suffix ≡ [] → ⊥)
Positioned b bs cut = Unit {0}

quoted_positioned : (b : ℕ) (bs content left : List ℕ) → EndsWith bs left → Positioned b bs (quoted_lexeme content left)
quoted_positioned b bs content [] h = tt
quoted_positioned b bs content (c ∷ cs) h = by (eqb c bar)
  where
    by : (p : Bool) → Positioned b bs (cond p (token (atom (quoted content)) cs) (wrong begins_no_token (c ∷ cs)))
    by true = joined bs (c ∷ cs) cs h (c ∷ [], refl)
    by false = (one_more b bs (c ∷ cs) h, λ e. cc)

text_positioned : (b : ℕ) (bs content : List ℕ) (left : Option (List ℕ)) → ((rest : List ℕ) → left ≡ Some rest → EndsWith bs rest) → Positioned b bs (text_lexeme content left)
text_positioned b bs content None h = tt
text_positioned b bs content (Some rest) h = h rest refl

word_positioned : (b : ℕ) (bs : List ℕ) (read : Result Atom ℕ) (left : List ℕ) → EndsWith bs left → Positioned b bs (word_lexeme read (b ∷ bs) left)
word_positioned b bs (Ok a) left h = h
word_positioned b bs (Err code) left h = (([], refl), λ e. cc)

positioned : (b : ℕ) (bs : List ℕ) → Positioned b bs (lexeme_at (b ∷ bs))
positioned b bs =
    let f = first_of b in
    subst (Positioned b bs) (sym (f.1.lexeme bs)) (by f.0)
  where
    by : (f : First) → Positioned b bs (lexeme_from f b bs)
    by an_opening = ([], refl)
    by a_closing = ([], refl)
    by a_quoted = quoted_positioned b bs (take_while is_in_quoted_symbol bs) (drop_while is_in_quoted_symbol bs) (run_prefix is_in_quoted_symbol bs)
    by a_text = text_positioned b bs (string_content bs) (after_text bs) (λ rest e. text_prefix bs rest e)
    by a_word = word_positioned b bs (atom_of (b ∷ word_of bs)) (after_word bs) (run_prefix is_word_byte bs)
    by no_token = (([], refl), λ e. cc)

-- a token is a prefix that is not empty
pub token_prefix : (bytes : List ℕ) (t : Token) (rest : List ℕ) → lexeme_at bytes ≡ token t rest → IsAfter rest bytes
token_prefix [] t rest e = cc
token_prefix (b ∷ bs) t rest e = first_byte b bs rest (subst (Positioned b bs) e (positioned b bs))

-- before a lexeme that is wrong is a prefix, and it is not empty
pub wrong_prefix : (bytes : List ℕ) (code : ℕ) (suffix : List ℕ) → lexeme_at bytes ≡ wrong code suffix → EndsWith bytes suffix × (suffix ≡ [] → ⊥)
wrong_prefix [] code suffix e = cc
wrong_prefix (b ∷ bs) code suffix e = subst (Positioned b bs) e (positioned b bs)

-- tokens are a prefix
pub tokens_prefix : (ts : List Token) (bytes rest : List ℕ) → AreTokens ts bytes rest → EndsWith bytes rest
tokens_prefix [] bytes rest a = ([], a)
tokens_prefix (t ∷ ts) bytes rest a =
    let first = token_prefix (after_whitespace bytes) t a.0 a.1 in
    joined bytes (after_whitespace bytes) rest (whitespace_prefix bytes) (joined (after_whitespace bytes) a.0 rest (first.0, first.2) (tokens_prefix ts a.0 rest a.2))

-- a command is a prefix that is not empty
pub command_prefix : (bytes : List ℕ) (command : Expression) (rest : List ℕ) → BeginsCommand bytes command rest → IsAfter rest bytes
command_prefix bytes command rest begins =
    let closed = begins.closed in
    let last = token_prefix (after_whitespace begins.remaining) closing closed.0 closed.1 in
    let whole : IsAfter closed.0 bytes = after_joined bytes (after_whitespace begins.remaining) closed.0
    (joined bytes begins.remaining (after_whitespace begins.remaining) (tokens_prefix begins.before bytes begins.remaining begins.part.spelled) (whitespace_prefix begins.remaining)) last in
    rw (← closed.2) whole

nothing_left : (bytes suffix : List ℕ) → suffix ≡ [] → EndsWith bytes suffix
nothing_left bytes suffix e = (bytes, sym (append-nil bytes) ∙ ap (λ x. bytes ++ x) (sym e))

-- before an error is a prefix
error_prefix : (l : List ℕ) (depth code : ℕ) (suffix : List ℕ) → error_at depth l ≡ Some (code, suffix) → EndsWith l suffix
error_prefix [] depth code suffix e = at_end (nat_lt 0 depth) e
  where
    at_end : (p : Bool) → cond {A = Option (ℕ × List ℕ)} p (Some (ends_inside, [])) None ≡ Some (code, suffix) → EndsWith [] suffix
    at_end true k = nothing_left [] suffix (sym (same_error ends_inside code [] suffix k).1)
    at_end false k = absurd (no_error code suffix k)
error_prefix (b ∷ bs) depth code suffix e =
    elim (error_cases b bs depth code suffix e) [
      | inl here ↦ ([], sym here)
      | inr inside ↦ of (lexeme_at (b ∷ bs)) refl inside.1
    ]
  where
    of : (l : Lexeme) → lexeme_at (b ∷ bs) ≡ l → error_of l ≡ Some (code, suffix) → EndsWith (b ∷ bs) suffix
    of (token t remaining) is k = absurd (no_error code suffix k)
    of (wrong c p) is k = subst (EndsWith (b ∷ bs)) (same_error c code p suffix k).1 (wrong_prefix (b ∷ bs) c p is).0
    of cut is k = nothing_left (b ∷ bs) suffix (sym (same_error ends_inside code [] suffix k).1)

-- the bytes from the position of an error on are an end of the bytes
pub error_is_an_end : (bytes : List ℕ) (code : ℕ) (suffix : List ℕ) → HasError bytes code suffix → EndsWith bytes suffix
error_is_an_end bytes code suffix h =
    joined bytes h.rest suffix (tokens_prefix h.tokens bytes h.rest h.part.spelled)
    (joined h.rest (after_whitespace h.rest) suffix (whitespace_prefix h.rest) (error_prefix (after_whitespace h.rest) h.depth code suffix h.error))
