-- A command that more bytes complete ends in these.
use Rattle.std.proofs.Common.{◌≡◌, ℕ, ◌<◌, ◌≤◌, ◌⊎◌, inl, inr, Bool, true, false, cond, eqb, List, [], ◌∷◌, ◌++◌, length, Option, None, Some, Result, Ok, Err, refl, ap, sym, ◌∙◌, subst, arith, append_assoc, length-append}
use Rattle.std.proofs.lemmas.Bool.{cases_lt}
use Rattle.ct_sexpr.specs.Whitespace.{is_whitespace, ends_comment, after_whitespace, after_comment}
use Rattle.ct_sexpr.specs.TakeWhile.{take_while, drop_while}
use Rattle.ct_sexpr.specs.Atom.{Atom, text, word_of, after_word, atom_of, is_word_byte}
use Rattle.ct_sexpr.specs.Token.{Token, closing, atom, is_in_quoted_symbol, string_content, after_text, after_mark, Lexeme, token, wrong, cut, quoted_lexeme, text_lexeme, word_lexeme, lexeme_at, is_empty, text_may_go_on, may_go_on, AreTokens}
use Rattle.ct_sexpr.specs.Expression.{Expression}
use Rattle.ct_sexpr.specs.Reading.{BeginsCommand, HasNoCommand}
use Rattle.ct_sexpr.proofs.Branches.{by_test, either_has}
use Rattle.ct_sexpr.proofs.FirstBytes.{First, an_opening, a_closing, a_quoted, a_text, a_word, no_token, lexeme_from, goes_on_from, first_of, true_or_false}
use Rattle.ct_sexpr.proofs.Further.{after_whitespace-append, with_more, lexeme_stays}
use Rattle.ct_sexpr.proofs.Prefixes.{token_prefix, tokens_prefix, command_prefix, whitespace_prefix, after_is_shorter}
use Rattle.ct_sexpr.proofs.Texts.{AreTokens-append, same_token}
use Rattle.ct_sexpr.proofs.WhitespaceLemmas.{drop_while-append}

-- ---- what is passed over is no longer there

pub no_longer : (l : List ℕ) → length (after_whitespace l) ≤ length l
no_longer l = let h = whitespace_prefix l in omega (arith, length-append h.0 (after_whitespace l), ap (λ (xs : List ℕ). length xs) h.1)

comment_no_longer : (l : List ℕ) → length (after_comment l) ≤ length l
comment_no_longer [] = omega arith
comment_no_longer (b ∷ bs) =
    either_has (λ (x : List ℕ). length x ≤ length (b ∷ bs)) (ends_comment b) (after_whitespace bs) (after_comment bs)
    (omega (arith, no_longer bs)) (omega (arith, comment_no_longer bs))

run_no_longer : (test : ℕ → Bool) (l : List ℕ) → length (drop_while test l) ≤ length l
run_no_longer test [] = omega arith
run_no_longer test (b ∷ bs) =
    either_has (λ (x : List ℕ). length x ≤ length (b ∷ bs)) (test b) (drop_while test bs) (b ∷ bs) (omega (arith, run_no_longer test bs)) (omega arith)

-- one test on a text and on a longer one
both : {A B : Type 0} (P : A → B → Type 0) (p : Bool) (x y : A) (x' y' : B) → P x x' → P y y' → P (cond p x y) (cond p x' y')
both P true x y x' y' f g = f
both P false x y x' y' f g = g

-- where nothing is left of the first bytes after whitespace and comments, no more than the others is left of all
mutual
  spaces_over : (l more : List ℕ) → after_whitespace l ≡ [] → length (after_whitespace (l ++ more)) ≤ length more
  spaces_over [] more e = no_longer more
  spaces_over (c ∷ cs) more e =
      both (λ (x y : List ℕ). x ≡ [] → length y ≤ length more) (eqb c 59) (after_comment cs) (cond (is_whitespace c) (after_whitespace cs) (c ∷ cs)) (after_comment (cs ++ more)) (cond (is_whitespace c) (after_whitespace (cs ++ more)) (c ∷ (cs ++ more)))
      (comment_over cs more)
      (both (λ (x y : List ℕ). x ≡ [] → length y ≤ length more) (is_whitespace c) (after_whitespace cs) (c ∷ cs) (after_whitespace (cs ++ more)) (c ∷ (cs ++ more)) (spaces_over cs more) (λ k. cc))
      e

  comment_over : (l more : List ℕ) → after_comment l ≡ [] → length (after_comment (l ++ more)) ≤ length more
  comment_over [] more e = comment_no_longer more
  comment_over (c ∷ cs) more e =
      both (λ (x y : List ℕ). x ≡ [] → length y ≤ length more) (ends_comment c) (after_whitespace cs) (after_comment cs) (after_whitespace (cs ++ more)) (after_comment (cs ++ more))
      (spaces_over cs more) (comment_over cs more) e

-- what is left after a string is no more than so many bytes
abbrev LeavesFew : ℕ → Option (List ℕ) → Type 0
LeavesFew n None = Unit {0}
LeavesFew n (Some left) = length left ≤ n

few_more : (n m : ℕ) (left : Option (List ℕ)) → n ≤ m → LeavesFew n left → LeavesFew m left
few_more n m None le f = tt
few_more n m (Some left) le f = omega (arith, le, f)

mutual
  string_no_longer : (l : List ℕ) → LeavesFew (length l) (after_text l)
  string_no_longer [] = tt
  string_no_longer (b ∷ bs) =
      either_has (LeavesFew (length (b ∷ bs))) (eqb b 34) (after_mark bs) (after_text bs)
      (few_more (length bs) (length (b ∷ bs)) (after_mark bs) (omega arith) (mark_no_longer bs)) (few_more (length bs) (length (b ∷ bs)) (after_text bs) (omega arith) (string_no_longer bs))

  mark_no_longer : (l : List ℕ) → LeavesFew (length l) (after_mark l)
  mark_no_longer [] = omega arith
  mark_no_longer (b ∷ bs) =
      either_has (LeavesFew (length (b ∷ bs))) (eqb b 34) (after_text bs) (Some (b ∷ bs))
      (few_more (length bs) (length (b ∷ bs)) (after_text bs) (omega arith) (string_no_longer bs)) (omega arith)

-- a string that may go on in the first bytes ends in the others
mutual
  string_over : (l more : List ℕ) → text_may_go_on (after_text l) ≡ true → LeavesFew (length more) (after_text (l ++ more))
  string_over [] more e = string_no_longer more
  string_over (c ∷ cs) more e =
      both (λ (x y : Option (List ℕ)). text_may_go_on x ≡ true → LeavesFew (length more) y) (eqb c 34) (after_mark cs) (after_text cs) (after_mark (cs ++ more)) (after_text (cs ++ more))
      (mark_over cs more) (string_over cs more) e

  mark_over : (l more : List ℕ) → text_may_go_on (after_mark l) ≡ true → LeavesFew (length more) (after_mark (l ++ more))
  mark_over [] more e = mark_no_longer more
  mark_over (c ∷ cs) more e =
      both (λ (x y : Option (List ℕ)). text_may_go_on x ≡ true → LeavesFew (length more) y) (eqb c 34) (after_text cs) (Some (c ∷ cs)) (after_text (cs ++ more)) (Some (c ∷ (cs ++ more)))
      (string_over cs more) (λ k. cc) e

-- ---- a token that may go on in the first bytes is an atom, and leaves no more than the others

-- an atom that leaves no more than so many bytes
abbrev IsLongAtom : ℕ → Token → List ℕ → Type 0
IsLongAtom n t remaining = (a : Atom) × (t ≡ atom a) × (length remaining ≤ n)

empty : (l : List ℕ) → is_empty l ≡ true → l ≡ []
empty [] e = refl
empty (b ∷ bs) e = cc

quoted_over : (content left : List ℕ) (n : ℕ) (t : Token) (remaining : List ℕ) → length left ≤ n → quoted_lexeme content left ≡ token t remaining → IsLongAtom n t remaining
quoted_over content [] n t remaining few e = cc
quoted_over content (c ∷ cs) n t remaining few e =
    by_test (λ (l : Lexeme). l ≡ token t remaining → IsLongAtom n t remaining) (eqb c 124) _ _
    (λ _ k. let same = same_token _ t cs remaining k in (_, sym same.0, omega (arith, few, ap (λ (xs : List ℕ). length xs) same.1))) (λ _ k. cc) e

text_over : (content : List ℕ) (left : Option (List ℕ)) (n : ℕ) (t : Token) (remaining : List ℕ) → LeavesFew n left → text_lexeme content left ≡ token t remaining → IsLongAtom n t remaining
text_over content None n t remaining few e = cc
text_over content (Some left) n t remaining few e = let same = same_token (atom (text content)) t left remaining e in (text content, sym same.0, omega (arith, few, ap (λ (xs : List ℕ). length xs) same.1))

word_over : (read : Result Atom ℕ) (bytes left : List ℕ) (n : ℕ) (t : Token) (remaining : List ℕ) → length left ≤ n → word_lexeme read bytes left ≡ token t remaining → IsLongAtom n t remaining
word_over (Ok a) bytes left n t remaining few e = let same = same_token (atom a) t left remaining e in (a, sym same.0, omega (arith, few, ap (λ (xs : List ℕ). length xs) same.1))
word_over (Err code) bytes left n t remaining few e = cc

goes_over : (b : ℕ) (bs more : List ℕ) (t : Token) (remaining : List ℕ) → may_go_on (b ∷ bs) ≡ true → lexeme_at (b ∷ (bs ++ more)) ≡ token t remaining → IsLongAtom (length more) t remaining
goes_over b bs more t remaining g e =
    let f = first_of b in
    by f.0 (sym (f.1.goes_on bs) ∙ g) (sym (f.1.lexeme (bs ++ more)) ∙ e)
  where
    by : (f : First) → goes_on_from f bs ≡ true → lexeme_from f b (bs ++ more) ≡ token t remaining → IsLongAtom (length more) t remaining
    by an_opening h k = cc
    by a_closing h k = cc
    by a_quoted h k =
        let left = drop_while-append is_in_quoted_symbol bs more (empty (drop_while is_in_quoted_symbol bs) h) in
        quoted_over (take_while is_in_quoted_symbol (bs ++ more)) (drop_while is_in_quoted_symbol (bs ++ more)) (length more) t remaining (rw left (run_no_longer is_in_quoted_symbol more)) k
    by a_text h k = text_over (string_content (bs ++ more)) (after_text (bs ++ more)) (length more) t remaining (string_over bs more h) k
    by a_word h k =
        let left = drop_while-append is_word_byte bs more (empty (drop_while is_word_byte bs) h) in
        word_over (atom_of (b ∷ word_of (bs ++ more))) (b ∷ (bs ++ more)) (after_word (bs ++ more)) (length more) t remaining (rw left (run_no_longer is_word_byte more)) k
    by no_token h k = cc

-- ---- tokens that end before the last bytes are tokens without these

same_end : (xs ys more : List ℕ) → xs ++ more ≡ ys ++ more → xs ≡ ys
same_end [] [] more e = refl
same_end [] (y ∷ ys) more e = absurd (omega (arith, ap (λ (l : List ℕ). length l) e, length-append ys more))
same_end (x ∷ xs) [] more e = absurd (omega (arith, ap (λ (l : List ℕ). length l) e, length-append xs more))
same_end (x ∷ xs) (y ∷ ys) more e =
    let heads : x ≡ y = cc in
    let tails : xs ++ more ≡ ys ++ more = cc in
    ap (λ (l : List ℕ). x ∷ l) (same_end xs ys more tails) ∙ ap (λ (z : ℕ). z ∷ ys) heads

with_more_is : (l : Lexeme) (more : List ℕ) (t : Token) (left : List ℕ) → with_more more l ≡ token t (left ++ more) → l ≡ token t left
with_more_is (token u remaining) more t left e =
    let same = same_token u t (remaining ++ more) (left ++ more) e in
    ap (λ (x : Token). token x remaining) same.0 ∙ ap (λ (xs : List ℕ). token t xs) (same_end remaining left more same.1)
with_more_is (wrong code suffix) more t left e = cc
with_more_is cut more t left e = cc

token_shorter : (bytes more : List ℕ) (t : Token) (left : List ℕ) → lexeme_at (after_whitespace (bytes ++ more)) ≡ token t (left ++ more) → (0 < length left) ⊎ (t ≡ closing) → lexeme_at (after_whitespace bytes) ≡ token t left
token_shorter bytes more t left e ends = at (after_whitespace bytes) refl
  where
    none : after_whitespace bytes ≡ [] → ⊥
    none is =
        let shorter = after_is_shorter (left ++ more) (after_whitespace (bytes ++ more)) (token_prefix (after_whitespace (bytes ++ more)) t (left ++ more) e) in
        omega (arith, shorter, spaces_over bytes more is, length-append left more)

    long : IsLongAtom (length more) t (left ++ more) → ⊥
    long (a, is, few) = elim ends [ inl some ↦ omega (arith, some, few, length-append left more) | inr closes ↦ (let clash : atom a ≡ closing = sym is ∙ closes in cc) ]

    at : (l : List ℕ) → after_whitespace bytes ≡ l → lexeme_at l ≡ token t left
    at [] is = absurd (none is)
    at (b ∷ bs) is =
        let there : lexeme_at (b ∷ (bs ++ more)) ≡ token t (left ++ more) = sym (ap lexeme_at (after_whitespace-append bytes more b bs is)) ∙ e in
        elim (true_or_false (may_go_on (b ∷ bs))) [
          | inl g ↦ absurd (long (goes_over b bs more t (left ++ more) g there))
          | inr g ↦ with_more_is (lexeme_at (b ∷ bs)) more t left (sym (lexeme_stays (b ∷ bs) more g).0 ∙ there)
        ]

-- tokens that end with a closing parenthesis take a byte at least
tokens_shorten : (ts : List Token) (bytes rest : List ℕ) → AreTokens (ts ++ closing ∷ []) bytes rest → length rest < length bytes
tokens_shorten [] bytes rest a =
    let shorter = after_is_shorter a.0 (after_whitespace bytes) (token_prefix (after_whitespace bytes) closing a.0 a.1) in
    omega (arith, shorter, no_longer bytes, ap (λ (xs : List ℕ). length xs) a.2)
tokens_shorten (t ∷ ts) bytes rest a =
    let shorter = after_is_shorter a.0 (after_whitespace bytes) (token_prefix (after_whitespace bytes) t a.0 a.1) in
    omega (arith, shorter, no_longer bytes, tokens_shorten ts a.0 rest a.2)

tokens_shorter : (ts : List Token) (bytes rest more : List ℕ) → AreTokens (ts ++ closing ∷ []) (bytes ++ more) (rest ++ more) → AreTokens (ts ++ closing ∷ []) bytes rest
tokens_shorter [] bytes rest more a =
    (rest, token_shorter bytes more closing rest (subst (λ (xs : List ℕ). lexeme_at (after_whitespace (bytes ++ more)) ≡ token closing xs) a.2 a.1) (inr refl), refl)
tokens_shorter (t ∷ ts) bytes rest more a =
    let before = tokens_prefix (ts ++ closing ∷ []) a.0 (rest ++ more) a.2 in
    let left = before.0 ++ rest in
    let is : a.0 ≡ left ++ more = before.1 ∙ sym (append_assoc before.0 rest more) in
    let some : 0 < length left = omega (arith, tokens_shorten ts a.0 (rest ++ more) a.2, ap (λ (xs : List ℕ). length xs) is, length-append left more, length-append rest more) in (
      left,
      token_shorter bytes more t left (subst (λ (xs : List ℕ). lexeme_at (after_whitespace (bytes ++ more)) ≡ token t xs) is a.1) (inl some),
      tokens_shorter ts left rest more (subst (λ (xs : List ℕ). AreTokens (ts ++ closing ∷ []) xs (rest ++ more)) is a.2),
    )

pub split : (ts us : List Token) (bytes rest : List ℕ) → AreTokens (ts ++ us) bytes rest → (mid : List ℕ) × AreTokens ts bytes mid × AreTokens us mid rest
split [] us bytes rest a = (bytes, refl, a)
split (t ∷ ts) us bytes rest a = let later = split ts us a.0 rest a.2 in (later.0, (a.0, a.1, later.1), later.2)

-- a command that ends before the last bytes is there without these
pub command_shorter : (bytes : List ℕ) (e : Expression) (rest more : List ℕ) → BeginsCommand (bytes ++ more) e (rest ++ more) → BeginsCommand bytes e rest
command_shorter bytes e rest more c =
    let whole = AreTokens-append c.before (closing ∷ []) (bytes ++ more) c.remaining (rest ++ more) c.part.spelled c.closed in
    let parts = split c.before (closing ∷ []) bytes rest (tokens_shorter c.before bytes rest more whole) in
    record {
      before = c.before;
      remaining = parts.0;
      tokens = c.tokens;
      part = record { spelled = parts.1; nested = c.part.nested };
      closed = parts.2;
    }

-- a text that is put together in two ways
seam : (pre rest bytes more : List ℕ) → pre ++ rest ≡ bytes ++ more → length pre ≤ length bytes → (left : List ℕ) × (rest ≡ left ++ more)
seam [] rest bytes more e few = (bytes, e)
seam (x ∷ pre) rest [] more e few = absurd (omega (arith, few))
seam (x ∷ pre) rest (y ∷ bytes) more e few =
    let tails : pre ++ rest ≡ bytes ++ more = cc in
    seam pre rest bytes more tails (omega (arith, few))

-- a command that more bytes complete ends in these
pub ends_in_piece : (bytes piece : List ℕ) (e : Expression) (rest : List ℕ) → HasNoCommand bytes → BeginsCommand (bytes ++ piece) e rest → length rest < length piece
ends_in_piece bytes piece e rest none c = elim (cases_lt (length rest) (length piece)) [ inl fewer ↦ fewer | inr long ↦ absurd (early long) ]
  where
    early : length piece ≤ length rest → ⊥
    early long =
        let taken = command_prefix (bytes ++ piece) e rest c in
        let few : length taken.0 ≤ length bytes = omega (arith, long, ap (λ (xs : List ℕ). length xs) taken.2, length-append taken.0 rest, length-append bytes piece) in
        let left = seam taken.0 rest bytes piece (sym taken.2) few in
        none e left.0 (command_shorter bytes e left.0 piece (subst (λ (xs : List ℕ). BeginsCommand (bytes ++ piece) e xs) left.1 c))
