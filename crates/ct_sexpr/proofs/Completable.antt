-- Whitespace and comments, and bytes whose input ends too early, are the beginning of a command.
use Rattle.std.proofs.Common.{◌≡◌, ℕ, zero, suc, ◌+◌, ◌-◌, true, false, eqb, nat_lt, List, [], ◌∷◌, ◌++◌, length, Option, Some, None, Result, Ok, Err, ◌⊎◌, inl, inr, refl, sym, ap, ◌∙◌, subst, arith, append_assoc, true≢false}
use Rattle.std.proofs.lemmas.List.{append-nil}
use Rattle.std.proofs.lemmas.Bool.Decides.{nat_tests}
use Rattle.ct_sexpr.specs.Whitespace.{is_whitespace, ends_comment, after_whitespace, after_comment}
use Rattle.ct_sexpr.specs.TakeWhile.{take_while, drop_while}
use Rattle.ct_sexpr.specs.ErrorNumber.{ends_inside}
use Rattle.ct_sexpr.specs.Atom.{Atom, quoted, text, word_of, after_word, atom_of, is_word_byte}
use Rattle.ct_sexpr.specs.Token.{Token, opening, closing, atom, is_in_quoted_symbol, string_content, after_text, after_mark, Lexeme, token, wrong, cut, quoted_lexeme, text_lexeme, word_lexeme, lexeme_at, is_empty, text_may_go_on, may_go_on, AreTokens}
use Rattle.ct_sexpr.specs.Expression.{Expression, Expressions, leaf, list, none, more, tokens_of, tokens_of_each, with_last}
use Rattle.ct_sexpr.specs.Reading.{nesting_limit, open_after, error_of, error_at, BeginsPart, BeginsCommand, HasError, IsWhitespace}
use Rattle.ct_sexpr.proofs.Nesting.{passed}
use Rattle.ct_sexpr.proofs.FirstBytes.{First, an_opening, a_closing, a_quoted, a_text, a_word, no_token, lexeme_from, goes_on_from, first_of, true_or_false, same_error, no_error, error_cases, quoted_goes_on, quoted_is_not_cut, word_is_not_cut}
use Rattle.ct_sexpr.proofs.Texts.{part_push}
use Rattle.ct_sexpr.proofs.Prefixes.{wrong_prefix}
use Rattle.ct_sexpr.proofs.Further.{either, after_whitespace-append, drop_while-longer, take_while-longer, after_text-longer, string_content-longer, with_more, token_stays, AreTokens-longer, some_left}

-- the tokens of one more expression
tokens_of_each-with_last : (es : Expressions) (e : Expression) → tokens_of_each (with_last es e) ≡ tokens_of_each es ++ tokens_of e
tokens_of_each-with_last none e = append-nil (tokens_of e)
tokens_of_each-with_last (more f es) e =
    ap (λ ts. tokens_of f ++ ts) (tokens_of_each-with_last es e) ∙ sym (append_assoc (tokens_of f) (tokens_of_each es) (tokens_of e))

-- the tokens of lists that are open, the innermost first
abbrev spelled : List Expressions → List Token
spelled [] = []
spelled (es ∷ outer) = spelled outer ++ opening ∷ tokens_of_each es

filled : (es : Expressions) (outer : List Expressions) (e : Expression) (ts : List Token) →
    spelled (with_last es e ∷ outer) ++ ts ≡ spelled (es ∷ outer) ++ (tokens_of e ++ ts)
filled es outer e ts =
    ap (λ us. (spelled outer ++ opening ∷ us) ++ ts) (tokens_of_each-with_last es e) ∙ simp append_assoc

-- tokens that leave lists open are those of such lists
stacked : (ts : List Token) (lists : List Expressions) (m : ℕ) → open_after ts (length lists) ≡ Some m →
    (all : List Expressions) × (length all ≡ m) × (spelled all ≡ spelled lists ++ ts)
stacked [] lists m e = let same : length lists ≡ m = cc in (lists, same, sym (append-nil (spelled lists)))
stacked (opening ∷ ts) lists m e =
    let p = passed (nat_lt (length lists) nesting_limit) (open_after ts (length lists + 1)) m e in
    let next : length lists + 1 ≡ suc (length lists) = omega arith in
    let r = stacked ts (none ∷ lists) m (subst (λ d. open_after ts d ≡ Some m) next p.1) in
    (r.0, r.1, r.2 ∙ append_assoc (spelled lists) (opening ∷ []) ts)
stacked (closing ∷ ts) [] m e = absurd (true≢false (sym (passed (nat_lt 1 0) (open_after ts (0 - 1)) m e).0))
stacked (closing ∷ ts) (es ∷ []) m e = absurd (true≢false (sym (passed (nat_lt 1 1) (open_after ts (1 - 1)) m e).0))
stacked (closing ∷ ts) (es ∷ fs ∷ outer) m e =
    let p = passed (nat_lt 1 (suc (suc (length outer)))) (open_after ts (suc (suc (length outer)) - 1)) m e in
    let next : suc (suc (length outer)) - 1 ≡ suc (length outer) = omega arith in
    let r = stacked ts (with_last fs (list es) ∷ outer) m (subst (λ d. open_after ts d ≡ Some m) next p.1) in
    (r.0, r.1, r.2 ∙ filled fs outer (list es) ts ∙ simp append_assoc)
stacked (atom a ∷ ts) [] m e = absurd (true≢false (sym (passed (nat_lt 0 0) (open_after ts 0) m e).0))
stacked (atom a ∷ ts) (es ∷ outer) m e =
    let p = passed (nat_lt 0 (suc (length outer))) (open_after ts (suc (length outer))) m e in
    let r = stacked ts (with_last es (leaf a) ∷ outer) m p.1 in
    (r.0, r.1, r.2 ∙ filled es outer (leaf a) ts)

-- tokens that leave one list open are those of a command but for the last
pub command_from : (ts : List Token) → open_after ts 0 ≡ Some 1 → (e : Expression) × (tokens_of e ≡ ts ++ closing ∷ [])
command_from ts h = one (stacked ts [] 1 h).0 (stacked ts [] 1 h).1 (stacked ts [] 1 h).2
  where
    one : (all : List Expressions) → length all ≡ 1 → spelled all ≡ ts → (e : Expression) × (tokens_of e ≡ ts ++ closing ∷ [])
    one [] l s = absurd (omega arith)
    one (es ∷ []) l s = (list es, ap (λ us. us ++ closing ∷ []) s)
    one (es ∷ fs ∷ outer) l s = absurd (omega arith)

-- so many closing parentheses
abbrev closers : ℕ → List ℕ
closers zero = []
closers (suc n) = 41 ∷ closers n

-- a part of a command is closed by closing parentheses
close_all : (n : ℕ) (bytes : List ℕ) (ts : List Token) (rest : List ℕ) → BeginsPart bytes ts (suc n) rest → after_whitespace rest ≡ closers (suc n) →
    (e : Expression) × BeginsCommand bytes e []
close_all zero bytes ts rest p e =
    let c = command_from ts p.nested in
    (c.0, record { before = ts; remaining = rest; tokens = c.1; part = p; closed = ([], ap lexeme_at e, refl) })
close_all (suc n) bytes ts rest p e =
    let test : nat_lt 1 (suc (suc n)) ≡ true = grind (arith, nat_tests) in
    let next : suc (suc n) - 1 ≡ suc n = omega arith in
    close_all n bytes (ts ++ closing ∷ []) (closers (suc n))
    (part_push bytes rest (closers (suc n)) ts closing (suc (suc n)) (suc n) p (ap lexeme_at e) (rw (test, next) refl)) refl

-- a part of a command is ended, whatever is open
end_part : (n : ℕ) → List ℕ
end_part zero = 40 ∷ 41 ∷ []
end_part (suc n) = closers (suc n)

ended : (n : ℕ) (bytes : List ℕ) (ts : List Token) (rest : List ℕ) → BeginsPart bytes ts n rest → after_whitespace rest ≡ after_whitespace (end_part n) →
    (e : Expression) × BeginsCommand bytes e []
unfolding end_part
ended zero bytes ts rest p e =
    close_all zero bytes (ts ++ opening ∷ []) (41 ∷ []) (part_push bytes rest (41 ∷ []) ts opening 0 1 p (ap lexeme_at e) refl) refl
ended (suc n) bytes ts rest p e = close_all n bytes ts rest p e

-- a line feed ends whitespace and comments
mutual
  after_whitespace-line : (l tail : List ℕ) → after_whitespace l ≡ [] → after_whitespace (l ++ 10 ∷ tail) ≡ after_whitespace tail
  after_whitespace-line [] tail e = refl
  after_whitespace-line (c ∷ cs) tail e =
      either (eqb c 59) (after_comment cs) _ [] (after_comment (cs ++ 10 ∷ tail)) _ (after_whitespace tail) (after_comment-line cs tail)
      (either (is_whitespace c) (after_whitespace cs) (c ∷ cs) [] (after_whitespace (cs ++ 10 ∷ tail)) (c ∷ (cs ++ 10 ∷ tail)) (after_whitespace tail) (after_whitespace-line cs tail) (λ k. cc))
      e

  after_comment-line : (l tail : List ℕ) → after_comment l ≡ [] → after_comment (l ++ 10 ∷ tail) ≡ after_whitespace tail
  after_comment-line [] tail e = refl
  after_comment-line (c ∷ cs) tail e =
      either (ends_comment c) (after_whitespace cs) (after_comment cs) [] (after_whitespace (cs ++ 10 ∷ tail)) (after_comment (cs ++ 10 ∷ tail)) (after_whitespace tail) (after_whitespace-line cs tail) (after_comment-line cs tail) e

-- a string with no end is ended by a mark and a byte that is none
mutual
  after_text-mark : (l : List ℕ) (c : ℕ) (cs : List ℕ) → eqb c 34 ≡ false → after_text l ≡ None → after_text (l ++ 34 ∷ (c ∷ cs)) ≡ Some (c ∷ cs)
  after_text-mark [] c cs n e = rw n refl
  after_text-mark (b ∷ bs) c cs n e =
      either (eqb b 34) (after_mark bs) (after_text bs) None (after_mark (bs ++ 34 ∷ (c ∷ cs))) (after_text (bs ++ 34 ∷ (c ∷ cs))) (Some (c ∷ cs))
      (after_mark-mark bs c cs n) (after_text-mark bs c cs n) e

  after_mark-mark : (l : List ℕ) (c : ℕ) (cs : List ℕ) → eqb c 34 ≡ false → after_mark l ≡ None → after_mark (l ++ 34 ∷ (c ∷ cs)) ≡ Some (c ∷ cs)
  after_mark-mark [] c cs n e = cc
  after_mark-mark (b ∷ bs) c cs n e =
      either (eqb b 34) (after_text bs) (Some (b ∷ bs)) None (after_text (bs ++ 34 ∷ (c ∷ cs))) (Some (b ∷ (bs ++ 34 ∷ (c ∷ cs)))) (Some (c ∷ cs))
      (after_text-mark bs c cs n) (λ k. cc) e

-- a line feed after a lexeme that may go on
text_line : (b : ℕ) (bs tail : List ℕ) (t : Token) (remaining : List ℕ) → text_may_go_on (after_text bs) ≡ true → lexeme_from a_text b bs ≡ token t remaining →
    lexeme_from a_text b (bs ++ 10 ∷ tail) ≡ token t (remaining ++ 10 ∷ tail)
text_line b bs tail t remaining g e = by (after_text bs) refl g e
  where
    by : (left : Option (List ℕ)) → after_text bs ≡ left → text_may_go_on left ≡ true → text_lexeme (string_content bs) left ≡ token t remaining →
        lexeme_from a_text b (bs ++ 10 ∷ tail) ≡ token t (remaining ++ 10 ∷ tail)
    by None is h k = cc
    by (Some []) is h k =
        let rest = after_text-longer bs [] (10 ∷ tail) refl is in
        let content = string_content-longer bs [] (10 ∷ tail) refl is in
        rw (rest, content) (ap (with_more (10 ∷ tail)) k)
    by (Some (c ∷ cs)) is h k = cc

word_line : (b : ℕ) (bs tail : List ℕ) (t : Token) (remaining : List ℕ) → is_empty (after_word bs) ≡ true → lexeme_from a_word b bs ≡ token t remaining →
    lexeme_from a_word b (bs ++ 10 ∷ tail) ≡ token t (remaining ++ 10 ∷ tail)
word_line b bs tail t remaining g e = by (after_word bs) refl g e
  where
    read : (r : Result Atom ℕ) → word_lexeme r (b ∷ bs) [] ≡ token t remaining → word_lexeme r (b ∷ (bs ++ 10 ∷ tail)) (10 ∷ tail) ≡ token t (remaining ++ 10 ∷ tail)
    read (Ok a) k = ap (with_more (10 ∷ tail)) k
    read (Err code) k = cc

    by : (left : List ℕ) → after_word bs ≡ left → is_empty left ≡ true → word_lexeme (atom_of (b ∷ word_of bs)) (b ∷ bs) left ≡ token t remaining →
        lexeme_from a_word b (bs ++ 10 ∷ tail) ≡ token t (remaining ++ 10 ∷ tail)
    by [] is h k =
        let rest = drop_while-longer is_word_byte bs [] (10 ∷ tail) refl is in
        let content = take_while-longer is_word_byte bs [] (10 ∷ tail) refl is in
        rw (rest, content) (read (atom_of (b ∷ word_of bs)) k)
    by (c ∷ cs) is h k = cc

lexeme_at-line : (l tail : List ℕ) (t : Token) (remaining : List ℕ) → lexeme_at l ≡ token t remaining → lexeme_at (l ++ 10 ∷ tail) ≡ token t (remaining ++ 10 ∷ tail)
lexeme_at-line [] tail t remaining e = cc
lexeme_at-line (b ∷ bs) tail t remaining e =
    let f = first_of b in
    elim (true_or_false (may_go_on (b ∷ bs))) [
      | inl g ↦ f.1.lexeme (bs ++ 10 ∷ tail) ∙ by f.0 (sym (f.1.goes_on bs) ∙ g) (sym (f.1.lexeme bs) ∙ e)
      | inr g ↦ token_stays (b ∷ bs) (10 ∷ tail) t remaining g e
    ]
  where
    by : (f : First) → goes_on_from f bs ≡ true → lexeme_from f b bs ≡ token t remaining → lexeme_from f b (bs ++ 10 ∷ tail) ≡ token t (remaining ++ 10 ∷ tail)
    by an_opening g k = absurd (true≢false (sym g))
    by a_closing g k = absurd (true≢false (sym g))
    by a_quoted g k = absurd (quoted_goes_on (take_while is_in_quoted_symbol bs) (drop_while is_in_quoted_symbol bs) t remaining g k)
    by a_text g k = text_line b bs tail t remaining g k
    by a_word g k = word_line b bs tail t remaining g k
    by no_token g k = absurd (true≢false (sym g))

AreTokens-line : (ts : List Token) (bytes rest tail : List ℕ) → AreTokens ts bytes rest → AreTokens ts (bytes ++ 10 ∷ tail) (rest ++ 10 ∷ tail)
AreTokens-line [] bytes rest tail a = ap (λ l. l ++ 10 ∷ tail) a
AreTokens-line (t ∷ ts) bytes rest tail a = (a.0 ++ 10 ∷ tail, read (after_whitespace bytes) refl a.1, AreTokens-line ts a.0 rest tail a.2)
  where
    read : (l : List ℕ) → after_whitespace bytes ≡ l → lexeme_at l ≡ token t a.0 → lexeme_at (after_whitespace (bytes ++ 10 ∷ tail)) ≡ token t (a.0 ++ 10 ∷ tail)
    read [] is e = cc
    read (b ∷ bs) is e = ap lexeme_at (after_whitespace-append bytes (10 ∷ tail) b bs is) ∙ lexeme_at-line (b ∷ bs) tail t a.0 e

-- a byte ends what is cut: a `|` or a mark
abbrev Ended : (List ℕ → Lexeme) → List ℕ → Type 0
Ended lexeme bs = (last : ℕ) × ((tail : List ℕ) → (a : Atom) × (lexeme (bs ++ last ∷ (10 ∷ tail)) ≡ token (atom a) (10 ∷ tail)))

cut_ends : (b : ℕ) (bs : List ℕ) → lexeme_at (b ∷ bs) ≡ cut → Ended (λ l. lexeme_at (b ∷ l)) bs
cut_ends b bs e =
    let f = first_of b in
    let r = by f.0 (sym (f.1.lexeme bs) ∙ e) in
    (r.0, λ tail. ((r.1 tail).0, f.1.lexeme (bs ++ r.0 ∷ (10 ∷ tail)) ∙ (r.1 tail).1))
  where
    of_quoted : (left : List ℕ) → drop_while is_in_quoted_symbol bs ≡ left → quoted_lexeme (take_while is_in_quoted_symbol bs) left ≡ cut → Ended (lexeme_from a_quoted b) bs
    of_quoted [] is k = (124, λ tail. (quoted (take_while is_in_quoted_symbol (bs ++ 124 ∷ (10 ∷ tail))), rw (drop_while-longer is_in_quoted_symbol bs [] (124 ∷ (10 ∷ tail)) refl is) refl))
    of_quoted (c ∷ cs) is k = absurd (quoted_is_not_cut (take_while is_in_quoted_symbol bs) c cs k)

    of_text : (left : Option (List ℕ)) → after_text bs ≡ left → text_lexeme (string_content bs) left ≡ cut → Ended (lexeme_from a_text b) bs
    of_text None is k = (34, λ tail. (text (string_content (bs ++ 34 ∷ (10 ∷ tail))), rw (after_text-mark bs 10 tail refl is) refl))
    of_text (Some left) is k = cc

    by : (f : First) → lexeme_from f b bs ≡ cut → Ended (lexeme_from f b) bs
    by an_opening k = cc
    by a_closing k = cc
    by a_quoted k = of_quoted (drop_while is_in_quoted_symbol bs) refl k
    by a_text k = of_text (after_text bs) refl k
    by a_word k = absurd (word_is_not_cut (atom_of (b ∷ word_of bs)) (b ∷ bs) (after_word bs) k)
    by no_token k = cc

-- whitespace and comments alone are the beginning of a command
whitespace_goes_on : (bytes : List ℕ) → IsWhitespace bytes → (tail : List ℕ) × (e : Expression) × BeginsCommand (bytes ++ tail) e []
whitespace_goes_on bytes l =
    let r = ended 0 (bytes ++ 10 ∷ end_part 0) [] (bytes ++ 10 ∷ end_part 0) (record { spelled = refl; nested = refl }) (after_whitespace-line bytes (end_part 0) l) in
    (10 ∷ end_part 0, r.0, r.1)

-- and so are bytes whose input ends too early
error_goes_on : (bytes : List ℕ) → HasError bytes ends_inside [] → (tail : List ℕ) × (e : Expression) × BeginsCommand (bytes ++ tail) e []
error_goes_on bytes h = at (after_whitespace h.rest) refl h.error
  where
    between : after_whitespace h.rest ≡ [] → (tail : List ℕ) × (e : Expression) × BeginsCommand (bytes ++ tail) e []
    between is =
        let r = ended h.depth (bytes ++ 10 ∷ end_part h.depth) h.tokens (h.rest ++ 10 ∷ end_part h.depth)
        (record { spelled = AreTokens-line h.tokens bytes h.rest (end_part h.depth) h.part.spelled; nested = h.part.nested })
        (after_whitespace-line h.rest (end_part h.depth) is) in
        (10 ∷ end_part h.depth, r.0, r.1)

    inside : (b : ℕ) (bs : List ℕ) → after_whitespace h.rest ≡ b ∷ bs → nat_lt 0 h.depth ≡ true → lexeme_at (b ∷ bs) ≡ cut →
        (tail : List ℕ) × (e : Expression) × BeginsCommand (bytes ++ tail) e []
    inside b bs is open_lists e =
        let last = cut_ends b bs e in
        let read = last.1 (end_part h.depth) in
        let tail : List ℕ = last.0 ∷ (10 ∷ end_part h.depth) in
        let r = ended h.depth (bytes ++ tail) (h.tokens ++ atom read.0 ∷ []) (10 ∷ end_part h.depth)
        (part_push (bytes ++ tail) (h.rest ++ tail) (10 ∷ end_part h.depth) h.tokens (atom read.0) h.depth h.depth
        (record { spelled = AreTokens-longer h.tokens bytes h.rest tail h.part.spelled (some_left h.rest b bs is); nested = h.part.nested })
        (ap lexeme_at (after_whitespace-append h.rest tail b bs is) ∙ read.1)
        (rw open_lists refl))
        refl in
        (tail, r.0, r.1)

    of : (b : ℕ) (bs : List ℕ) (l : Lexeme) → after_whitespace h.rest ≡ b ∷ bs → nat_lt 0 h.depth ≡ true → lexeme_at (b ∷ bs) ≡ l → error_of l ≡ Some (ends_inside, []) →
        (tail : List ℕ) × (e : Expression) × BeginsCommand (bytes ++ tail) e []
    of b bs (token t remaining) is open_lists e k = absurd (no_error ends_inside [] k)
    of b bs (wrong code suffix) is open_lists e k = absurd ((wrong_prefix (b ∷ bs) code suffix e).1 (same_error code ends_inside suffix [] k).1)
    of b bs cut is open_lists e k = inside b bs is open_lists e

    at : (l : List ℕ) → after_whitespace h.rest ≡ l → error_at h.depth l ≡ Some (ends_inside, []) → (tail : List ℕ) × (e : Expression) × BeginsCommand (bytes ++ tail) e []
    at [] is e = between is
    at (b ∷ bs) is e =
        elim (error_cases b bs h.depth ends_inside [] e) [
          | inl here ↦ cc
          | inr within ↦ of b bs (lexeme_at (b ∷ bs)) is within.0 refl within.1
        ]

pub goes_on : (bytes : List ℕ) → IsWhitespace bytes ⊎ HasError bytes ends_inside [] → (tail : List ℕ) × (e : Expression) × BeginsCommand (bytes ++ tail) e []
goes_on bytes h = elim h [ inl l ↦ whitespace_goes_on bytes l | inr e ↦ error_goes_on bytes e ]
