-- What bytes begin with, they begin with whatever comes after them.
use Rattle.std.proofs.Common.{◌≡◌, ℕ, Bool, true, false, eqb, nat_lt, cond, List, [], ◌∷◌, ◌++◌, Option, Some, None, Result, Ok, Err, ◌⊎◌, inl, inr, refl, sym, ap, ◌∙◌, subst, true≢false}
use Rattle.ct_sexpr.specs.Whitespace.{is_whitespace, ends_comment, after_whitespace, after_comment}
use Rattle.ct_sexpr.specs.TakeWhile.{take_while, drop_while}
use Rattle.ct_sexpr.specs.ErrorNumber.{begins_no_token, closes_nothing, nests_too_deep}
use Rattle.ct_sexpr.specs.Atom.{Atom, quoted, word_of, after_word, atom_of, is_word_byte}
use Rattle.ct_sexpr.specs.Token.{Token, opening, closing, atom, bar, is_in_quoted_symbol, string_content, string_after_mark, after_text, after_mark, Lexeme, token, wrong, cut, word_lexeme, lexeme_at, is_empty, text_may_go_on, may_go_on, AreTokens}
use Rattle.ct_sexpr.specs.Expression.{Expression}
use Rattle.ct_sexpr.specs.Reading.{nesting_limit, error_of, error_at, BeginsCommand, HasDefiniteError}
use Rattle.ct_sexpr.proofs.FirstBytes.{First, an_opening, a_closing, a_quoted, a_text, a_word, no_token, lexeme_from, goes_on_from, error_inside, error_from, first_of, true_or_false, same_error, no_error, token_goes_on, cut_goes_on}

-- the test that a byte passes says what is left of longer bytes, too
pub either : {A B : Type 0} (p : Bool) (x y w : A) (x' y' w' : B) → (x ≡ w → x' ≡ w') → (y ≡ w → y' ≡ w') → cond p x y ≡ w → cond p x' y' ≡ w'
either true x y w x' y' w' f g e = f e
either false x y w x' y' w' f g e = g e

-- and what was taken of them
alike : {A B : Type 0} (p : Bool) (x y w : A) (x' x'' y' y'' : B) → (x ≡ w → x' ≡ x'') → (y ≡ w → y' ≡ y'') → cond p x y ≡ w → cond p x' y' ≡ cond p x'' y''
alike true x y w x' x'' y' y'' f g e = f e
alike false x y w x' x'' y' y'' f g e = g e

longer : (b c : ℕ) (bs cs more : List ℕ) → c ∷ cs ≡ b ∷ bs → ◌≡◌ {A = List ℕ} (c ∷ (cs ++ more)) (b ∷ (bs ++ more))
longer b c bs cs more e = ap (λ l. l ++ more) e

mutual
  -- what follows whitespace and comments still does
  pub after_whitespace-append : (l more : List ℕ) (b : ℕ) (bs : List ℕ) → after_whitespace l ≡ b ∷ bs → after_whitespace (l ++ more) ≡ b ∷ (bs ++ more)
  after_whitespace-append [] more b bs e = cc
  after_whitespace-append (c ∷ cs) more b bs e =
      either (eqb c 59) (after_comment cs) _ (b ∷ bs) (after_comment (cs ++ more)) _ (b ∷ (bs ++ more)) (after_comment-append cs more b bs)
      (either (is_whitespace c) (after_whitespace cs) (c ∷ cs) (b ∷ bs) (after_whitespace (cs ++ more)) (c ∷ (cs ++ more)) (b ∷ (bs ++ more)) (after_whitespace-append cs more b bs) (longer b c bs cs more))
      e

  after_comment-append : (l more : List ℕ) (b : ℕ) (bs : List ℕ) → after_comment l ≡ b ∷ bs → after_comment (l ++ more) ≡ b ∷ (bs ++ more)
  after_comment-append [] more b bs e = cc
  after_comment-append (c ∷ cs) more b bs e =
      either (ends_comment c) (after_whitespace cs) (after_comment cs) (b ∷ bs) (after_whitespace (cs ++ more)) (after_comment (cs ++ more)) (b ∷ (bs ++ more)) (after_whitespace-append cs more b bs) (after_comment-append cs more b bs) e

-- a run stops before bytes that follow: in what was left, or since the next byte does not pass
abbrev pub Stops : (ℕ → Bool) → List ℕ → List ℕ → Type 0
Stops test (b ∷ bs) more = Unit {0}
Stops test [] [] = Unit {0}
Stops test [] (c ∷ cs) = test c ≡ false

-- such a run is the same run in longer bytes
pub drop_while-longer : (test : ℕ → Bool) (l left more : List ℕ) → Stops test left more → drop_while test l ≡ left → drop_while test (l ++ more) ≡ left ++ more
drop_while-longer test [] left more n e = subst (λ x. drop_while test more ≡ x ++ more) e (at_end more (subst (λ x. Stops test x more) (sym e) n))
  where
    at_end : (more : List ℕ) → Stops test [] more → drop_while test more ≡ more
    at_end [] n = refl
    at_end (c ∷ cs) n = rw n refl
drop_while-longer test (c ∷ cs) left more n e =
    either (test c) (drop_while test cs) (c ∷ cs) left (drop_while test (cs ++ more)) (c ∷ (cs ++ more)) (left ++ more)
    (drop_while-longer test cs left more n) (λ k. ap (λ l. l ++ more) k) e

pub take_while-longer : (test : ℕ → Bool) (l left more : List ℕ) → Stops test left more → drop_while test l ≡ left → take_while test (l ++ more) ≡ take_while test l
take_while-longer test [] left more n e = at_end more (subst (λ x. Stops test x more) (sym e) n)
  where
    at_end : (more : List ℕ) → Stops test [] more → take_while test more ≡ []
    at_end [] n = refl
    at_end (c ∷ cs) n = rw n refl
take_while-longer test (c ∷ cs) left more n e =
    alike (test c) (drop_while test cs) (c ∷ cs) left (c ∷ take_while test (cs ++ more)) (c ∷ take_while test cs) [] []
    (λ k. ap (λ l. c ∷ l) (take_while-longer test cs left more n k)) (λ k. refl) e

-- a string goes on after a mark with another
abbrev pub is_mark : ℕ → Bool
is_mark b = eqb b 34

-- bytes that begin with no mark leave the string ended
mark_stops : (more : List ℕ) → Stops is_mark [] more → after_mark more ≡ Some more
mark_stops [] n = refl
mark_stops (c ∷ cs) n = rw n refl

mark_says_nothing : (more : List ℕ) → Stops is_mark [] more → string_after_mark more ≡ []
mark_says_nothing [] n = refl
mark_says_nothing (c ∷ cs) n = rw n refl

with_left : (l left more : List ℕ) → Some l ≡ Some left → ◌≡◌ {A = Option (List ℕ)} (Some (l ++ more)) (Some (left ++ more))
with_left l left more e = let same : l ≡ left = cc in ap (λ l. Some (l ++ more)) same

-- a string that has ended is the same in longer bytes
mutual
  pub after_text-longer : (l left more : List ℕ) → Stops is_mark left more → after_text l ≡ Some left → after_text (l ++ more) ≡ Some (left ++ more)
  after_text-longer [] left more n e = cc
  after_text-longer (c ∷ cs) left more n e =
      either (eqb c 34) (after_mark cs) (after_text cs) (Some left) (after_mark (cs ++ more)) (after_text (cs ++ more)) (Some (left ++ more))
      (after_mark-longer cs left more n) (after_text-longer cs left more n) e

  after_mark-longer : (l left more : List ℕ) → Stops is_mark left more → after_mark l ≡ Some left → after_mark (l ++ more) ≡ Some (left ++ more)
  after_mark-longer [] left more n e =
      let none : [] ≡ left = cc in
      subst (λ x. after_mark more ≡ Some (x ++ more)) none (mark_stops more (subst (λ x. Stops is_mark x more) (sym none) n))
  after_mark-longer (c ∷ cs) left more n e =
      either (eqb c 34) (after_text cs) (Some (c ∷ cs)) (Some left) (after_text (cs ++ more)) (Some (c ∷ (cs ++ more))) (Some (left ++ more))
      (after_text-longer cs left more n) (with_left (c ∷ cs) left more) e

mutual
  pub string_content-longer : (l left more : List ℕ) → Stops is_mark left more → after_text l ≡ Some left → string_content (l ++ more) ≡ string_content l
  string_content-longer [] left more n e = cc
  string_content-longer (c ∷ cs) left more n e =
      alike (eqb c 34) (after_mark cs) (after_text cs) (Some left) (string_after_mark (cs ++ more)) (string_after_mark cs) (c ∷ string_content (cs ++ more)) (c ∷ string_content cs)
      (string_after_mark-longer cs left more n) (λ k. ap (λ l. c ∷ l) (string_content-longer cs left more n k)) e

  string_after_mark-longer : (l left more : List ℕ) → Stops is_mark left more → after_mark l ≡ Some left → string_after_mark (l ++ more) ≡ string_after_mark l
  string_after_mark-longer [] left more n e =
      let none : [] ≡ left = cc in
      mark_says_nothing more (subst (λ x. Stops is_mark x more) (sym none) n)
  string_after_mark-longer (c ∷ cs) left more n e =
      alike (eqb c 34) (after_text cs) (Some (c ∷ cs)) (Some left) (c ∷ string_content (cs ++ more)) (c ∷ string_content cs) [] []
      (λ k. ap (λ l. c ∷ l) (string_content-longer cs left more n k)) (λ k. refl) e

-- a lexeme of longer bytes
abbrev pub with_more : List ℕ → Lexeme → Lexeme
with_more more (token t remaining) = token t (remaining ++ more)
with_more more (wrong code suffix) = wrong code (suffix ++ more)
with_more more cut = cut

-- the same lexeme, that still may not go on
abbrev Stays : First → ℕ → List ℕ → List ℕ → Type 0
Stays f b bs more = (lexeme_from f b (bs ++ more) ≡ with_more more (lexeme_from f b bs)) × (goes_on_from f (bs ++ more) ≡ false)

quoted_stays : (b : ℕ) (bs more : List ℕ) → goes_on_from a_quoted bs ≡ false → Stays a_quoted b bs more
quoted_stays b bs more g = by (drop_while is_in_quoted_symbol bs) refl g
  where
    at_bar : (p : Bool) (content : List ℕ) (c : ℕ) (cs : List ℕ) →
        cond p (token (atom (quoted content)) (cs ++ more)) (wrong begins_no_token (c ∷ (cs ++ more))) ≡ with_more more (cond p (token (atom (quoted content)) cs) (wrong begins_no_token (c ∷ cs)))
    at_bar true content c cs = refl
    at_bar false content c cs = refl

    by : (left : List ℕ) → drop_while is_in_quoted_symbol bs ≡ left → is_empty left ≡ false → Stays a_quoted b bs more
    by [] is h = absurd (true≢false h)
    by (c ∷ cs) is h =
        let rest = drop_while-longer is_in_quoted_symbol bs (c ∷ cs) more tt is in
        let content = take_while-longer is_in_quoted_symbol bs (c ∷ cs) more tt is in
        (rw (rest, content, is) (at_bar (eqb c bar) (take_while is_in_quoted_symbol bs) c cs), rw rest refl)

text_stays : (b : ℕ) (bs more : List ℕ) → goes_on_from a_text bs ≡ false → Stays a_text b bs more
text_stays b bs more g = by (after_text bs) refl g
  where
    by : (left : Option (List ℕ)) → after_text bs ≡ left → text_may_go_on left ≡ false → Stays a_text b bs more
    by None is h = absurd (true≢false h)
    by (Some []) is h = absurd (true≢false h)
    by (Some (c ∷ cs)) is h =
        let rest = after_text-longer bs (c ∷ cs) more tt is in
        let content = string_content-longer bs (c ∷ cs) more tt is in
        (rw (rest, content, is) refl, rw rest refl)

word_stays : (b : ℕ) (bs more : List ℕ) → goes_on_from a_word bs ≡ false → Stays a_word b bs more
word_stays b bs more g = by (after_word bs) refl g
  where
    read : (r : Result Atom ℕ) (left : List ℕ) → word_lexeme r (b ∷ (bs ++ more)) (left ++ more) ≡ with_more more (word_lexeme r (b ∷ bs) left)
    read (Ok a) left = refl
    read (Err code) left = refl

    by : (left : List ℕ) → after_word bs ≡ left → is_empty left ≡ false → Stays a_word b bs more
    by [] is h = absurd (true≢false h)
    by (c ∷ cs) is h =
        let rest = drop_while-longer is_word_byte bs (c ∷ cs) more tt is in
        let content = take_while-longer is_word_byte bs (c ∷ cs) more tt is in
        (rw (rest, content, is) (read (atom_of (b ∷ word_of bs)) (c ∷ cs)), rw rest refl)

stays : (f : First) (b : ℕ) (bs more : List ℕ) → goes_on_from f bs ≡ false → Stays f b bs more
stays an_opening b bs more g = (refl, refl)
stays a_closing b bs more g = (refl, refl)
stays a_quoted b bs more g = quoted_stays b bs more g
stays a_text b bs more g = text_stays b bs more g
stays a_word b bs more g = word_stays b bs more g
stays no_token b bs more g = (refl, refl)

-- what may not go on stays what it is when more bytes come, and still may not
pub lexeme_stays : (l more : List ℕ) → may_go_on l ≡ false → (lexeme_at (l ++ more) ≡ with_more more (lexeme_at l)) × (may_go_on (l ++ more) ≡ false)
lexeme_stays [] more g = absurd (true≢false g)
lexeme_stays (b ∷ bs) more g =
    let f = first_of b in
    let s = stays f.0 b bs more (sym (f.1.goes_on bs) ∙ g) in
    (f.1.lexeme (bs ++ more) ∙ s.0 ∙ ap (with_more more) (sym (f.1.lexeme bs)), f.1.goes_on (bs ++ more) ∙ s.1)

-- a token that has ended is the token of longer bytes
pub token_stays : (l more : List ℕ) (t : Token) (remaining : List ℕ) → may_go_on l ≡ false → lexeme_at l ≡ token t remaining → lexeme_at (l ++ more) ≡ token t (remaining ++ more)
token_stays l more t remaining g e = (lexeme_stays l more g).0 ∙ ap (with_more more) e

abbrev pub NonEmpty : List ℕ → Type 0
NonEmpty [] = ⊥
NonEmpty (b ∷ bs) = Unit {0}

-- a token has ended that is a parenthesis, or that a byte follows
abbrev Settled : Token → List ℕ → Type 0
Settled opening rest = Unit {0}
Settled closing rest = Unit {0}
Settled (atom a) rest = NonEmpty rest

settled_ends : (l : List ℕ) (t : Token) (remaining : List ℕ) → lexeme_at l ≡ token t remaining → Settled t remaining → may_go_on l ≡ false
settled_ends l t remaining e s =
    elim (true_or_false (may_go_on l)) [
      | inl g ↦
          let p = token_goes_on l t remaining g e in
          absurd (subst (λ x. NonEmpty x) p.2 (subst (λ u. Settled u remaining) p.1 s))
      | inr g ↦ g
    ]

token_longer : (bytes more : List ℕ) (t : Token) (remaining : List ℕ) → lexeme_at (after_whitespace bytes) ≡ token t remaining → Settled t remaining →
    lexeme_at (after_whitespace (bytes ++ more)) ≡ token t (remaining ++ more)
token_longer bytes more t remaining e settled = at (after_whitespace bytes) refl e
  where
    at : (l : List ℕ) → after_whitespace bytes ≡ l → lexeme_at l ≡ token t remaining → lexeme_at (after_whitespace (bytes ++ more)) ≡ token t (remaining ++ more)
    at [] is f = cc
    at (b ∷ bs) is f = ap lexeme_at (after_whitespace-append bytes more b bs is) ∙ token_stays (b ∷ bs) more t remaining (settled_ends (b ∷ bs) t remaining f settled) f

token_settled : (t : Token) (remaining : List ℕ) → NonEmpty remaining → Settled t remaining
token_settled opening remaining n = tt
token_settled closing remaining n = tt
token_settled (atom a) remaining n = n

some_bytes : (t : Token) (ts : List Token) (bytes rest : List ℕ) → AreTokens (t ∷ ts) bytes rest → NonEmpty bytes
some_bytes t ts [] rest a = let none : cut ≡ token t a.0 = a.1 in cc
some_bytes t ts (b ∷ bs) rest a = tt

bytes_before : (ts : List Token) (bytes rest : List ℕ) → AreTokens ts bytes rest → NonEmpty rest → NonEmpty bytes
bytes_before [] bytes rest a n = subst NonEmpty (sym a) n
bytes_before (t ∷ ts) bytes rest a n = some_bytes t ts bytes rest a

-- tokens that a byte follows are tokens of longer bytes
pub AreTokens-longer : (ts : List Token) (bytes rest more : List ℕ) → AreTokens ts bytes rest → NonEmpty rest → AreTokens ts (bytes ++ more) (rest ++ more)
AreTokens-longer [] bytes rest more a n = ap (λ l. l ++ more) a
AreTokens-longer (t ∷ ts) bytes rest more a n =
    (a.0 ++ more, token_longer bytes more t a.0 a.1 (token_settled t a.0 (bytes_before ts a.0 rest a.2 n)), AreTokens-longer ts a.0 rest more a.2 n)

-- a command at the start stays that command when more bytes come
pub command_stays : (bytes : List ℕ) (e : Expression) (rest more : List ℕ) → BeginsCommand bytes e rest → BeginsCommand (bytes ++ more) e (rest ++ more)
command_stays bytes e rest more c = record {
  before = c.before;
  remaining = c.remaining ++ more;
  tokens = c.tokens;
  part = record { spelled = AreTokens-longer c.before bytes c.remaining more c.part.spelled (some_bytes closing [] c.remaining rest c.closed); nested = c.part.nested };
  closed = (c.closed.0 ++ more, token_longer c.remaining more closing c.closed.0 c.closed.1 tt, ap (λ l. l ++ more) c.closed.2);
}

-- an error of a lexeme that has ended stays
error_of-more : (l : Lexeme) (more : List ℕ) (code : ℕ) (suffix : List ℕ) → (l ≡ cut → ⊥) → error_of l ≡ Some (code, suffix) → error_of (with_more more l) ≡ Some (code, suffix ++ more)
error_of-more (token t remaining) more code suffix n e = absurd (no_error code suffix e)
error_of-more (wrong c p) more code suffix n e = let same = same_error c code p suffix e in cc (same.0, same.1)
error_of-more cut more code suffix n e = absurd (n refl)

-- a definite error
error_longer : (b : ℕ) (bs more : List ℕ) (depth code : ℕ) (suffix : List ℕ) → error_at depth (b ∷ bs) ≡ Some (code, suffix) → (depth ≡ 0) ⊎ (may_go_on (b ∷ bs) ≡ false) →
    error_at depth (b ∷ (bs ++ more)) ≡ Some (code, suffix ++ more)
error_longer b bs more depth code suffix e s =
    let f = first_of b in
    f.1.error depth (bs ++ more) ∙ by f.0 (sym (f.1.error depth bs) ∙ e) (sym (f.1.lexeme bs)) (f.1.goes_on bs)
  where
    here : (n : ℕ) → ◌≡◌ {A = Option (ℕ × List ℕ)} (Some (n, b ∷ bs)) (Some (code, suffix)) → ◌≡◌ {A = Option (ℕ × List ℕ)} (Some (n, b ∷ (bs ++ more))) (Some (code, suffix ++ more))
    here n k = let same = same_error n code (b ∷ bs) suffix k in ap (λ c. Some (c, b ∷ (bs ++ more))) same.0 ∙ ap (λ p. Some (code, p ++ more)) same.1

    guarded : (p : Bool) (n : ℕ) → cond {A = Option (ℕ × List ℕ)} p None (Some (n, b ∷ bs)) ≡ Some (code, suffix) →
        cond {A = Option (ℕ × List ℕ)} p None (Some (n, b ∷ (bs ++ more))) ≡ Some (code, suffix ++ more)
    guarded true n k = absurd (no_error code suffix k)
    guarded false n k = here n k

    ended : (l l' : Lexeme) → l' ≡ with_more more l → (l ≡ cut → ⊥) → error_inside l depth b bs ≡ Some (code, suffix) → error_inside l' depth b (bs ++ more) ≡ Some (code, suffix ++ more)
    ended l l' is n k = deep (nat_lt 0 depth) _ k
      where
        deep : (p : Bool) (n : ℕ) → cond p (error_of l) (Some (n, b ∷ bs)) ≡ Some (code, suffix) → cond p (error_of l') (Some (n, b ∷ (bs ++ more))) ≡ Some (code, suffix ++ more)
        deep true m h = ap error_of is ∙ error_of-more l more code suffix n h
        deep false m h = here m h

    outside : (l l' : Lexeme) → depth ≡ 0 → error_inside l depth b bs ≡ Some (code, suffix) → error_inside l' depth b (bs ++ more) ≡ Some (code, suffix ++ more)
    outside l l' closed k =
        let there : error_inside l 0 b bs ≡ Some (code, suffix) = subst (λ d. error_inside l d b bs ≡ Some (code, suffix)) closed k in
        subst (λ d. error_inside l' d b (bs ++ more) ≡ Some (code, suffix ++ more)) (sym closed) (here _ there)

    inside : (f : First) → (goes_on_from f bs ≡ false → Stays f b bs more) → lexeme_from f b bs ≡ lexeme_at (b ∷ bs) → may_go_on (b ∷ bs) ≡ goes_on_from f bs →
        error_inside (lexeme_from f b bs) depth b bs ≡ Some (code, suffix) → error_inside (lexeme_from f b (bs ++ more)) depth b (bs ++ more) ≡ Some (code, suffix ++ more)
    inside f stay is g k =
        elim s [
          | inl closed ↦ outside (lexeme_from f b bs) (lexeme_from f b (bs ++ more)) closed k
          | inr ends ↦ ended (lexeme_from f b bs) (lexeme_from f b (bs ++ more)) (stay (sym g ∙ ends)).0 (λ c. true≢false (sym (cut_goes_on (b ∷ bs) (sym is ∙ c)) ∙ ends)) k
        ]

    by : (f : First) → error_from f depth b bs ≡ Some (code, suffix) → lexeme_from f b bs ≡ lexeme_at (b ∷ bs) → may_go_on (b ∷ bs) ≡ goes_on_from f bs →
        error_from f depth b (bs ++ more) ≡ Some (code, suffix ++ more)
    by an_opening k is g = guarded (nat_lt depth nesting_limit) nests_too_deep k
    by a_closing k is g = guarded (nat_lt 0 depth) closes_nothing k
    by a_quoted k is g = inside a_quoted (stays a_quoted b bs more) is g k
    by a_text k is g = inside a_text (stays a_text b bs more) is g k
    by a_word k is g = inside a_word (stays a_word b bs more) is g k
    by no_token k is g = inside no_token (stays no_token b bs more) is g k

-- bytes that are no whitespace and comments are some
pub some_left : (rest : List ℕ) (b : ℕ) (bs : List ℕ) → after_whitespace rest ≡ b ∷ bs → NonEmpty rest
some_left [] b bs e = cc
some_left (c ∷ cs) b bs e = tt

-- a definite error stays when more bytes come
pub error_stays : (bytes : List ℕ) (code : ℕ) (suffix more : List ℕ) → HasDefiniteError bytes code suffix → HasDefiniteError (bytes ++ more) code (suffix ++ more)
error_stays bytes code suffix more f = at (after_whitespace f.rest) refl f.error f.definite
  where
    at_end : (depth : ℕ) → depth ≡ 0 → error_at depth [] ≡ Some (code, suffix) → ⊥
    at_end depth closed e = no_error code suffix (subst (λ d. error_at d [] ≡ Some (code, suffix)) closed e)

    at : (l : List ℕ) → after_whitespace f.rest ≡ l → error_at f.depth l ≡ Some (code, suffix) → (f.depth ≡ 0) ⊎ (may_go_on l ≡ false) → HasDefiniteError (bytes ++ more) code (suffix ++ more)
    at [] is e s = elim s [ inl closed ↦ absurd (at_end f.depth closed e) | inr ends ↦ absurd (true≢false ends) ]
    at (b ∷ bs) is e s =
        let there = after_whitespace-append f.rest more b bs is in
        record {
          tokens = f.tokens;
          depth = f.depth;
          rest = f.rest ++ more;
          part = record { spelled = AreTokens-longer f.tokens bytes f.rest more f.part.spelled (some_left f.rest b bs is); nested = f.part.nested };
          error = ap (error_at f.depth) there ∙ error_longer b bs more f.depth code suffix e s;
          definite = elim s [ inl closed ↦ inl closed | inr ends ↦ inr (ap may_go_on there ∙ (lexeme_stays (b ∷ bs) more ends).1) ];
        }
