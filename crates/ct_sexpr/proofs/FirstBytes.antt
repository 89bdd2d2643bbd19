-- What a byte begins: a token or an error, and whether bytes that follow may change it.
use Rattle.std.proofs.Common.{◌≡◌, ℕ, Bool, true, false, eqb, nat_lt, cond, List, [], ◌∷◌, Option, Some, None, Result, Ok, Err, ◌⊎◌, inl, inr, refl, sym, ap, ◌∙◌, subst}
use Rattle.std.proofs.lemmas.Bool.Decides.{eqb_tells}
use Rattle.ct_sexpr.specs.TakeWhile.{take_while, drop_while}
use Rattle.ct_sexpr.specs.ErrorNumber.{begins_no_token, closes_nothing, nests_too_deep, atom_outside}
use Rattle.ct_sexpr.specs.Atom.{Atom, quoted, text, begins_word, word_of, after_word, atom_of}
use Rattle.ct_sexpr.specs.Token.{Token, opening, closing, atom, bar, is_in_quoted_symbol, string_content, after_text, Lexeme, token, wrong, cut, quoted_lexeme, text_lexeme, word_lexeme, lexeme_at, begins_atom, is_empty, text_may_go_on, may_go_on}
use Rattle.ct_sexpr.specs.Reading.{nesting_limit, error_of, error_at}

-- what a byte may begin
pub data First : Type 0 where
  an_opening : First
  a_closing : First
  a_quoted : First
  a_text : First
  a_word : First
  no_token : First

-- what stands at the start of bytes of which the first begins so
abbrev pub lexeme_from : First → ℕ → List ℕ → Lexeme
lexeme_from an_opening b bs = token opening bs
lexeme_from a_closing b bs = token closing bs
lexeme_from a_quoted b bs = quoted_lexeme (take_while is_in_quoted_symbol bs) (drop_while is_in_quoted_symbol bs)
lexeme_from a_text b bs = text_lexeme (string_content bs) (after_text bs)
lexeme_from a_word b bs = word_lexeme (atom_of (b ∷ word_of bs)) (b ∷ bs) (after_word bs)
lexeme_from no_token b bs = wrong begins_no_token (b ∷ bs)

-- whether bytes that follow may change it
abbrev pub goes_on_from : First → List ℕ → Bool
goes_on_from an_opening bs = false
goes_on_from a_closing bs = false
goes_on_from a_quoted bs = is_empty (drop_while is_in_quoted_symbol bs)
goes_on_from a_text bs = text_may_go_on (after_text bs)
goes_on_from a_word bs = is_empty (after_word bs)
goes_on_from no_token bs = false

-- the error of what is no parenthesis
abbrev pub error_inside : Lexeme → ℕ → ℕ → List ℕ → Option (ℕ × List ℕ)
error_inside lexeme depth b bs = cond (nat_lt 0 depth) (error_of lexeme) (Some (cond (begins_atom b) atom_outside begins_no_token, b ∷ bs))

-- the error at the start of bytes of which the first begins so
abbrev pub error_from : First → ℕ → ℕ → List ℕ → Option (ℕ × List ℕ)
error_from an_opening depth b bs = cond (nat_lt depth nesting_limit) None (Some (nests_too_deep, b ∷ bs))
error_from a_closing depth b bs = cond (nat_lt 0 depth) None (Some (closes_nothing, b ∷ bs))
error_from a_quoted depth b bs = error_inside (lexeme_from a_quoted b bs) depth b bs
error_from a_text depth b bs = error_inside (lexeme_from a_text b bs) depth b bs
error_from a_word depth b bs = error_inside (lexeme_from a_word b bs) depth b bs
error_from no_token depth b bs = error_inside (lexeme_from no_token b bs) depth b bs

-- the byte begins so
pub record Begins (first : First) (b : ℕ) : Type 0 where
  pub lexeme : (bs : List ℕ) → lexeme_at (b ∷ bs) ≡ lexeme_from first b bs
  pub goes_on : (bs : List ℕ) → may_go_on (b ∷ bs) ≡ goes_on_from first bs
  pub error : (depth : ℕ) (bs : List ℕ) → error_at depth (b ∷ bs) ≡ error_from first depth b bs

opens : Begins an_opening 40
opens = record { lexeme = λ bs. refl; goes_on = λ bs. refl; error = λ depth bs. refl }

closes : Begins a_closing 41
closes = record { lexeme = λ bs. refl; goes_on = λ bs. refl; error = λ depth bs. refl }

quotes : Begins a_quoted 124
quotes = record { lexeme = λ bs. refl; goes_on = λ bs. refl; error = λ depth bs. refl }

says : Begins a_text 34
says = record { lexeme = λ bs. refl; goes_on = λ bs. refl; error = λ depth bs. refl }

word_or_none : (b : ℕ) (is_word : Bool) → begins_word b ≡ is_word → eqb b 40 ≡ false → eqb b 41 ≡ false → eqb b 124 ≡ false → eqb b 34 ≡ false → (first : First) × Begins first b
word_or_none b true w o c q t =
    (a_word, record { lexeme = λ bs. rw (o, c, q, t, w) refl; goes_on = λ bs. rw (q, t, w) refl; error = λ depth bs. rw (o, c, q, t, w) refl })
word_or_none b false w o c q t =
    (no_token, record { lexeme = λ bs. rw (o, c, q, t, w) refl; goes_on = λ bs. rw (q, t, w) refl; error = λ depth bs. rw (o, c, q, t, w) refl })

-- each byte begins in one of these ways
pub first_of : (b : ℕ) → (first : First) × Begins first b
first_of b =
    elim (eqb_tells b 40) [
      | inl x ↦ (an_opening, subst (Begins an_opening) (sym x.1) opens)
      | inr o ↦
          elim (eqb_tells b 41) [
            | inl x ↦ (a_closing, subst (Begins a_closing) (sym x.1) closes)
            | inr c ↦
                elim (eqb_tells b 124) [
                  | inl x ↦ (a_quoted, subst (Begins a_quoted) (sym x.1) quotes)
                  | inr q ↦
                      elim (eqb_tells b 34) [
                        | inl x ↦ (a_text, subst (Begins a_text) (sym x.1) says)
                        | inr t ↦ word_or_none b (begins_word b) refl o.0 c.0 q.0 t.0
                      ]
                ]
          ]
    ]

-- a quoted symbol that may go on is cut
pub quoted_goes_on : (content left : List ℕ) (t : Token) (remaining : List ℕ) → is_empty left ≡ true → quoted_lexeme content left ≡ token t remaining → ⊥
quoted_goes_on content [] t remaining g e = cc
quoted_goes_on content (b ∷ bs) t remaining g e = cc

-- a string or a word that may go on has nothing after it
text_goes_on : (content : List ℕ) (left : Option (List ℕ)) (t : Token) (remaining : List ℕ) → text_may_go_on left ≡ true → text_lexeme content left ≡ token t remaining →
    (a : Atom) × (t ≡ atom a) × (remaining ≡ [])
text_goes_on content None t remaining g e = cc
text_goes_on content (Some []) t remaining g e = (text content, cc, cc)
text_goes_on content (Some (b ∷ bs)) t remaining g e = cc

word_goes_on : (read : Result Atom ℕ) (bytes left : List ℕ) (t : Token) (remaining : List ℕ) → is_empty left ≡ true → word_lexeme read bytes left ≡ token t remaining →
    (a : Atom) × (t ≡ atom a) × (remaining ≡ [])
word_goes_on (Ok a) bytes [] t remaining g e = (a, cc, cc)
word_goes_on (Ok a) bytes (b ∷ bs) t remaining g e = cc
word_goes_on (Err code) bytes left t remaining g e = cc

-- a token that may go on is an atom, and nothing is left after it
pub token_goes_on : (l : List ℕ) (t : Token) (remaining : List ℕ) → may_go_on l ≡ true → lexeme_at l ≡ token t remaining → (a : Atom) × (t ≡ atom a) × (remaining ≡ [])
token_goes_on [] t remaining g e = cc
token_goes_on (b ∷ bs) t remaining g e =
    let f = first_of b in
    by f.0 (sym (f.1.goes_on bs) ∙ g) (sym (f.1.lexeme bs) ∙ e)
  where
    by : (f : First) → goes_on_from f bs ≡ true → lexeme_from f b bs ≡ token t remaining → (a : Atom) × (t ≡ atom a) × (remaining ≡ [])
    by an_opening h k = cc
    by a_closing h k = cc
    by a_quoted h k = absurd (quoted_goes_on (take_while is_in_quoted_symbol bs) (drop_while is_in_quoted_symbol bs) t remaining h k)
    by a_text h k = text_goes_on (string_content bs) (after_text bs) t remaining h k
    by a_word h k = word_goes_on (atom_of (b ∷ word_of bs)) (b ∷ bs) (after_word bs) t remaining h k
    by no_token h k = cc

-- neither a quoted symbol that a byte ends nor a word is cut
pub quoted_is_not_cut : (content : List ℕ) (c : ℕ) (cs : List ℕ) → quoted_lexeme content (c ∷ cs) ≡ cut → ⊥
quoted_is_not_cut content c cs e = by (eqb c bar) e
  where
    by : (p : Bool) → cond p (token (atom (quoted content)) cs) (wrong begins_no_token (c ∷ cs)) ≡ cut → ⊥
    by true k = cc
    by false k = cc

pub word_is_not_cut : (read : Result Atom ℕ) (bytes left : List ℕ) → word_lexeme read bytes left ≡ cut → ⊥
word_is_not_cut (Ok a) bytes left e = cc
word_is_not_cut (Err code) bytes left e = cc

-- what is cut may go on
pub cut_goes_on : (l : List ℕ) → lexeme_at l ≡ cut → may_go_on l ≡ true
cut_goes_on [] e = refl
cut_goes_on (b ∷ bs) e =
    let f = first_of b in
    f.1.goes_on bs ∙ by f.0 (sym (f.1.lexeme bs) ∙ e)
  where
    of_quoted : (content left : List ℕ) → quoted_lexeme content left ≡ cut → is_empty left ≡ true
    of_quoted content [] k = refl
    of_quoted content (c ∷ cs) k = absurd (quoted_is_not_cut content c cs k)

    of_text : (content : List ℕ) (left : Option (List ℕ)) → text_lexeme content left ≡ cut → text_may_go_on left ≡ true
    of_text content None k = refl
    of_text content (Some left) k = cc

    by : (f : First) → lexeme_from f b bs ≡ cut → goes_on_from f bs ≡ true
    by an_opening k = cc
    by a_closing k = cc
    by a_quoted k = of_quoted (take_while is_in_quoted_symbol bs) (drop_while is_in_quoted_symbol bs) k
    by a_text k = of_text (string_content bs) (after_text bs) k
    by a_word k = absurd (word_is_not_cut (atom_of (b ∷ word_of bs)) (b ∷ bs) (after_word bs) k)
    by no_token k = cc

-- the error, where there is one
abbrev error_or : ℕ × List ℕ → Option (ℕ × List ℕ) → ℕ × List ℕ
error_or other None = other
error_or other (Some x) = x

-- an error is one error
pub same_error : (c d : ℕ) (p q : List ℕ) → ◌≡◌ {A = Option (ℕ × List ℕ)} (Some (c, p)) (Some (d, q)) → (c ≡ d) × (p ≡ q)
same_error c d p q e =
    let pairs : ◌≡◌ {A = ℕ × List ℕ} (c, p) (d, q) = ap (error_or (c, p)) e in
    (ap (λ x. x.0) pairs, ap (λ x. x.1) pairs)

-- no error is not an error
pub no_error : (c : ℕ) (p : List ℕ) → ◌≡◌ {A = Option (ℕ × List ℕ)} None (Some (c, p)) → ⊥
no_error c p e = cc

-- a test has one of two answers
pub true_or_false : (b : Bool) → (b ≡ true) ⊎ (b ≡ false)
true_or_false true = inl refl
true_or_false false = inr refl

-- an error has its position at the start, or is one of what stands there inside parentheses
pub error_cases : (b : ℕ) (bs : List ℕ) (depth code : ℕ) (suffix : List ℕ) → error_at depth (b ∷ bs) ≡ Some (code, suffix) →
    (suffix ≡ b ∷ bs) ⊎ ((nat_lt 0 depth ≡ true) × (error_of (lexeme_at (b ∷ bs)) ≡ Some (code, suffix)))
error_cases b bs depth code suffix e =
    let f = first_of b in
    by f.0 (sym (f.1.lexeme bs)) (sym (f.1.error depth bs) ∙ e)
  where
    here : (p : Bool) (n : ℕ) → cond {A = Option (ℕ × List ℕ)} p None (Some (n, b ∷ bs)) ≡ Some (code, suffix) → suffix ≡ b ∷ bs
    here true n k = absurd (no_error code suffix k)
    here false n k = sym (same_error n code (b ∷ bs) suffix k).1

    inside : (p : Bool) (n : ℕ) (l m : Lexeme) → nat_lt 0 depth ≡ p → l ≡ m → cond p (error_of l) (Some (n, b ∷ bs)) ≡ Some (code, suffix) →
        (suffix ≡ b ∷ bs) ⊎ ((nat_lt 0 depth ≡ true) × (error_of m ≡ Some (code, suffix)))
    inside true n l m d is k = inr (d, subst (λ x. error_of x ≡ Some (code, suffix)) is k)
    inside false n l m d is k = inl (sym (same_error n code (b ∷ bs) suffix k).1)

    by : (f : First) → lexeme_from f b bs ≡ lexeme_at (b ∷ bs) → error_from f depth b bs ≡ Some (code, suffix) →
        (suffix ≡ b ∷ bs) ⊎ ((nat_lt 0 depth ≡ true) × (error_of (lexeme_at (b ∷ bs)) ≡ Some (code, suffix)))
    by an_opening is k = inl (here (nat_lt depth nesting_limit) nests_too_deep k)
    by a_closing is k = inl (here (nat_lt 0 depth) closes_nothing k)
    by a_quoted is k = inside (nat_lt 0 depth) _ (lexeme_from a_quoted b bs) (lexeme_at (b ∷ bs)) refl is k
    by a_text is k = inside (nat_lt 0 depth) _ (lexeme_from a_text b bs) (lexeme_at (b ∷ bs)) refl is k
    by a_word is k = inside (nat_lt 0 depth) _ (lexeme_from a_word b bs) (lexeme_at (b ∷ bs)) refl is k
    by no_token is k = inside (nat_lt 0 depth) _ (lexeme_from no_token b bs) (lexeme_at (b ∷ bs)) refl is k

-- whether a token may stand where so many lists are open
abbrev pub MayFollow : Token → ℕ → Type 0
MayFollow opening depth = nat_lt depth nesting_limit ≡ true
MayFollow closing depth = nat_lt 0 depth ≡ true
MayFollow (atom a) depth = nat_lt 0 depth ≡ true

-- the token of what begins an atom is one
quoted_atom : (content left : List ℕ) (t : Token) (remaining : List ℕ) → quoted_lexeme content left ≡ token t remaining → (a : Atom) × (t ≡ atom a)
quoted_atom content [] t remaining e = cc
quoted_atom content (c ∷ cs) t remaining e = by (eqb c bar) e
  where
    by : (p : Bool) → cond p (token (atom (quoted content)) cs) (wrong begins_no_token (c ∷ cs)) ≡ token t remaining → (a : Atom) × (t ≡ atom a)
    by true k = (quoted content, cc)
    by false k = cc

text_atom : (content : List ℕ) (left : Option (List ℕ)) (t : Token) (remaining : List ℕ) → text_lexeme content left ≡ token t remaining → (a : Atom) × (t ≡ atom a)
text_atom content None t remaining e = cc
text_atom content (Some left) t remaining e = (text content, cc)

word_atom : (read : Result Atom ℕ) (bytes left : List ℕ) (t : Token) (remaining : List ℕ) → word_lexeme read bytes left ≡ token t remaining → (a : Atom) × (t ≡ atom a)
word_atom (Ok a) bytes left t remaining e = (a, cc)
word_atom (Err code) bytes left t remaining e = cc

-- no error stands where a token does that may stand there
pub token_is_no_error : (l : List ℕ) (t : Token) (remaining : List ℕ) (depth : ℕ) → lexeme_at l ≡ token t remaining → MayFollow t depth → error_at depth l ≡ None
token_is_no_error [] t remaining depth e m = cc
token_is_no_error (b ∷ bs) t remaining depth e m =
    let f = first_of b in
    f.1.error depth bs ∙ by f.0 (sym (f.1.lexeme bs) ∙ e)
  where
    inside : (l : Lexeme) → (a : Atom) × (t ≡ atom a) → l ≡ token t remaining → error_inside l depth b bs ≡ None
    inside l a k =
        let deep : nat_lt 0 depth ≡ true = subst (λ u. MayFollow u depth) a.1 m in
        rw (deep, k) refl

    by : (f : First) → lexeme_from f b bs ≡ token t remaining → error_from f depth b bs ≡ None
    by an_opening k =
        let is : t ≡ opening = cc in
        let room : nat_lt depth nesting_limit ≡ true = subst (λ u. MayFollow u depth) is m in
        rw room refl
    by a_closing k =
        let is : t ≡ closing = cc in
        let deep : nat_lt 0 depth ≡ true = subst (λ u. MayFollow u depth) is m in
        rw deep refl
    by a_quoted k = inside _ (quoted_atom (take_while is_in_quoted_symbol bs) (drop_while is_in_quoted_symbol bs) t remaining k) k
    by a_text k = inside _ (text_atom (string_content bs) (after_text bs) t remaining k) k
    by a_word k = inside _ (word_atom (atom_of (b ∷ word_of bs)) (b ∷ bs) (after_word bs) t remaining k) k
    by no_token k = cc

-- a token that may stand there
abbrev pub Follows : ℕ → Lexeme → Type 0
Follows depth l = (t : Token) × (remaining : List ℕ) × (l ≡ token t remaining) × MayFollow t depth

-- where no error is a token follows that may stand there
pub token_or_error : (b : ℕ) (bs : List ℕ) (depth : ℕ) → error_at depth (b ∷ bs) ≡ None → Follows depth (lexeme_at (b ∷ bs))
token_or_error b bs depth e = begun (first_of b).0 (first_of b).1
  where
    guarded : (p : Bool) (x : ℕ × List ℕ) → cond {A = Option (ℕ × List ℕ)} p None (Some x) ≡ None → p ≡ true
    guarded true x k = refl
    guarded false x k = cc

    read : (l : Lexeme) → error_of l ≡ None → (t : Token) × (remaining : List ℕ) × (l ≡ token t remaining)
    read (token t remaining) k = (t, remaining, refl)
    read (wrong code suffix) k = cc
    read cut k = cc

    stand : (t : Token) → (a : Atom) × (t ≡ atom a) → nat_lt 0 depth ≡ true → MayFollow t depth
    stand t a d = subst (λ t. MayFollow t depth) (sym a.1) d

    inside : (l : Lexeme) (p : Bool) (x : ℕ × List ℕ) → nat_lt 0 depth ≡ p → ((t : Token) (remaining : List ℕ) → l ≡ token t remaining → (a : Atom) × (t ≡ atom a)) →
        cond p (error_of l) (Some x) ≡ None → Follows depth l
    inside l true x d atoms k =
        let r = read l k in
        (r.0, r.1, r.2, stand r.0 (atoms r.0 r.1 r.2) d)
    inside l false x d atoms k = cc

    by : (f : First) → error_from f depth b bs ≡ None → Follows depth (lexeme_from f b bs)
    by an_opening k = (opening, bs, refl, guarded (nat_lt depth nesting_limit) (nests_too_deep, b ∷ bs) k)
    by a_closing k = (closing, bs, refl, guarded (nat_lt 0 depth) (closes_nothing, b ∷ bs) k)
    by a_quoted k = inside (lexeme_from a_quoted b bs) (nat_lt 0 depth) _ refl (λ t remaining h. quoted_atom (take_while is_in_quoted_symbol bs) (drop_while is_in_quoted_symbol bs) t remaining h) k
    by a_text k = inside (lexeme_from a_text b bs) (nat_lt 0 depth) _ refl (λ t remaining h. text_atom (string_content bs) (after_text bs) t remaining h) k
    by a_word k = inside (lexeme_from a_word b bs) (nat_lt 0 depth) _ refl (λ t remaining h. word_atom (atom_of (b ∷ word_of bs)) (b ∷ bs) (after_word bs) t remaining h) k
    by no_token k = inside (lexeme_from no_token b bs) (nat_lt 0 depth) _ refl (λ t remaining h. cc) k

    begun : (f : First) → Begins f b → Follows depth (lexeme_at (b ∷ bs))
    begun f is = subst (Follows depth) (sym (is.lexeme bs)) (by f (sym (is.error depth bs) ∙ e))
