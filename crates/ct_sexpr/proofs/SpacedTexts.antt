-- Whitespace and comments between tokens say nothing: a command is read wherever its tokens are.
use Rattle.std.proofs.Common.{◌≡◌, ℕ, ◌<◌, ◌≤◌, Bool, true, false, eqb, cond, List, [], ◌∷◌, ◌++◌, length, ◌⊎◌, ◌↔◌, true≢false, inl, inr, refl, sym, ap, ◌∙◌, subst, append_assoc, arith}
use Rattle.std.proofs.lemmas.List.{append-nil}
use Rattle.std.proofs.lemmas.Bool.Decides.{eqb_tells}
use Rattle.ct_sexpr.specs.Whitespace.{is_whitespace, ends_comment, after_whitespace, after_comment}
use Rattle.ct_sexpr.specs.Atom.{is_word_byte}
use Rattle.ct_sexpr.specs.Token.{Token, opening, closing, lexeme_at, AreTokens}
use Rattle.ct_sexpr.specs.Expression.{Expression, leaf, list, Expressions, none, more, tokens_of, tokens_of_each, nesting}
use Rattle.ct_sexpr.specs.Reading.{nesting_limit, open_after, BeginsCommand}
use Rattle.ct_sexpr.specs.Written.{written, written_items, written_after, canonical, canonical_each}
use Rattle.ct_sexpr.specs.Readable.{IsReadable, AreReadable}
use Rattle.ct_sexpr.specs.Spaced.{is_spacing, is_comment_and_spacing, IsSpaced, AreSpaced, AreSpacedAfter}
use Rattle.ct_sexpr.proofs.Texts.{AreTokens-append, command_tokens, command_closes}
use Rattle.ct_sexpr.proofs.Depths.{nesting-canonical_each, inside_open_each, command_nests}
use Rattle.ct_sexpr.proofs.ReadBack.{EndsAtom, atom_is_read}

-- one byte of spacing, by what the rest of the bytes leaves
by_byte : (comment space rest_of_comment rest : Bool) (b : ℕ) (bs after_end after tail : List ℕ)
    → (rest_of_comment ≡ true → after_end ≡ tail) → (rest ≡ true → after ≡ tail)
    → cond comment rest_of_comment (cond space rest false) ≡ true → cond comment after_end (cond space after (b ∷ bs)) ≡ tail
by_byte true space rest_of_comment rest b bs after_end after tail f g h = f h
by_byte false true rest_of_comment rest b bs after_end after tail f g h = g h
by_byte false false rest_of_comment rest b bs after_end after tail f g h = cc

by_end : (ends rest rest_of_comment : Bool) (after after_end tail : List ℕ) → (rest ≡ true → after ≡ tail) → (rest_of_comment ≡ true → after_end ≡ tail)
    → cond ends rest rest_of_comment ≡ true → cond ends after after_end ≡ tail
by_end true rest rest_of_comment after after_end tail f g h = f h
by_end false rest rest_of_comment after after_end tail f g h = g h

-- spacing is passed over, whatever follows it
mutual
  pub spacing_is_passed : (space tail : List ℕ) → is_spacing space ≡ true → after_whitespace (space ++ tail) ≡ after_whitespace tail
  spacing_is_passed [] tail h = refl
  spacing_is_passed (b ∷ bs) tail h =
      by_byte (eqb b 59) (is_whitespace b) (is_comment_and_spacing bs) (is_spacing bs) b (bs ++ tail) (after_comment (bs ++ tail)) (after_whitespace (bs ++ tail)) (after_whitespace tail)
      (comment_is_passed bs tail) (spacing_is_passed bs tail) h

  comment_is_passed : (space tail : List ℕ) → is_comment_and_spacing space ≡ true → after_comment (space ++ tail) ≡ after_whitespace tail
  comment_is_passed [] tail h = cc
  comment_is_passed (b ∷ bs) tail h =
      by_end (ends_comment b) (is_spacing bs) (is_comment_and_spacing bs) (after_whitespace (bs ++ tail)) (after_comment (bs ++ tail)) (after_whitespace tail)
      (spacing_is_passed bs tail) (comment_is_passed bs tail) h

-- tokens in two parts
AreTokens-parts : (ts us : List Token) (bytes rest : List ℕ) → AreTokens (ts ++ us) bytes rest → (middle : List ℕ) × AreTokens ts bytes middle × AreTokens us middle rest
AreTokens-parts [] us bytes rest h = (bytes, refl, h)
AreTokens-parts (t ∷ ts) us bytes rest h =
    let p = AreTokens-parts ts us h.0 rest h.2 in
    (p.0, (h.0, h.1, p.1), p.2)

-- a list that nests within the limit is a command wherever its tokens are
pub tokens_command : (es : Expressions) (bytes rest : List ℕ) → AreTokens (tokens_of (list es)) bytes rest → nesting (list es) ≤ nesting_limit → BeginsCommand bytes (list es) rest
tokens_command es bytes rest h within =
    let xs = tokens_of_each es in
    let p = AreTokens-parts (opening ∷ xs) (closing ∷ []) bytes rest h in
    record {
      before = opening ∷ xs;
      remaining = p.0;
      tokens = refl;
      part = record {
        spelled = p.1;
        nested = ap (λ l. open_after l 1) (sym (append-nil xs)) ∙ inside_open_each es [] 1 (omega arith) (omega (arith, within));
      };
      closed = p.2;
    }

-- an atom ends before the byte
abbrev EndsBefore : ℕ → Type 0
EndsBefore b = (is_word_byte b ≡ false) × (eqb b 34 ≡ false)

blank_ends : (b : ℕ) → is_whitespace b ≡ true → EndsBefore b
blank_ends b h =
    elim (eqb_tells b 9) [
      | inl x ↦ subst EndsBefore (sym x.1) (refl, refl)
      | inr x ↦
          elim (eqb_tells b 10) [
            | inl y ↦ subst EndsBefore (sym y.1) (refl, refl)
            | inr y ↦
                elim (eqb_tells b 13) [
                  | inl z ↦ subst EndsBefore (sym z.1) (refl, refl)
                  | inr z ↦
                      elim (eqb_tells b 32) [
                        | inl u ↦ subst EndsBefore (sym u.1) (refl, refl)
                        | inr u ↦ let none : is_whitespace b ≡ false = rw (x.0, y.0, z.0, u.0) refl in absurd (true≢false (sym h ∙ none))
                      ]
                ]
          ]
    ]

is_first : (test rest : Bool) → cond test rest false ≡ true → test ≡ true
is_first true rest h = refl
is_first false rest h = cc

first_ends : (b : ℕ) (bs : List ℕ) → is_spacing (b ∷ bs) ≡ true → EndsBefore b
first_ends b bs h =
    elim (eqb_tells b 59) [
      | inl x ↦ subst EndsBefore (sym x.1) (refl, refl)
      | inr x ↦
          let other : cond (is_whitespace b) (is_spacing bs) false ≡ true = rw x.0 at h in
          blank_ends b (is_first (is_whitespace b) (is_spacing bs) other)
    ]

-- so an atom ends before spacing that is not empty, and before a parenthesis
spacing_ends : (space tail : List ℕ) → is_spacing space ≡ true → (0 < length space) ⊎ EndsAtom tail → EndsAtom (space ++ tail)
spacing_ends [] tail h (inl some) = absurd (omega (arith, some))
spacing_ends [] tail h (inr ends) = ends
spacing_ends (b ∷ bs) tail h some = first_ends b bs h

after_ends : (es : Expressions) (text tail : List ℕ) → AreSpacedAfter es text → EndsAtom (text ++ tail)
after_ends none text tail h =
    subst (λ (bs : List ℕ). EndsAtom (bs ++ tail)) (sym h.2)
    (subst EndsAtom (sym (append_assoc h.0 (41 ∷ []) tail)) (spacing_ends h.0 (41 ∷ tail) h.1 (inr (refl, refl))))
after_ends (more e es) text tail h =
    subst (λ (bs : List ℕ). EndsAtom (bs ++ tail)) (sym h.7)
    (subst EndsAtom (sym (append_assoc h.0 (h.1 ++ h.2) tail)) (spacing_ends h.0 ((h.1 ++ h.2) ++ tail) h.4 (inl h.3)))

-- the closing parenthesis is read after spacing
closing_is_read : (space text tail : List ℕ) → is_spacing space ≡ true → text ≡ space ++ 41 ∷ [] → AreTokens (closing ∷ []) (text ++ tail) tail
closing_is_read space text tail h is =
    let passed : after_whitespace (text ++ tail) ≡ 41 ∷ tail = ap (λ (bs : List ℕ). after_whitespace (bs ++ tail)) is ∙ ap after_whitespace (append_assoc space (41 ∷ []) tail) ∙ spacing_is_passed space (41 ∷ tail) h in
    (tail, ap lexeme_at passed, refl)

-- an item after spacing is what is there
item_is_there : (space item others text tail : List ℕ) → is_spacing space ≡ true → text ≡ space ++ (item ++ others) → after_whitespace (text ++ tail) ≡ after_whitespace (item ++ (others ++ tail))
item_is_there space item others text tail h is =
    ap (λ (bs : List ℕ). after_whitespace (bs ++ tail)) is
    ∙ ap after_whitespace (append_assoc space (item ++ others) tail)
    ∙ spacing_is_passed space ((item ++ others) ++ tail) h
    ∙ ap after_whitespace (append_assoc item others tail)

-- a spaced text of an expression has the tokens of the expression, before bytes that end an atom
mutual
  spaced_tokens : (e : Expression) (text bytes tail : List ℕ) → IsReadable e → IsSpaced e text → EndsAtom tail → after_whitespace bytes ≡ after_whitespace (text ++ tail)
      → AreTokens (tokens_of (canonical e)) bytes tail
  spaced_tokens (leaf a) text bytes tail r s ends h =
      (tail, ap lexeme_at (h ∙ ap (λ (bs : List ℕ). after_whitespace (bs ++ tail)) s) ∙ atom_is_read a tail r ends, refl)
  spaced_tokens (list es) text bytes tail r s ends h =
      (s.0 ++ tail, ap lexeme_at (h ∙ ap (λ (bs : List ℕ). after_whitespace (bs ++ tail)) s.2), spaced_items es s.0 tail r s.1)

  spaced_items : (es : Expressions) (text tail : List ℕ) → AreReadable es → AreSpaced es text → AreTokens (tokens_of_each (canonical_each es) ++ closing ∷ []) (text ++ tail) tail
  spaced_items none text tail r s = closing_is_read s.0 text tail s.1 s.2
  spaced_items (more e es) text tail r s =
      let xs = tokens_of (canonical e) in
      let ys = tokens_of_each (canonical_each es) in
      let first = spaced_tokens e s.1 (text ++ tail) (s.2 ++ tail) r.0 s.4 (after_ends es s.2 tail s.5) (item_is_there s.0 s.1 s.2 text tail s.3 s.6) in
      subst (λ (ts : List Token). AreTokens ts (text ++ tail) tail) (sym (append_assoc xs ys (closing ∷ [])))
      (AreTokens-append xs (ys ++ closing ∷ []) (text ++ tail) (s.2 ++ tail) tail first (spaced_after es s.2 tail r.1 s.5))

  spaced_after : (es : Expressions) (text tail : List ℕ) → AreReadable es → AreSpacedAfter es text → AreTokens (tokens_of_each (canonical_each es) ++ closing ∷ []) (text ++ tail) tail
  spaced_after none text tail r s = closing_is_read s.0 text tail s.1 s.2
  spaced_after (more e es) text tail r s =
      let xs = tokens_of (canonical e) in
      let ys = tokens_of_each (canonical_each es) in
      let first = spaced_tokens e s.1 (text ++ tail) (s.2 ++ tail) r.0 s.5 (after_ends es s.2 tail s.6) (item_is_there s.0 s.1 s.2 text tail s.4 s.7) in
      subst (λ (ts : List Token). AreTokens ts (text ++ tail) tail) (sym (append_assoc xs ys (closing ∷ [])))
      (AreTokens-append xs (ys ++ closing ∷ []) (text ++ tail) (s.2 ++ tail) tail first (spaced_after es s.2 tail r.1 s.6))

-- a spaced text of a readable list that nests within the limit is read as the list
pub spaced_is_read : (es : Expressions) (text : List ℕ) → AreReadable es → nesting (list es) ≤ nesting_limit → IsSpaced (list es) text → BeginsCommand text (canonical (list es)) []
spaced_is_read es text r within s =
    let tokens : AreTokens (tokens_of (canonical (list es))) text [] = (s.0, ap (λ (bs : List ℕ). lexeme_at (after_whitespace bs)) s.2, subst (λ (bs : List ℕ). AreTokens (tokens_of_each (canonical_each es) ++ closing ∷ []) bs []) (append-nil s.0) (spaced_items es s.0 [] r s.1)) in
    tokens_command (canonical_each es) text [] tokens (omega (arith, within, nesting-canonical_each es))

-- what is written with single spaces is spaced
mutual
  pub written_is_spaced : (e : Expression) → IsSpaced e (written e)
  written_is_spaced (leaf a) = refl
  written_is_spaced (list es) = (written_items es ++ 41 ∷ [], items_are_spaced es, refl)

  items_are_spaced : (es : Expressions) → AreSpaced es (written_items es ++ 41 ∷ [])
  items_are_spaced none = ([], refl, refl)
  items_are_spaced (more e es) =
      ([], written e, written_after es ++ 41 ∷ [], refl, written_is_spaced e, after_are_spaced es, append_assoc (written e) (written_after es) (41 ∷ []))

  after_are_spaced : (es : Expressions) → AreSpacedAfter es (written_after es ++ 41 ∷ [])
  after_are_spaced none = ([], refl, refl)
  after_are_spaced (more e es) =
      (32 ∷ [], written e, written_after es ++ 41 ∷ [], omega arith, refl, written_is_spaced e, after_are_spaced es, ap (λ (bs : List ℕ). 32 ∷ bs) (append_assoc (written e) (written_after es) (41 ∷ [])))

-- a command is read after spacing as without it
spelled_after : (ts : List Token) (space bytes rest : List ℕ) → is_spacing space ≡ true → 0 < length ts → AreTokens ts bytes rest → AreTokens ts (space ++ bytes) rest
spelled_after [] space bytes rest h some a = absurd (omega (arith, some))
spelled_after (t ∷ ts) space bytes rest h some a = (a.0, ap lexeme_at (spacing_is_passed space bytes h) ∙ a.1, a.2)

pub spacing_before : (space bytes : List ℕ) (e : Expression) (rest : List ℕ) → is_spacing space ≡ true → BeginsCommand bytes e rest → BeginsCommand (space ++ bytes) e rest
spacing_before space bytes (leaf a) rest h c = absurd (command_closes bytes (leaf a) rest c).1
spacing_before space bytes (list es) rest h c =
    tokens_command es (space ++ bytes) rest
    (spelled_after (tokens_of (list es)) space bytes rest h (omega arith) (command_tokens bytes (list es) rest c))
    (command_nests bytes (list es) rest c)

-- a list is read as a command exactly where its tokens are, and it nests within the limit
pub command_has_tokens : (es : Expressions) (bytes rest : List ℕ) → BeginsCommand bytes (list es) rest ↔ (AreTokens (tokens_of (list es)) bytes rest × (nesting (list es) ≤ nesting_limit))
command_has_tokens es bytes rest = (
  λ c. (command_tokens bytes (list es) rest c, command_nests bytes (list es) rest c),
  λ h. tokens_command es bytes rest h.0 h.1,
)
