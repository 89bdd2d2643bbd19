-- What is written of a readable expression is read as the same expression, with symbols quoted only where they need to be.
use Rattle.std.proofs.Common.{◌≡◌, ℕ, ◌+◌, ◌≤◌, Bool, true, false, not, eqb, cond, List, [], ◌∷◌, ◌++◌, length, length-append, inl, inr, refl, sym, ap, ◌∙◌, append_assoc, arith}
use Rattle.std.proofs.lemmas.List.{append-nil}
use Rattle.ct_lemmas.proofs.Booleans.{both_parts}
use Rattle.ct_sexpr.specs.Whitespace.{after_whitespace}
use Rattle.ct_sexpr.specs.TakeWhile.{drop_while}
use Rattle.ct_sexpr.specs.Atom.{Atom, symbol, quoted, keyword, text, numeral, decimal, binary, hexadecimal, is_word_byte}
use Rattle.ct_sexpr.specs.Token.{Token, opening, closing, atom, is_in_quoted_symbol, token, word_lexeme, lexeme_at, AreTokens}
use Rattle.ct_sexpr.specs.Expression.{Expression, leaf, list, Expressions, none, more, tokens_of, tokens_of_each, nesting, nesting_of_each}
use Rattle.ct_sexpr.specs.Reading.{nesting_limit, open_after, BeginsCommand}
use Rattle.ct_sexpr.specs.Written.{is_reserved, forms_symbol, is_simple, doubled, written_atom, written, written_items, written_after, canonical_atom, canonical, canonical_each}
use Rattle.ct_sexpr.specs.Readable.{HasForm, IsReadable, AreReadable}
use Rattle.ct_sexpr.specs.Scanning.{BeginsWord}
use Rattle.ct_sexpr.proofs.WhitespaceLemmas.{after_whitespace-atom}
use Rattle.ct_sexpr.proofs.Lexemes.{lexeme-word, lexeme-quoted, lexeme-text}
use Rattle.ct_sexpr.proofs.Trees.{tokens_of-injective}
use Rattle.ct_sexpr.proofs.Texts.{AreTokens-append, AreTokens-compare, command_tokens, command_closes}
use Rattle.ct_sexpr.proofs.Prefixes.{after_joined, after_is_shorter, whitespace_prefix, token_prefix, tokens_prefix}
use Rattle.ct_sexpr.proofs.Spelled.{IsWord, all_run, symbol_IsWord, keyword_IsWord, numeral_IsWord, decimal_IsWord, binary_IsWord, hexadecimal_IsWord, tokens_IsReadable}
use Rattle.ct_sexpr.proofs.Depths.{nesting-canonical_each, inside_open_each, command_nests}

-- an atom ends before the bytes
abbrev pub EndsAtom : List ℕ → Type 0
EndsAtom [] = ⊥
EndsAtom (b ∷ bs) = (is_word_byte b ≡ false) × (eqb b 34 ≡ false)

-- the bytes begin with the token, after whitespace and comments, and the tail follows it
abbrev pub GivesCommand : List ℕ → Token → List ℕ → Type 0
GivesCommand bytes t tail = lexeme_at (after_whitespace bytes) ≡ token t tail

word_is_solid : (w bs : List ℕ) → BeginsWord w → after_whitespace (w ++ bs) ≡ w ++ bs
word_is_solid [] bs s = absurd s
word_is_solid (b ∷ w) bs s = after_whitespace-atom b (w ++ bs) (rw s.0 refl)

-- a word is read before each byte that ends an atom
word_is_read : (a : Atom) (tail : List ℕ) → IsWord a → EndsAtom tail → GivesCommand (written_atom a ++ tail) (atom a) tail
word_is_read a [] s e = absurd e
word_is_read a (b ∷ bs) s e =
    let w = written_atom a in
    ap lexeme_at (word_is_solid w (b ∷ bs) s.0) ∙ lexeme-word w b bs s.0 e.0 ∙ ap (λ r. word_lexeme r (w ++ b ∷ bs) (b ∷ bs)) s.1

-- so are a name, quoted where it needs to be, and a string
name_is_read : (w tail : List ℕ) (needs_none : Bool) → is_simple w ≡ needs_none → drop_while is_in_quoted_symbol w ≡ [] → EndsAtom tail
    → GivesCommand (cond needs_none w (124 ∷ (w ++ 124 ∷ [])) ++ tail) (atom (cond needs_none (symbol w) (quoted w))) tail
name_is_read w tail true h s e = word_is_read (symbol w) tail (symbol_IsWord w (both_parts (forms_symbol w) (not (is_reserved w)) h).0) e
name_is_read w tail false h s e = ap (λ bs. lexeme_at (124 ∷ bs)) (append_assoc w (124 ∷ []) tail) ∙ lexeme-quoted w tail s

text_is_read : (w tail : List ℕ) → EndsAtom tail → GivesCommand ((34 ∷ (doubled w ++ 34 ∷ [])) ++ tail) (atom (text w)) tail
text_is_read w [] e = absurd e
text_is_read w (b ∷ bs) e = ap (λ cs. lexeme_at (34 ∷ cs)) (append_assoc (doubled w) (34 ∷ []) (b ∷ bs)) ∙ lexeme-text w b bs e.1

pub atom_is_read : (a : Atom) (tail : List ℕ) → HasForm a → EndsAtom tail → GivesCommand (written_atom a ++ tail) (atom (canonical_atom a)) tail
atom_is_read (symbol w) tail s e = word_is_read (symbol w) tail (symbol_IsWord w s) e
atom_is_read (quoted w) tail s e = name_is_read w tail (is_simple w) refl (all_run is_in_quoted_symbol w s) e
atom_is_read (keyword w) tail s e = word_is_read (keyword w) tail (keyword_IsWord w s) e
atom_is_read (text w) tail s e = text_is_read w tail e
atom_is_read (numeral n) tail s e = word_is_read (numeral n) tail (numeral_IsWord n s) e
atom_is_read (decimal w) tail s e = word_is_read (decimal w) tail (decimal_IsWord w s) e
atom_is_read (binary w) tail s e = word_is_read (binary w) tail (binary_IsWord w s) e
atom_is_read (hexadecimal w) tail s e = word_is_read (hexadecimal w) tail (hexadecimal_IsWord w s) e

after_EndsAtom : (es : Expressions) (tail : List ℕ) → EndsAtom (written_after es ++ 41 ∷ tail)
after_EndsAtom none tail = (refl, refl)
after_EndsAtom (more e es) tail = (refl, refl)

-- what is written of an expression before bytes that end an atom has the tokens of the expression
mutual
  expression_is_read : (e : Expression) (bytes tail : List ℕ) → IsReadable e → EndsAtom tail
      → after_whitespace bytes ≡ after_whitespace (written e ++ tail) → AreTokens (tokens_of (canonical e)) bytes tail
  expression_is_read (leaf a) bytes tail s e h = (tail, ap lexeme_at h ∙ atom_is_read a tail s e, refl)
  expression_is_read (list es) bytes tail s e h =
      let inside = written_items es ++ 41 ∷ tail in
      (inside, ap lexeme_at h ∙ ap (token opening) (append_assoc (written_items es) (41 ∷ []) tail), AreTokens-append (tokens_of_each (canonical_each es)) (closing ∷ []) inside (41 ∷ tail) tail (items_are_read es tail s) (tail, refl, refl))

  items_are_read : (es : Expressions) (tail : List ℕ) → AreReadable es → AreTokens (tokens_of_each (canonical_each es)) (written_items es ++ 41 ∷ tail) (41 ∷ tail)
  items_are_read none tail s = refl
  items_are_read (more e es) tail s =
      let after = written_after es ++ 41 ∷ tail in
      let first = expression_is_read e ((written e ++ written_after es) ++ 41 ∷ tail) after s.0 (after_EndsAtom es tail) (ap after_whitespace (append_assoc (written e) (written_after es) (41 ∷ tail))) in
      AreTokens-append (tokens_of (canonical e)) (tokens_of_each (canonical_each es)) ((written e ++ written_after es) ++ 41 ∷ tail) after (41 ∷ tail) first (after_is_read es tail s.1)

  after_is_read : (es : Expressions) (tail : List ℕ) → AreReadable es → AreTokens (tokens_of_each (canonical_each es)) (written_after es ++ 41 ∷ tail) (41 ∷ tail)
  after_is_read none tail s = refl
  after_is_read (more e es) tail s =
      let after = written_after es ++ 41 ∷ tail in
      let first = expression_is_read e (32 ∷ ((written e ++ written_after es) ++ 41 ∷ tail)) after s.0 (after_EndsAtom es tail) (ap after_whitespace (append_assoc (written e) (written_after es) (41 ∷ tail))) in
      AreTokens-append (tokens_of (canonical e)) (tokens_of_each (canonical_each es)) (32 ∷ ((written e ++ written_after es) ++ 41 ∷ tail)) after (41 ∷ tail) first (after_is_read es tail s.1)

-- a readable list that nests within the limit is written so that it is read
pub list_is_read : (es : Expressions) → AreReadable es → nesting (list es) ≤ nesting_limit → BeginsCommand (written (list es)) (canonical (list es)) []
list_is_read es readable within =
    let xs = tokens_of_each (canonical_each es) in
    let inside : 1 + nesting_of_each (canonical_each es) ≤ nesting_limit = omega (arith, within, nesting-canonical_each es) in
    record {
      before = opening ∷ xs;
      remaining = 41 ∷ [];
      tokens = refl;
      part = record {
        spelled = (written_items es ++ 41 ∷ [], refl, items_are_read es [] readable);
        nested = ap (λ l. open_after l 1) (sym (append-nil xs)) ∙ inside_open_each (canonical_each es) [] 1 (omega arith) inside;
      };
      closed = ([], refl, refl);
    }

-- the command that bytes begin with is readable, and nests within the limit
pub command_is_readable : (bytes : List ℕ) (e : Expression) (rest : List ℕ) → BeginsCommand bytes e rest → IsReadable e × (nesting e ≤ nesting_limit)
command_is_readable bytes e rest c = (tokens_IsReadable e bytes rest (command_tokens bytes e rest c), command_nests bytes e rest c)

-- a command that was read is written so that it is read again
pub written_is_read : (bytes : List ℕ) (e : Expression) (rest : List ℕ) → BeginsCommand bytes e rest → BeginsCommand (written e) (canonical e) []
written_is_read bytes (leaf a) rest c = absurd (command_closes bytes (leaf a) rest c).1
written_is_read bytes (list es) rest c =
    let r = command_is_readable bytes (list es) rest c in
    list_is_read es r.0 r.1

-- between bytes and the same bytes no token stands
nothing_between : (ts : List Token) (bytes : List ℕ) → AreTokens ts bytes bytes → ts ≡ []
nothing_between [] bytes a = refl
nothing_between (t ∷ ts) bytes a =
    let first = after_joined bytes (after_whitespace bytes) a.0 (whitespace_prefix bytes) (token_prefix (after_whitespace bytes) t a.0 a.1) in
    let others = tokens_prefix ts a.0 bytes a.2 in
    absurd (omega (arith, after_is_shorter a.0 bytes first, ap length others.1, length-append others.0 bytes))

-- two expressions of one text are one, but for quoting that is not needed
pub written_tells : (e f : Expression) → IsReadable e → IsReadable f → written e ≡ written f → canonical e ≡ canonical f
written_tells e f r s same =
    let tail = 41 ∷ [] in
    let whole = written e ++ tail in
    let first = expression_is_read e whole tail r (refl, refl) refl in
    let second = expression_is_read f whole tail s (refl, refl) (ap (λ w. after_whitespace (w ++ tail)) same) in
    tokens_of-injective (canonical e) (canonical f)
    (elim (AreTokens-compare (tokens_of (canonical e)) (tokens_of (canonical f)) whole tail tail first second) [
      | inl g ↦ same_tokens (tokens_of (canonical e)) (tokens_of (canonical f)) g.0 g.1 (nothing_between g.0 tail g.2)
      | inr g ↦ sym (same_tokens (tokens_of (canonical f)) (tokens_of (canonical e)) g.0 g.1 (nothing_between g.0 tail g.2))
    ])
  where
    same_tokens : (ts us vs : List Token) → us ≡ ts ++ vs → vs ≡ [] → ts ≡ us
    same_tokens ts us vs g n = sym (g ∙ ap (λ xs. ts ++ xs) n ∙ append-nil ts)
