-- The text of a printed model has the tokens of one expression, so a reader gives that one.
use Rattle.std.proofs.Common.{◌≡◌, ℕ, List, [], ◌∷◌, ◌++◌, inl, inr, refl, sym, ap, ◌∙◌, subst, append_assoc}
use Rattle.std.proofs.lemmas.List.{append-nil}
use Rattle.ct_sexpr.specs.Whitespace.{after_whitespace}
use Rattle.ct_sexpr.specs.Token.{Token, opening, closing, token, lexeme_at, AreTokens}
use Rattle.ct_sexpr.specs.Expression.{Expression, leaf, list, Expressions, none, more, tokens_of, tokens_of_each}
use Rattle.ct_sexpr.specs.Reading.{BeginsCommand}
use Rattle.ct_sexpr.specs.Written.{written, written_items, written_after, canonical, canonical_each}
use Rattle.ct_sexpr.specs.Readable.{IsReadable, AreReadable}
use Rattle.ct_sexpr.proofs.Texts.{AreTokens-append, AreTokens-compare, GoesOn, command_tokens, tokens_of_nothing, one_command}
use Rattle.ct_sexpr.proofs.ReadBack.{EndsAtom, atom_is_read}
use Rattle.ct_model.specs.Listed.{lines}
use Rattle.ct_readback.proofs.PrintedRows.{AreWritten}

-- what is written of an expression has the tokens of the expression, however deep it nests
after_ends : (es : Expressions) (tail : List ℕ) → EndsAtom (written_after es ++ 41 ∷ tail)
after_ends none tail = (refl, refl)
after_ends (more e es) tail = (refl, refl)

mutual
  expression_is_read : (e : Expression) (bytes tail : List ℕ) → IsReadable e → EndsAtom tail → after_whitespace bytes ≡ after_whitespace (written e ++ tail) → AreTokens (tokens_of (canonical e)) bytes tail
  expression_is_read (leaf a) bytes tail readable ends is = (tail, ap lexeme_at is ∙ atom_is_read a tail readable ends, refl)
  expression_is_read (list es) bytes tail readable ends is =
      let inside = written_items es ++ 41 ∷ tail in (
        inside,
        ap lexeme_at is ∙ ap (token opening) (append_assoc (written_items es) (41 ∷ []) tail),
        AreTokens-append (tokens_of_each (canonical_each es)) (closing ∷ []) inside (41 ∷ tail) tail (items_are_read es tail readable) (tail, refl, refl),
      )

  items_are_read : (es : Expressions) (tail : List ℕ) → AreReadable es → AreTokens (tokens_of_each (canonical_each es)) (written_items es ++ 41 ∷ tail) (41 ∷ tail)
  items_are_read none tail readable = refl
  items_are_read (more e es) tail readable =
      let after = written_after es ++ 41 ∷ tail in
      let bytes = (written e ++ written_after es) ++ 41 ∷ tail in
      AreTokens-append (tokens_of (canonical e)) (tokens_of_each (canonical_each es)) bytes after (41 ∷ tail)
      (expression_is_read e bytes after readable.0 (after_ends es tail) (ap after_whitespace (append_assoc (written e) (written_after es) (41 ∷ tail))))
      (others_are_read es tail readable.1)

  others_are_read : (es : Expressions) (tail : List ℕ) → AreReadable es → AreTokens (tokens_of_each (canonical_each es)) (written_after es ++ 41 ∷ tail) (41 ∷ tail)
  others_are_read none tail readable = refl
  others_are_read (more e es) tail readable =
      let after = written_after es ++ 41 ∷ tail in
      let bytes = 32 ∷ ((written e ++ written_after es) ++ 41 ∷ tail) in
      AreTokens-append (tokens_of (canonical e)) (tokens_of_each (canonical_each es)) bytes after (41 ∷ tail)
      (expression_is_read e bytes after readable.0 (after_ends es tail) (ap after_whitespace (append_assoc (written e) (written_after es) (41 ∷ tail))))
      (others_are_read es tail readable.1)

-- lines of items and the closing parenthesis
lines_are_read : (ts : List (List ℕ)) (es : Expressions) → AreReadable es → AreWritten ts es → AreTokens (tokens_of_each (canonical_each es) ++ closing ∷ []) (10 ∷ (lines ts ++ 41 ∷ [])) []
lines_are_read [] none readable are = ([], refl, refl)
lines_are_read [] (more e es) readable are = absurd are
lines_are_read (t ∷ ts) none readable are = absurd are
lines_are_read (t ∷ ts) (more e es) readable are =
    let after = 10 ∷ (lines ts ++ 41 ∷ []) in
    let bytes = 10 ∷ ((t ++ 10 ∷ lines ts) ++ 41 ∷ []) in
    let first : after_whitespace bytes ≡ after_whitespace (written e ++ after) =
    ap after_whitespace (append_assoc t (10 ∷ lines ts) (41 ∷ [])) ∙ ap (λ (w : List ℕ). after_whitespace (w ++ after)) are.0 in
    let own = tokens_of (canonical e) in
    let others = tokens_of_each (canonical_each es) in
    subst (λ (tokens : List Token). AreTokens tokens bytes []) (sym (append_assoc own others (closing ∷ [])))
    (AreTokens-append own (others ++ closing ∷ []) bytes after [] (expression_is_read e bytes after readable.0 (refl, refl) first) (lines_are_read ts es readable.1 are.1))

-- tokens of a whole text are its only ones
same_tokens : (ts us : List Token) (text : List ℕ) → AreTokens ts text [] → AreTokens us text [] → ts ≡ us
same_tokens ts us text first second =
    elim (AreTokens-compare ts us text [] [] first second) [
      | inl g ↦ by ts us g
      | inr g ↦ sym (by us ts g)
    ]
  where
    by : (xs ys : List Token) → GoesOn xs ys [] [] → xs ≡ ys
    by xs ys g =
        let nothing = (tokens_of_nothing g.0 [] [] refl g.2).0 in
        sym (append-nil xs) ∙ ap (λ (vs : List Token). xs ++ vs) (sym nothing) ∙ sym g.1

-- so what a reader gives of such a text is its expression
pub printed_command : (ts : List (List ℕ)) (es : Expressions) (text : List ℕ) (e : Expression) → AreReadable es → AreWritten ts es → text ≡ 40 ∷ (10 ∷ (lines ts ++ 41 ∷ [])) → BeginsCommand text e [] → e ≡ canonical (list es)
printed_command ts es text e readable are is command =
    let inside = 10 ∷ (lines ts ++ 41 ∷ []) in
    let own : AreTokens (tokens_of (canonical (list es))) text [] =
    subst (λ (bytes : List ℕ). AreTokens (tokens_of (canonical (list es))) bytes []) (sym is) (inside, refl, lines_are_read ts es readable are) in
    let same = same_tokens (tokens_of (canonical (list es))) (tokens_of e) text own (command_tokens text e [] command) in
    let other : BeginsCommand text (canonical (list es)) [] =
    record { before = command.before; remaining = command.remaining; tokens = same ∙ command.tokens; part = command.part; closed = command.closed } in
    (one_command text (canonical (list es)) e [] [] other command).0
