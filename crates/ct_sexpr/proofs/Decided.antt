-- Bytes begin with a command, or are unfinished, or an error in them is definite.
use Rattle.std.proofs.Common.{◌≡◌, ℕ, zero, suc, ◌+◌, ◌-◌, ◌<◌, true, false, nat_lt, List, [], ◌∷◌, ◌++◌, length, Option, Some, None, ◌⊎◌, inl, inr, refl, sym, ap, ◌∙◌, subst, arith}
use Rattle.std.proofs.lemmas.Bool.Decides.{nat_tests}
use Rattle.ct_sexpr.specs.Whitespace.{after_whitespace}
use Rattle.ct_sexpr.specs.Token.{Token, opening, closing, atom, token, lexeme_at, may_go_on, AreTokens}
use Rattle.ct_sexpr.specs.Expression.{Expression}
use Rattle.ct_sexpr.specs.ErrorNumber.{ends_inside}
use Rattle.ct_sexpr.specs.Reading.{open_after, error_at, BeginsPart, BeginsCommand, HasError, HasDefiniteError, Waits, IsUnfinished, IsWhitespace}
use Rattle.ct_sexpr.proofs.Nesting.{some_open, is_open, one_is_open}
use Rattle.ct_sexpr.proofs.FirstBytes.{true_or_false, token_goes_on, MayFollow, token_or_error}
use Rattle.ct_sexpr.proofs.Texts.{part_push}
use Rattle.ct_sexpr.proofs.Prefixes.{whitespace_prefix, token_prefix, after_joined, after_is_shorter}
use Rattle.ct_sexpr.proofs.Completable.{command_from}

-- what bytes may begin with
abbrev pub Decided : List ℕ → Type 0
Decided bytes =
    ((e : Expression) × (rest : List ℕ) × BeginsCommand bytes e rest)
    ⊎ (IsUnfinished bytes ⊎ ((code : ℕ) × (suffix : List ℕ) × HasDefiniteError bytes code suffix))

-- bytes of which a part is read, where shorter rests are known
step : (bytes : List ℕ) (ts : List Token) (depth : ℕ) (rest : List ℕ) → BeginsPart bytes ts depth rest →
    ((us : List Token) (d : ℕ) (left : List ℕ) → length left < length rest → BeginsPart bytes us d left → Decided bytes) → Decided bytes
step bytes ts depth rest p go = at (after_whitespace rest) refl
  where
    last : (depth : ℕ) → nat_lt 1 depth ≡ false → nat_lt 0 depth ≡ true → depth ≡ 1
    last depth h k = grind (arith, nat_tests)

    close : (remaining : List ℕ) → lexeme_at (after_whitespace rest) ≡ token closing remaining → nat_lt 0 depth ≡ true → nat_lt 1 depth ≡ false → Decided bytes
    close remaining e some one =
        let q = subst (λ d. BeginsPart bytes ts d rest) (last depth one some) p in
        let c = command_from ts q.nested in
        inl (c.0, remaining, record { before = ts; remaining = rest; tokens = c.1; part = q; closed = (remaining, e, refl) })

    -- a token follows
    follows : (t : Token) (remaining : List ℕ) → length remaining < length rest → lexeme_at (after_whitespace rest) ≡ token t remaining → MayFollow t depth → Decided bytes
    follows opening remaining lt e room = go (ts ++ opening ∷ []) (depth + 1) remaining lt (part_push bytes rest remaining ts opening depth (depth + 1) p e (rw room refl))
    follows closing remaining lt e some =
        elim (true_or_false (nat_lt 1 depth)) [
          | inl inner ↦ go (ts ++ closing ∷ []) (depth - 1) remaining lt (part_push bytes rest remaining ts closing depth (depth - 1) p e (rw inner refl))
          | inr one ↦ close remaining e some one
        ]
    follows (atom a) remaining lt e some = go (ts ++ atom a ∷ []) depth remaining lt (part_push bytes rest remaining ts (atom a) depth depth p e (rw some refl))

    definite : (code : ℕ) (suffix : List ℕ) → error_at depth (after_whitespace rest) ≡ Some (code, suffix) → (depth ≡ 0) ⊎ (may_go_on (after_whitespace rest) ≡ false) → Decided bytes
    definite code suffix e s = inr (inr (code, suffix, record { tokens = ts; depth = depth; rest = rest; part = p; error = e; definite = s }))

    waits : Waits depth (after_whitespace rest) → Decided bytes
    waits w = inr (inl (record { tokens = ts; depth = depth; rest = rest; part = p; waits = w }))

    outside : (depth : ℕ) → nat_lt 0 depth ≡ false → depth ≡ 0
    outside depth h = grind (arith, nat_tests)

    of : (b : ℕ) (bs : List ℕ) (found : Option (ℕ × List ℕ)) → after_whitespace rest ≡ b ∷ bs → error_at depth (b ∷ bs) ≡ found → Decided bytes
    of b bs None is e =
        let t = token_or_error b bs depth e in
        let there : lexeme_at (after_whitespace rest) ≡ token t.0 t.1 = ap lexeme_at is ∙ t.2 in
        let shorter = after_is_shorter t.1 rest (after_joined rest (after_whitespace rest) t.1 (whitespace_prefix rest) (token_prefix (after_whitespace rest) t.0 t.1 there)) in
        follows t.0 t.1 shorter there t.3
    of b bs (Some x) is e =
        let there : error_at depth (after_whitespace rest) ≡ Some (x.0, x.1) = ap (error_at depth) is ∙ e in
        elim (true_or_false (may_go_on (b ∷ bs))) [
          | inl longer ↦
              elim (true_or_false (nat_lt 0 depth)) [
                | inl some ↦ waits (subst (Waits depth) (sym is) (is_open depth some, longer))
                | inr closed ↦ definite x.0 x.1 there (inl (outside depth closed))
              ]
          | inr ends ↦ definite x.0 x.1 there (inr (ap may_go_on is ∙ ends))
        ]

    at : (l : List ℕ) → after_whitespace rest ≡ l → Decided bytes
    at [] is = waits (subst (Waits depth) (sym is) tt)
    at (b ∷ bs) is = of b bs (error_at depth (b ∷ bs)) is refl

decide : (n : ℕ) (bytes : List ℕ) (ts : List Token) (depth : ℕ) (rest : List ℕ) → length rest < n → BeginsPart bytes ts depth rest → Decided bytes
decide zero bytes ts depth rest lt p = absurd (omega arith)
decide (suc n) bytes ts depth rest lt p = step bytes ts depth rest p (λ us d left h q. decide n bytes us d left (omega arith) q)

-- bytes begin with a command, or are unfinished, or an error in them is definite
pub decided : (bytes : List ℕ) → Decided bytes
decided bytes = decide (suc (length bytes)) bytes [] 0 bytes (omega arith) (record { spelled = refl; nested = refl })

-- a definite error is one if the input ends there
pub definite_is_error : (bytes : List ℕ) (code : ℕ) (suffix : List ℕ) → HasDefiniteError bytes code suffix → HasError bytes code suffix
definite_is_error bytes code suffix h = record { tokens = h.tokens; depth = h.depth; rest = h.rest; part = h.part; error = h.error }

-- what bytes are that the input ends after, and that begin with no command
abbrev pub Ended : List ℕ → Type 0
Ended bytes = IsWhitespace bytes ⊎ ((code : ℕ) × (suffix : List ℕ) × HasError bytes code suffix)

-- unfinished bytes are whitespace and comments, or have an error if the input ends there
pub at_end : (bytes : List ℕ) → IsUnfinished bytes → Ended bytes
at_end bytes u = at (after_whitespace u.rest) refl u.waits
  where
    error_inside : (depth : ℕ) → 0 < depth → error_at depth [] ≡ Some (ends_inside, [])
    error_inside depth h = rw (some_open depth h) refl

    nothing : (ts : List Token) → AreTokens ts bytes u.rest → open_after ts 0 ≡ Some u.depth → ts ≡ u.tokens → after_whitespace u.rest ≡ [] → Ended bytes
    nothing [] a o same is = inl (ap after_whitespace a ∙ is)
    nothing (t ∷ ts) a o same is =
        inr (
          ends_inside,
          [],
          record {
            tokens = u.tokens;
            depth = u.depth;
            rest = u.rest;
            part = u.part;
            error = ap (error_at u.depth) is ∙ error_inside u.depth (one_is_open t ts 0 u.depth o);
          },
        )

    read : (b : ℕ) (bs : List ℕ) (t : Token) (remaining : List ℕ) → after_whitespace u.rest ≡ b ∷ bs → 0 < u.depth → lexeme_at (b ∷ bs) ≡ token t remaining → may_go_on (b ∷ bs) ≡ true → Ended bytes
    read b bs t remaining is h e g =
        let r = token_goes_on (b ∷ bs) t remaining g e in
        let there : lexeme_at (after_whitespace u.rest) ≡ token (atom r.0) [] = ap lexeme_at is ∙ e ∙ ap (λ v. token v remaining) r.1 ∙ ap (token (atom r.0)) r.2 in
        inr (
          ends_inside,
          [],
          record {
            tokens = u.tokens ++ atom r.0 ∷ [];
            depth = u.depth;
            rest = [];
            part = part_push bytes u.rest [] u.tokens (atom r.0) u.depth u.depth u.part there (rw (some_open u.depth h) refl);
            error = error_inside u.depth h;
          },
        )

    of : (b : ℕ) (bs : List ℕ) (found : Option (ℕ × List ℕ)) → after_whitespace u.rest ≡ b ∷ bs → 0 < u.depth → may_go_on (b ∷ bs) ≡ true → error_at u.depth (b ∷ bs) ≡ found → Ended bytes
    of b bs None is h g e = let t = token_or_error b bs u.depth e in read b bs t.0 t.1 is h t.2 g
    of b bs (Some x) is h g e = inr (x.0, x.1, record { tokens = u.tokens; depth = u.depth; rest = u.rest; part = u.part; error = ap (error_at u.depth) is ∙ e })

    at : (l : List ℕ) → after_whitespace u.rest ≡ l → Waits u.depth l → Ended bytes
    at [] is w = nothing u.tokens u.part.spelled u.part.nested refl is
    at (b ∷ bs) is w = of b bs (error_at u.depth (b ∷ bs)) is w.0 w.1 refl
