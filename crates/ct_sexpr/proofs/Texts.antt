-- Bytes begin with one list of tokens, with one command at most, and have one error at most.
use Rattle.std.proofs.Common.{◌≡◌, ℕ, ◌+◌, ◌-◌, false, nat_lt, List, [], ◌∷◌, ◌++◌, Some, ◌⊎◌, inl, inr, refl, sym, ap, ◌∙◌, subst, arith, true≢false}
use Rattle.std.proofs.lemmas.List.{append-nil}
use Rattle.ct_sexpr.specs.Whitespace.{after_whitespace}
use Rattle.ct_sexpr.specs.Token.{Token, opening, closing, atom, token, cut, lexeme_at, may_go_on, AreTokens}
use Rattle.ct_sexpr.specs.Expression.{Expression, Expressions, leaf, list, tokens_of}
use Rattle.ct_sexpr.specs.Reading.{nesting_limit, open_after, BeginsPart, BeginsCommand, error_at, HasError, HasDefiniteError, Waits, IsUnfinished, IsWhitespace, HasNoCommand}
use Rattle.ct_sexpr.proofs.Nesting.{passed, some_open, inner_open, open_after-append, Closes, Closes-last, Closes-rest, Closes-once, Closes-ends}
use Rattle.ct_sexpr.proofs.Trees.{tokens_of-injective}
use Rattle.ct_sexpr.proofs.FirstBytes.{token_goes_on, same_error, no_error, MayFollow, token_is_no_error}

-- the tokens of one list and then those of another
pub AreTokens-append : (ts us : List Token) (bytes middle rest : List ℕ) → AreTokens ts bytes middle → AreTokens us middle rest → AreTokens (ts ++ us) bytes rest
AreTokens-append [] us bytes middle rest p q = subst (λ x. AreTokens us x rest) (sym p) q
AreTokens-append (t ∷ ts) us bytes middle rest p q = (p.0, p.1, AreTokens-append ts us p.0 middle rest p.2 q)

-- a token that was read is one token
pub same_token : (t u : Token) (x y : List ℕ) → token t x ≡ token u y → (t ≡ u) × (x ≡ y)
same_token t u x y e = (cc, cc)

-- nothing that has ended is no token
pub cut_is_no_token : (t : Token) (x : List ℕ) → cut ≡ token t x → ⊥
cut_is_no_token t x e = cc

-- the longer list of tokens goes on where the shorter ends
abbrev pub GoesOn : List Token → List Token → List ℕ → List ℕ → Type 0
GoesOn ts us r s = (vs : List Token) × (us ≡ ts ++ vs) × AreTokens vs r s

one_further : (t u : Token) (ts us : List Token) (r s : List ℕ) → t ≡ u → GoesOn ts us r s → GoesOn (t ∷ ts) (u ∷ us) r s
one_further t u ts us r s e g = (g.0, cc (e, g.1), g.2)

-- of two lists of tokens that begin one text, one begins the other
pub AreTokens-compare : (ts us : List Token) (bytes r s : List ℕ) → AreTokens ts bytes r → AreTokens us bytes s → GoesOn ts us r s ⊎ GoesOn us ts s r
AreTokens-compare [] us bytes r s p q = inl (us, refl, subst (λ x. AreTokens us x s) p q)
AreTokens-compare (t ∷ ts) [] bytes r s p q = inr (t ∷ ts, refl, subst (λ x. AreTokens (t ∷ ts) x r) q p)
AreTokens-compare (t ∷ ts) (u ∷ us) bytes r s p q =
    let same = same_token t u p.0 q.0 (sym p.1 ∙ q.1) in
    elim (AreTokens-compare ts us p.0 r s p.2 (subst (λ x. AreTokens us x s) (sym same.1) q.2)) [
      | inl g ↦ inl (one_further t u ts us r s same.0 g)
      | inr g ↦ inr (one_further u t us ts s r (sym same.0) g)
    ]

-- the tokens of a command
pub command_tokens : (bytes : List ℕ) (e : Expression) (rest : List ℕ) → BeginsCommand bytes e rest → AreTokens (tokens_of e) bytes rest
command_tokens bytes e rest c =
    subst (λ ts. AreTokens ts bytes rest) (sym c.tokens) (AreTokens-append c.before (closing ∷ []) bytes c.remaining rest c.part.spelled c.closed)

pub command_closes : (bytes : List ℕ) (e : Expression) (rest : List ℕ) → BeginsCommand bytes e rest → Closes (tokens_of e) 0
command_closes bytes e rest c = subst (λ ts. Closes ts 0) (sym c.tokens) (Closes-last c.before 0 c.part.nested)

-- a command is a list
pub command_is_a_list : (bytes : List ℕ) (e : Expression) (rest : List ℕ) → BeginsCommand bytes e rest → (es : Expressions) × (e ≡ list es)
command_is_a_list bytes (leaf a) rest c = absurd (command_closes bytes (leaf a) rest c).1
command_is_a_list bytes (list es) rest c = (es, refl)

-- bytes begin with one command at most
pub one_command : (bytes : List ℕ) (e f : Expression) (r s : List ℕ) → BeginsCommand bytes e r → BeginsCommand bytes f s → (f ≡ e) × (s ≡ r)
one_command bytes e f r s c d =
    elim (AreTokens-compare (tokens_of e) (tokens_of f) bytes r s (command_tokens bytes e r c) (command_tokens bytes f s d)) [
      | inl g ↦ same e f r s g (command_closes bytes e r c) (command_closes bytes f s d)
      | inr g ↦ let p = same f e s r g (command_closes bytes f s d) (command_closes bytes e r c) in (sym p.0, sym p.1)
    ]
  where
    same : (e f : Expression) (r s : List ℕ) → GoesOn (tokens_of e) (tokens_of f) r s → Closes (tokens_of e) 0 → Closes (tokens_of f) 0 → (f ≡ e) × (s ≡ r)
    same e f r s g c d =
        let none = Closes-once (tokens_of e) g.0 0 c (subst (λ ts. Closes ts 0) g.1 d) in
        let rest : AreTokens [] r s = subst (λ ts. AreTokens ts r s) none g.2 in
        let tokens : tokens_of f ≡ tokens_of e = g.1 ∙ ap (λ vs. tokens_of e ++ vs) none ∙ append-nil (tokens_of e) in
        (tokens_of-injective f e tokens, sym rest)

-- a command's tokens go on after each part that the bytes begin with
pub command_goes_on : (bytes : List ℕ) (ts : List Token) (depth : ℕ) (rest : List ℕ) (e : Expression) (after : List ℕ) →
    BeginsPart bytes ts depth rest → BeginsCommand bytes e after → (us : List Token) × Closes us depth × AreTokens us rest after
command_goes_on bytes ts depth rest e after p c =
    let closes = command_closes bytes e after c in
    elim (AreTokens-compare ts (tokens_of e) bytes rest after p.spelled (command_tokens bytes e after c)) [
      | inl g ↦ (g.0, Closes-rest ts g.0 0 depth p.nested (subst (λ us. Closes us 0) g.1 closes), g.2)
      | inr g ↦ absurd (Closes-ends (tokens_of e) g.0 0 depth closes (ap (λ us. open_after us 0) (sym g.1) ∙ p.nested))
    ]

no_token : (t : Token) (ts : List Token) (r : List ℕ) → AreTokens (t ∷ ts) [] r → ⊥
no_token t ts r a = cut_is_no_token t a.0 a.1

-- after nothing no tokens follow
pub tokens_of_nothing : (ts : List Token) (bytes rest : List ℕ) → bytes ≡ [] → AreTokens ts bytes rest → (ts ≡ []) × (rest ≡ [])
tokens_of_nothing [] bytes rest e a = (refl, sym a ∙ e)
tokens_of_nothing (t ∷ ts) bytes rest e a = absurd (no_token t ts rest (subst (λ l. AreTokens (t ∷ ts) l rest) e a))

waiting_stops : (l : List ℕ) (us : List Token) (depth : ℕ) (remaining after : List ℕ) (t : Token) →
    Waits depth l → lexeme_at l ≡ token t remaining → Closes (t ∷ us) depth → AreTokens us remaining after → ⊥
waiting_stops [] us depth remaining after t w e c a = cut_is_no_token t remaining e
waiting_stops (b ∷ bs) us depth remaining after t w e c a =
    let g = token_goes_on (b ∷ bs) t remaining w.1 e in
    let none = tokens_of_nothing us remaining after g.2 a in
    let closes : Closes (atom g.0 ∷ []) depth = subst (λ us. Closes (atom g.0 ∷ us) depth) none.0 (subst (λ x. Closes (x ∷ us) depth) g.1 c) in
    closes.1

-- unfinished bytes begin with no whole command
pub unfinished_has_none : (bytes : List ℕ) → IsUnfinished bytes → HasNoCommand bytes
unfinished_has_none bytes u e after c =
    let g = command_goes_on bytes u.tokens u.depth u.rest e after u.part c in
    stops g.0 u.depth u.rest after g.1 u.waits g.2
  where
    stops : (us : List Token) (depth : ℕ) (rest after : List ℕ) → Closes us depth → Waits depth (after_whitespace rest) → AreTokens us rest after → ⊥
    stops [] depth rest after c w a = c
    stops (t ∷ us) depth rest after c w a = waiting_stops (after_whitespace rest) us depth a.0 after t w a.1 c a.2

-- whitespace and comments alone begin with no command
pub whitespace_has_none : (bytes : List ℕ) → IsWhitespace bytes → HasNoCommand bytes
whitespace_has_none bytes l =
    unfinished_has_none bytes
    (record { tokens = []; depth = 0; rest = bytes; part = record { spelled = refl; nested = refl }; waits = subst (Waits 0) (sym l) tt })

MayFollow-from_closes : (t : Token) (us : List Token) (depth : ℕ) → Closes (t ∷ us) depth → MayFollow t depth
MayFollow-from_closes opening us depth c = c.0
MayFollow-from_closes closing us depth c = elim c [ inl x ↦ inner_open depth x.0 | inr x ↦ some_open depth (omega (arith, x.0)) ]
MayFollow-from_closes (atom a) us depth c = c.0

MayFollow-from_open : (t : Token) (us : List Token) (depth m : ℕ) → open_after (t ∷ us) depth ≡ Some m → MayFollow t depth
MayFollow-from_open opening us depth m e = (passed (nat_lt depth nesting_limit) (open_after us (depth + 1)) m e).0
MayFollow-from_open closing us depth m e = inner_open depth (passed (nat_lt 1 depth) (open_after us (depth - 1)) m e).0
MayFollow-from_open (atom a) us depth m e = (passed (nat_lt 0 depth) (open_after us depth) m e).0

-- where an error is no token follows that may stand there
error_stops : (l : List ℕ) (depth code : ℕ) (suffix : List ℕ) (t : Token) (remaining : List ℕ) → error_at depth l ≡ Some (code, suffix) → lexeme_at l ≡ token t remaining → MayFollow t depth → ⊥
error_stops l depth code suffix t remaining e k m = no_error code suffix (sym (token_is_no_error l t remaining depth k m) ∙ e)

-- bytes with an error begin with no whole command
pub error_has_none : (bytes : List ℕ) (code : ℕ) (suffix : List ℕ) → HasError bytes code suffix → HasNoCommand bytes
error_has_none bytes code suffix h e after c =
    let g = command_goes_on bytes h.tokens h.depth h.rest e after h.part c in
    stops g.0 h.depth h.rest after g.1 h.error g.2
  where
    stops : (us : List Token) (depth : ℕ) (rest after : List ℕ) → Closes us depth → error_at depth (after_whitespace rest) ≡ Some (code, suffix) → AreTokens us rest after → ⊥
    stops [] depth rest after c w a = c
    stops (t ∷ us) depth rest after c w a = error_stops (after_whitespace rest) depth code suffix t a.0 w a.1 (MayFollow-from_closes t us depth c)

-- what is open after the further tokens
further_open : (ts us vs : List Token) (depth m : ℕ) → us ≡ ts ++ vs → open_after ts 0 ≡ Some depth → open_after us 0 ≡ Some m → open_after vs depth ≡ Some m
further_open ts us vs depth m g p q = sym (open_after-append ts vs 0 depth p) ∙ ap (λ ts. open_after ts 0) (sym g) ∙ q

-- no tokens lead from an error to another position
no_further : (vs : List Token) (depth m code : ℕ) (rest left suffix : List ℕ) →
    error_at depth (after_whitespace rest) ≡ Some (code, suffix) → open_after vs depth ≡ Some m → AreTokens vs rest left → (depth ≡ m) × (rest ≡ left)
no_further [] depth m code rest left suffix e o a = let same : depth ≡ m = cc in (same, a)
no_further (v ∷ vs) depth m code rest left suffix e o a =
    absurd (error_stops (after_whitespace rest) depth code suffix v a.0 e a.1 (MayFollow-from_open v vs depth m o))

-- bytes have one error at most
pub one_error : (bytes : List ℕ) (c d : ℕ) (p q : List ℕ) → HasError bytes c p → HasError bytes d q → (d ≡ c) × (q ≡ p)
one_error bytes c d p q h k =
    elim (AreTokens-compare h.tokens k.tokens bytes h.rest k.rest h.part.spelled k.part.spelled) [
      | inl g ↦
          let same = no_further g.0 h.depth k.depth c h.rest k.rest p h.error (further_open h.tokens k.tokens g.0 h.depth k.depth g.1 h.part.nested k.part.nested) g.2 in
          at_one_position h.depth k.depth h.rest k.rest c d p q same.0 same.1 h.error k.error
      | inr g ↦
          let same = no_further g.0 k.depth h.depth d k.rest h.rest q k.error (further_open k.tokens h.tokens g.0 k.depth h.depth g.1 k.part.nested h.part.nested) g.2 in
          at_one_position h.depth k.depth h.rest k.rest c d p q (sym same.0) (sym same.1) h.error k.error
    ]
  where
    at_one_position : (n m : ℕ) (r s : List ℕ) (c d : ℕ) (p q : List ℕ) → n ≡ m → r ≡ s →
        error_at n (after_whitespace r) ≡ Some (c, p) → error_at m (after_whitespace s) ≡ Some (d, q) → (d ≡ c) × (q ≡ p)
    at_one_position n m r s c d p q depths rests e f =
        let there : error_at m (after_whitespace s) ≡ Some (c, p) = subst (λ x. error_at m (after_whitespace x) ≡ Some (c, p)) rests (subst (λ x. error_at x (after_whitespace r) ≡ Some (c, p)) depths e) in
        same_error d c q p (sym f ∙ there)

-- whitespace and comments alone have no error
pub error_is_no_whitespace : (bytes : List ℕ) (code : ℕ) (suffix : List ℕ) → HasError bytes code suffix → IsWhitespace bytes → ⊥
error_is_no_whitespace bytes code suffix h whitespace = by h.tokens h.depth h.rest h.part.spelled h.part.nested h.error
  where
    by : (ts : List Token) (depth : ℕ) (rest : List ℕ) → AreTokens ts bytes rest → open_after ts 0 ≡ Some depth → error_at depth (after_whitespace rest) ≡ Some (code, suffix) → ⊥
    by [] depth rest a o e =
        let outside : 0 ≡ depth = cc in
        let there : error_at 0 (after_whitespace bytes) ≡ Some (code, suffix) = subst (λ x. error_at 0 (after_whitespace x) ≡ Some (code, suffix)) (sym a) (subst (λ x. error_at x (after_whitespace rest) ≡ Some (code, suffix)) (sym outside) e) in
        no_error code suffix (subst (λ l. error_at 0 l ≡ Some (code, suffix)) whitespace there)
    by (t ∷ ts) depth rest a o e = cut_is_no_token t a.0 (subst (λ l. lexeme_at l ≡ token t a.0) whitespace a.1)

-- an error is definite where bytes that follow can't change it
abbrev pub Stands : ℕ → List ℕ → Type 0
Stands depth l = (depth ≡ 0) ⊎ (may_go_on l ≡ false)

waits_or_is_definite : (l : List ℕ) (depth code : ℕ) (suffix : List ℕ) → Waits depth l → error_at depth l ≡ Some (code, suffix) → Stands depth l → ⊥
waits_or_is_definite [] depth code suffix w e s =
    elim s [
      | inl outside ↦ no_error code suffix (subst (λ d. error_at d [] ≡ Some (code, suffix)) outside e)
      | inr stays ↦ true≢false stays
    ]
waits_or_is_definite (b ∷ bs) depth code suffix w e s =
    elim s [
      | inl outside ↦ absurd (omega (arith, outside, w.0))
      | inr stays ↦ true≢false (sym w.1 ∙ stays)
    ]

-- no bytes are both unfinished and wrong for good
pub unfinished_is_not_wrong : (bytes : List ℕ) (code : ℕ) (suffix : List ℕ) → IsUnfinished bytes → HasDefiniteError bytes code suffix → ⊥
unfinished_is_not_wrong bytes code suffix u f =
    elim (AreTokens-compare u.tokens f.tokens bytes u.rest f.rest u.part.spelled f.part.spelled) [
      | inl g ↦ further g.0 (further_open u.tokens f.tokens g.0 u.depth f.depth g.1 u.part.nested f.part.nested) g.2
      | inr g ↦
          let same = no_further g.0 f.depth u.depth code f.rest u.rest suffix f.error (further_open f.tokens u.tokens g.0 f.depth u.depth g.1 f.part.nested u.part.nested) g.2 in
          at_one_position u.depth u.rest (sym same.0) (sym same.1) u.waits
    ]
  where
    at_one_position : (depth : ℕ) (rest : List ℕ) → depth ≡ f.depth → rest ≡ f.rest → Waits depth (after_whitespace rest) → ⊥
    at_one_position depth rest d r w =
        waits_or_is_definite (after_whitespace f.rest) f.depth code suffix
        (subst (λ x. Waits f.depth (after_whitespace x)) r (subst (λ x. Waits x (after_whitespace rest)) d w)) f.error f.definite

    last : (l : List ℕ) (v : Token) (vs : List Token) (remaining : List ℕ) → Waits u.depth l → lexeme_at l ≡ token v remaining → AreTokens vs remaining f.rest → ⊥
    last [] v vs remaining w e a = cut_is_no_token v remaining e
    last (b ∷ bs) v vs remaining w e a =
        let nothing = tokens_of_nothing vs remaining f.rest (token_goes_on (b ∷ bs) v remaining w.1 e).2 a in
        waits_or_is_definite [] f.depth code suffix tt
        (subst (λ x. error_at f.depth (after_whitespace x) ≡ Some (code, suffix)) nothing.1 f.error)
        (subst (λ x. Stands f.depth (after_whitespace x)) nothing.1 f.definite)

    further : (vs : List Token) → open_after vs u.depth ≡ Some f.depth → AreTokens vs u.rest f.rest → ⊥
    further [] o a = let same : u.depth ≡ f.depth = cc in at_one_position u.depth u.rest same a u.waits
    further (v ∷ vs) o a = last (after_whitespace u.rest) v vs a.0 u.waits a.1 a.2

-- one more token of the bytes
pub part_push : (bytes remaining rest : List ℕ) (ts : List Token) (t : Token) (depth m : ℕ) → BeginsPart bytes ts depth remaining →
    lexeme_at (after_whitespace remaining) ≡ token t rest → open_after (t ∷ []) depth ≡ Some m → BeginsPart bytes (ts ++ t ∷ []) m rest
part_push bytes remaining rest ts t depth m p e n = record {
  spelled = AreTokens-append ts (t ∷ []) bytes remaining rest p.spelled (rest, e, refl);
  nested = open_after-append ts (t ∷ []) 0 depth p.nested ∙ n;
}
