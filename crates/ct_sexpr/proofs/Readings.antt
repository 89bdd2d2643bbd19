-- A text has one reading at most, and a text that may go on has one at most so far.
use Rattle.std.proofs.Common.{◌≡◌, ℕ, List, [], ◌∷◌, refl, sym, ap, ◌∙◌, subst}
use Rattle.ct_sexpr.specs.Whitespace.{after_whitespace, line_of_rest}
use Rattle.ct_sexpr.specs.Reading.{BeginsCommand, HasNoCommand}
use Rattle.ct_sexpr.specs.Text.{Located, Ending, clean, lexical, HasEnding, Reads, EndingSoFar, waiting, refused, HasEndingSoFar, ReadsSoFar}
use Rattle.ct_sexpr.proofs.Texts.{one_command, one_error, unfinished_has_none, error_has_none, whitespace_has_none, error_is_no_whitespace, unfinished_is_not_wrong}
use Rattle.ct_sexpr.proofs.Decided.{definite_is_error}

-- where a text ends no command begins
ending_has_none : (line : ℕ) (bytes : List ℕ) (x : Ending) → HasEnding line bytes x → HasNoCommand bytes
ending_has_none line bytes clean e = whitespace_has_none bytes e
ending_has_none line bytes (lexical code at) e = error_has_none bytes code e.0 e.1

one_ending : (line : ℕ) (bytes : List ℕ) (x y : Ending) → HasEnding line bytes x → HasEnding line bytes y → y ≡ x
one_ending line bytes clean clean p q = refl
one_ending line bytes clean (lexical d at) p q = absurd (error_is_no_whitespace bytes d q.0 q.1 p)
one_ending line bytes (lexical c at) clean p q = absurd (error_is_no_whitespace bytes c p.0 p.1 q)
one_ending line bytes (lexical c m) (lexical d n) p q =
    let same = one_error bytes c d p.0 q.0 p.1 q.1 in
    let lines : n ≡ m = q.2 ∙ ap (line_of_rest line bytes) same.1 ∙ sym p.2 in
    cc (same.0, lines)

same_located : (c d : Located) → d.command ≡ c.command → d.line ≡ c.line → d ≡ c
same_located c d e l = ap (λ x. record { command = x; line = d.line }) e ∙ ap (λ n. record { command = c.command; line = n }) l

-- the command that a text begins with is one, on one line
one_first : (bytes : List ℕ) (line : ℕ) (c d : Located) (r s : List ℕ) → BeginsCommand bytes c.command r → c.line ≡ line → BeginsCommand bytes d.command s → d.line ≡ line →
    (d ≡ c) × (s ≡ r)
one_first bytes line c d r s p m q n =
    let same = one_command bytes c.command d.command r s p q in
    (same_located c d same.0 (n ∙ sym m), same.1)

-- a text is read in one way at most
pub one_text : (line : ℕ) (bytes : List ℕ) (cs ds : List Located) (x y : Ending) → Reads line bytes cs x → Reads line bytes ds y → (ds ≡ cs) × (y ≡ x)
one_text line bytes [] [] x y p q = (refl, one_ending line bytes x y p q)
one_text line bytes [] (d ∷ ds) x y p q = absurd (ending_has_none line bytes x p d.command q.0 q.1)
one_text line bytes (c ∷ cs) [] x y p q = absurd (ending_has_none line bytes y q c.command p.0 p.1)
one_text line bytes (c ∷ cs) (d ∷ ds) x y p q =
    let same = one_first bytes (line_of_rest line bytes (after_whitespace bytes)) c d p.0 q.0 p.1 p.2 q.1 q.2 in
    let others = one_text (line_of_rest line bytes p.0) p.0 cs ds x y p.3 (subst (λ r. Reads (line_of_rest line bytes r) r ds y) same.1 q.3) in
    (cc (same.0, others.0), others.1)

-- where a text stands no command begins
definite_has_none : (line : ℕ) (bytes : List ℕ) (x : EndingSoFar) → HasEndingSoFar line bytes x → HasNoCommand bytes
definite_has_none line bytes waiting e = unfinished_has_none bytes e
definite_has_none line bytes (refused code at) e = error_has_none bytes code e.0 (definite_is_error bytes code e.0 e.1)

one_ending_so_far : (line : ℕ) (bytes : List ℕ) (x y : EndingSoFar) → HasEndingSoFar line bytes x → HasEndingSoFar line bytes y → y ≡ x
one_ending_so_far line bytes waiting waiting p q = refl
one_ending_so_far line bytes waiting (refused d at) p q = absurd (unfinished_is_not_wrong bytes d q.0 p q.1)
one_ending_so_far line bytes (refused c at) waiting p q = absurd (unfinished_is_not_wrong bytes c p.0 q p.1)
one_ending_so_far line bytes (refused c m) (refused d n) p q =
    let same = one_error bytes c d p.0 q.0 (definite_is_error bytes c p.0 p.1) (definite_is_error bytes d q.0 q.1) in
    let lines : n ≡ m = q.2 ∙ ap (line_of_rest line bytes) same.1 ∙ sym p.2 in
    cc (same.0, lines)

-- a text that may go on is read in one way at most so far
pub one_so_far : (line : ℕ) (bytes : List ℕ) (cs ds : List Located) (x y : EndingSoFar) → ReadsSoFar line bytes cs x → ReadsSoFar line bytes ds y → (ds ≡ cs) × (y ≡ x)
one_so_far line bytes [] [] x y p q = (refl, one_ending_so_far line bytes x y p q)
one_so_far line bytes [] (d ∷ ds) x y p q = absurd (definite_has_none line bytes x p d.command q.0 q.1)
one_so_far line bytes (c ∷ cs) [] x y p q = absurd (definite_has_none line bytes y q c.command p.0 p.1)
one_so_far line bytes (c ∷ cs) (d ∷ ds) x y p q =
    let same = one_first bytes (line_of_rest line bytes (after_whitespace bytes)) c d p.0 q.0 p.1 p.2 q.1 q.2 in
    let others = one_so_far (line_of_rest line bytes p.0) p.0 cs ds x y p.3 (subst (λ r. ReadsSoFar (line_of_rest line bytes r) r ds y) same.1 q.3) in
    (cc (same.0, others.0), others.1)
