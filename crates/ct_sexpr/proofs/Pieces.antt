-- Each text has a reading, and the pieces in which it comes do not matter.
use Rattle.std.proofs.Common.{◌≡◌, ℕ, zero, suc, ◌+◌, ◌<◌, eqb, cond, List, [], ◌∷◌, ◌++◌, length, inl, inr, refl, sym, ap, ◌∙◌, subst, arith}
use Rattle.std.proofs.lemmas.List.{append-nil}
use Rattle.std.proofs.lemmas.List.Sums.{sum_by-append}
use Rattle.ct_sexpr.specs.Whitespace.{after_whitespace, line_feeds, line_of_rest}
use Rattle.ct_sexpr.specs.Expression.{Expression}
use Rattle.ct_sexpr.specs.Reading.{BeginsCommand, HasDefiniteError}
use Rattle.ct_sexpr.specs.Text.{Located, Ending, clean, lexical, HasEnding, Reads, EndingSoFar, waiting, refused, HasEndingSoFar, ReadsSoFar}
use Rattle.ct_sexpr.proofs.Texts.{whitespace_has_none}
use Rattle.ct_sexpr.proofs.Prefixes.{command_prefix, after_is_shorter}
use Rattle.ct_sexpr.proofs.Further.{after_whitespace-append, command_stays, error_stays}
use Rattle.ct_sexpr.proofs.Decided.{decided, definite_is_error, at_end}
use Rattle.ct_sexpr.proofs.Readings.{one_text, one_so_far}

line_feeds-append : (xs ys : List ℕ) → line_feeds (xs ++ ys) ≡ line_feeds xs + line_feeds ys
line_feeds-append xs ys = sum_by-append (λ b. cond (eqb b 10) 1 0) xs ys

-- a rest stays on its line, whatever comes after it
line_stays : (line : ℕ) (bytes rest tail : List ℕ) → line_of_rest line (bytes ++ tail) (rest ++ tail) ≡ line_of_rest line bytes rest
line_stays line bytes rest tail = omega (arith, line_feeds-append bytes tail, line_feeds-append rest tail)

-- the bytes from a command on stay, with what comes after them
start_stays : (bytes tail : List ℕ) (e : Expression) (rest : List ℕ) → BeginsCommand bytes e rest → after_whitespace (bytes ++ tail) ≡ after_whitespace bytes ++ tail
start_stays bytes tail e rest c = at (after_whitespace bytes) refl
  where
    at : (l : List ℕ) → after_whitespace bytes ≡ l → after_whitespace (bytes ++ tail) ≡ l ++ tail
    at [] is = absurd (whitespace_has_none bytes is e rest c)
    at (b ∷ bs) is = after_whitespace-append bytes tail b bs is

-- the command that bytes begin with is the first of longer bytes, on its line, before what is read of what is left
first_of_longer : (Left : ℕ → List ℕ → Type 0) (line : ℕ) (bytes tail : List ℕ) (e : Expression) (rest : List ℕ) →
    BeginsCommand bytes e rest → Left (line_of_rest line bytes rest) (rest ++ tail) →
    (left : List ℕ) × BeginsCommand (bytes ++ tail) e left
    × (line_of_rest line bytes (after_whitespace bytes) ≡ line_of_rest line (bytes ++ tail) (after_whitespace (bytes ++ tail))) × Left (line_of_rest line (bytes ++ tail) left) left
first_of_longer Left line bytes tail e rest c r = (
  rest ++ tail,
  command_stays bytes e rest tail c,
  sym (ap (line_of_rest line (bytes ++ tail)) (start_stays bytes tail e rest c) ∙ line_stays line bytes (after_whitespace bytes) tail),
  subst (λ n. Left n (rest ++ tail)) (sym (line_stays line bytes rest tail)) r,
)

pub first_command : (line : ℕ) (bytes tail : List ℕ) (e : Expression) (rest : List ℕ) (cs : List Located) (x : Ending) →
    BeginsCommand bytes e rest → Reads (line_of_rest line bytes rest) (rest ++ tail) cs x →
    Reads line (bytes ++ tail) (record { command = e; line = line_of_rest line bytes (after_whitespace bytes) } ∷ cs) x
first_command line bytes tail e rest cs x c r = first_of_longer (λ n left. Reads n left cs x) line bytes tail e rest c r

pub first_so_far : (line : ℕ) (bytes tail : List ℕ) (e : Expression) (rest : List ℕ) (cs : List Located) (x : EndingSoFar) →
    BeginsCommand bytes e rest → ReadsSoFar (line_of_rest line bytes rest) (rest ++ tail) cs x →
    ReadsSoFar line (bytes ++ tail) (record { command = e; line = line_of_rest line bytes (after_whitespace bytes) } ∷ cs) x
first_so_far line bytes tail e rest cs x c r = first_of_longer (λ n left. ReadsSoFar n left cs x) line bytes tail e rest c r

-- a definite error in bytes is the whole reading of longer bytes, on its line
pub error_so_far : (line : ℕ) (bytes tail : List ℕ) (code : ℕ) (suffix : List ℕ) →
    HasDefiniteError bytes code suffix → ReadsSoFar line (bytes ++ tail) [] (refused code (line_of_rest line bytes suffix))
error_so_far line bytes tail code suffix h = (suffix ++ tail, error_stays bytes code suffix tail h, sym (line_stays line bytes suffix tail))

pub definite_error : (line : ℕ) (bytes tail : List ℕ) (code : ℕ) (suffix : List ℕ) →
    HasDefiniteError bytes code suffix → Reads line (bytes ++ tail) [] (lexical code (line_of_rest line bytes suffix))
definite_error line bytes tail code suffix h =
    let s = error_so_far line bytes tail code suffix h in
    (s.0, definite_is_error (bytes ++ tail) code s.0 s.1, s.2)

-- what is left after the commands so far stands so, and they are the first of longer bytes, before those of what is left
abbrev LeftAfter : ℕ → List ℕ → List Located → EndingSoFar → Type 0
LeftAfter line bytes cs x =
    (at : ℕ) × (left : List ℕ) × HasEndingSoFar at left x
    × ((tail : List ℕ) (ds : List Located) (y : Ending) → Reads at (left ++ tail) ds y → Reads line (bytes ++ tail) (cs ++ ds) y)
    × ((tail : List ℕ) (ds : List Located) (y : EndingSoFar) → ReadsSoFar at (left ++ tail) ds y → ReadsSoFar line (bytes ++ tail) (cs ++ ds) y)

left_after : (line : ℕ) (bytes : List ℕ) (cs : List Located) (x : EndingSoFar) → ReadsSoFar line bytes cs x → LeftAfter line bytes cs x
left_after line bytes [] x r = (line, bytes, r, λ tail ds y s. s, λ tail ds y s. s)
left_after line bytes (c ∷ cs) x r =
    let later = left_after (line_of_rest line bytes r.0) r.0 cs x r.3 in
    let first : record { command = c.command; line = line_of_rest line bytes (after_whitespace bytes) } ≡ c = ap (λ n. record { command = c.command; line = n }) (sym r.2) in (
      later.0,
      later.1,
      later.2,
      λ tail ds y s.
          subst (λ d. Reads line (bytes ++ tail) (d ∷ (cs ++ ds)) y) first
          (first_command line bytes tail c.command r.0 (cs ++ ds) y r.1 (later.3 tail ds y s)),
      λ tail ds y s.
          subst (λ d. ReadsSoFar line (bytes ++ tail) (d ∷ (cs ++ ds)) y) first
          (first_so_far line bytes tail c.command r.0 (cs ++ ds) y r.1 (later.4 tail ds y s)),
    )

-- what was refused so far reads so whatever comes after it
pub refused_so_far : (line : ℕ) (bytes tail : List ℕ) (cs : List Located) (code at : ℕ) →
    ReadsSoFar line bytes cs (refused code at) → Reads line (bytes ++ tail) cs (lexical code at)
refused_so_far line bytes tail cs code at r =
    let l = left_after line bytes cs (refused code at) r in
    let error = definite_error l.0 l.1 tail code l.2.0 l.2.1 in
    subst (λ ds. Reads line (bytes ++ tail) ds (lexical code at)) (append-nil cs)
    (l.3 tail [] (lexical code at) (subst (λ n. Reads l.0 (l.1 ++ tail) [] (lexical code n)) (sym l.2.2) error))

-- and stays so where it may still go on
pub refused_goes_on : (line : ℕ) (bytes tail : List ℕ) (cs : List Located) (code at : ℕ) →
    ReadsSoFar line bytes cs (refused code at) → ReadsSoFar line (bytes ++ tail) cs (refused code at)
refused_goes_on line bytes tail cs code at r =
    let l = left_after line bytes cs (refused code at) r in
    let error = error_so_far l.0 l.1 tail code l.2.0 l.2.1 in
    subst (λ ds. ReadsSoFar line (bytes ++ tail) ds (refused code at)) (append-nil cs)
    (l.4 tail [] (refused code at) (subst (λ n. ReadsSoFar l.0 (l.1 ++ tail) [] (refused code n)) (sym l.2.2) error))

abbrev HasReadingSoFar : ℕ → List ℕ → Type 0
HasReadingSoFar line bytes = (cs : List Located) × (x : EndingSoFar) × ReadsSoFar line bytes cs x

read : (n line : ℕ) (bytes : List ℕ) → length bytes < n → HasReadingSoFar line bytes
read zero line bytes lt = absurd (omega arith)
read (suc n) line bytes lt =
    elim (decided bytes) [
      | inl c ↦
          let shorter = after_is_shorter c.1 bytes (command_prefix bytes c.0 c.1 c.2) in
          let r = read n (line_of_rest line bytes c.1) c.1 (omega arith) in
          (record { command = c.0; line = line_of_rest line bytes (after_whitespace bytes) } ∷ r.0, r.1, (c.1, c.2, refl, r.2))
      | inr other ↦ elim other [ inl u ↦ ([], waiting, u) | inr s ↦ ([], refused s.0 (line_of_rest line bytes s.1), (s.1, s.2, refl)) ]
    ]

-- each text that may go on can be read so far
pub some_so_far : (line : ℕ) (bytes : List ℕ) → HasReadingSoFar line bytes
some_so_far line bytes = read (suc (length bytes)) line bytes (omega arith)

-- the ending of what stands so, if the input ends there
ending_of : (line : ℕ) (bytes : List ℕ) (x : EndingSoFar) → HasEndingSoFar line bytes x → (y : Ending) × HasEnding line bytes y
ending_of line bytes waiting u = elim (at_end bytes u) [ inl whitespace ↦ (clean, whitespace) | inr h ↦ (lexical h.0 (line_of_rest line bytes h.1), (h.1, h.2, refl)) ]
ending_of line bytes (refused code at) h = (lexical code at, (h.0, definite_is_error bytes code h.0 h.1, h.2))

-- each text can be read
pub some_text : (line : ℕ) (bytes : List ℕ) → (cs : List Located) × (x : Ending) × Reads line bytes cs x
some_text line bytes =
    let r = some_so_far line bytes in
    let l = left_after line bytes r.0 r.1 r.2 in
    let e = ending_of l.0 l.1 r.1 l.2 in
    let last : Reads l.0 (l.1 ++ []) [] e.0 = subst (λ left. HasEnding l.0 left e.0) (sym (append-nil l.1)) e.1 in
    (r.0 ++ [], e.0, subst (λ text. Reads line text (r.0 ++ []) e.0) (append-nil bytes) (l.3 [] [] e.0 last))

-- the commands of a text that waits are the first of longer bytes
pub waiting_so_far : (line : ℕ) (bytes tail : List ℕ) (cs ds : List Located) (x : Ending) →
    ReadsSoFar line bytes cs waiting → Reads line (bytes ++ tail) ds x → (es : List Located) × (ds ≡ cs ++ es)
waiting_so_far line bytes tail cs ds x r s =
    let l = left_after line bytes cs waiting r in
    let more = some_text l.0 (l.1 ++ tail) in
    (more.0, (one_text line (bytes ++ tail) (cs ++ more.0) ds more.1 x (l.3 tail more.0 more.1 more.2) s).0)

-- and so they are where the longer bytes may go on
pub waiting_goes_on : (line : ℕ) (bytes tail : List ℕ) (cs ds : List Located) (y : EndingSoFar) →
    ReadsSoFar line bytes cs waiting → ReadsSoFar line (bytes ++ tail) ds y → (es : List Located) × (ds ≡ cs ++ es)
waiting_goes_on line bytes tail cs ds y r s =
    let l = left_after line bytes cs waiting r in
    let more = some_so_far l.0 (l.1 ++ tail) in
    (more.0, (one_so_far line (bytes ++ tail) (cs ++ more.0) ds more.1 y (l.4 tail more.0 more.1 more.2) s).0)
