-- The bytes of a command among those that a reader has, and where they stand.
use Rattle.std.proofs.Common.{◌≡◌, ℕ, zero, suc, ◌+◌, ◌-◌, ◌≤◌, Bool, true, false, eqb, cond, List, [], ◌∷◌, ◌++◌, length, take, drop, refl, ap, ap₂, sym, ◌∙◌, subst, arith, length-append, length-drop, append_assoc}
use Rattle.std.proofs.Math.Seq.{drop-append_seam}
use Rattle.std.proofs.lemmas.List.{drop-drop, drop-take, take-append-drop}
use Rattle.std.proofs.lemmas.List.Sums.{sum_by-append, count_by-le-length}
use Rattle.ct_sexpr.specs.Whitespace.{after_whitespace, after_comment, is_whitespace, ends_comment, line_feeds}
use Rattle.ct_sexpr.specs.Token.{Token, closing, lexeme_at, AreTokens}
use Rattle.ct_sexpr.specs.Expression.{Expression}
use Rattle.ct_sexpr.specs.Reading.{BeginsCommand}
use Rattle.ct_sexpr.specs.Answer.{GivesCommand}
use Rattle.ct_sexpr.specs.Unread.{Unread}
use Rattle.ct_sexpr.proofs.Branches.{either_has}
use Rattle.ct_sexpr.proofs.Prefixes.{token_prefix, tokens_prefix, whitespace_prefix}
use Rattle.ct_sexpr.proofs.Texts.{AreTokens-append}
use Rattle.ct_input.specs.Held.{Held}
use Rattle.ct_input.specs.Source.{Source, column_after, GivesText, IsPlaced}
use Rattle.ct_input.proofs.PieceLemmas.{command_shorter, split}

-- ---- parts of a list

-- the first ones of the first ones
take_first : (a b : ℕ) (xs : List ℕ) → a ≤ b → take a (take b xs) ≡ take a xs
take_first zero b xs few = refl
take_first (suc a) zero xs few = absurd (omega (arith, few))
take_first (suc a) (suc b) [] few = refl
take_first (suc a) (suc b) (x ∷ xs) few = ap (λ l. x ∷ l) (take_first a b xs (omega (arith, few)))

-- a part in the middle stays where the end is cut off behind it
pub middle_stays : (start end kept : ℕ) (xs : List ℕ) → start ≤ end → end ≤ kept → take (end - start) (drop start (take kept xs)) ≡ take (end - start) (drop start xs)
middle_stays start end kept xs order few =
    let cut : drop start (take kept xs) ≡ take (kept - start) (drop start xs) =
    ap (λ n. drop start (take n xs)) (omega (arith, order, few)) ∙ drop-take start (kept - start) xs in
    ap (take (end - start)) cut ∙ take_first (end - start) (kept - start) (drop start xs) (omega (arith, few))

-- the end of a list loses what the list loses
pub end_is_cut : (end count : ℕ) (xs : List ℕ) → end ≤ length xs → count ≤ length (drop end xs) → drop end (take (length xs - count) xs) ≡ take (length (drop end xs) - count) (drop end xs)
end_is_cut end count xs within few =
    ap (λ n. drop end (take n xs)) (omega (arith, within, few, length-drop end xs)) ∙ drop-take end (length (drop end xs) - count) xs

abbrev pub held : List ℕ → List ℕ → Held
held command rest = record { command = command; rest = rest }

-- the bytes of a command and those after it, where some are taken away from the end
pub cut_back : (start end count : ℕ) (xs : List ℕ) → start ≤ end → end ≤ length xs → count ≤ length (drop end xs) →
    held (take (end - start) (drop start (take (length xs - count) xs))) (drop end (take (length xs - count) xs))
    ≡ held (take (end - start) (drop start xs)) (take (length (drop end xs) - count) (drop end xs))
cut_back start end count xs order within few =
    ap₂ held (middle_stays start end (length xs - count) xs order (omega (arith, within, few, length-drop end xs))) (end_is_cut end count xs within few)

-- after as many bytes as stand before the last ones these are left
pub left_after : (bytes space last : List ℕ) (n : ℕ) → bytes ≡ space ++ last → n + length last ≡ length bytes → drop n bytes ≡ last
left_after bytes space last n e count =
    let size : n ≡ length space = omega (arith, count, ap (λ (xs : List ℕ). length xs) e, length-append space last) in
    rw (size, e) (drop-append_seam space last)

-- the bytes after whitespace are a first part of them and what is left after so many bytes more
pub taken_apart : (bytes : List ℕ) (space size : ℕ) → space + length (after_whitespace bytes) ≡ length bytes →
    after_whitespace bytes ≡ take size (drop space bytes) ++ drop (space + size) bytes
taken_apart bytes space size count =
    let prefix = whitespace_prefix bytes in
    let last = left_after bytes prefix.0 (after_whitespace bytes) space prefix.1 count in
    sym last ∙ sym (take-append-drop size (drop space bytes)) ∙ ap (λ l. take size (drop space bytes) ++ l) (drop-drop size space bytes)

-- ---- whitespace before a command

by_tests : (p q : Bool) (b : ℕ) (bs : List ℕ) → eqb b 59 ≡ p → is_whitespace b ≡ q → after_whitespace (after_whitespace bs) ≡ after_whitespace bs → after_whitespace (after_comment bs) ≡ after_comment bs →
    after_whitespace (cond p (after_comment bs) (cond q (after_whitespace bs) (b ∷ bs))) ≡ cond p (after_comment bs) (cond q (after_whitespace bs) (b ∷ bs))
by_tests true q b bs p_is q_is whitespace comment = comment
by_tests false true b bs p_is q_is whitespace comment = whitespace
by_tests false false b bs p_is q_is whitespace comment = rw (p_is, q_is) refl

mutual
  pub whitespace_once : (bytes : List ℕ) → after_whitespace (after_whitespace bytes) ≡ after_whitespace bytes
  whitespace_once [] = refl
  whitespace_once (b ∷ bs) = by_tests (eqb b 59) (is_whitespace b) b bs refl refl (whitespace_once bs) (comment_once bs)

  comment_once : (bytes : List ℕ) → after_whitespace (after_comment bytes) ≡ after_comment bytes
  comment_once [] = refl
  comment_once (b ∷ bs) = either_has (λ (l : List ℕ). after_whitespace l ≡ l) (ends_comment b) _ _ (whitespace_once bs) (comment_once bs)

-- bytes begin with tokens where they do after whitespace, and these are followed by the same bytes
pub tokens_at : (t : Token) (ts : List Token) (bytes rest : List ℕ) → AreTokens (t ∷ ts) bytes rest → AreTokens (t ∷ ts) (after_whitespace bytes) rest
tokens_at t ts bytes rest a = (a.0, ap (λ l. lexeme_at l) (whitespace_once bytes) ∙ a.1, a.2)

pub tokens_end : (t : Token) (ts : List Token) (bytes rest : List ℕ) → AreTokens (t ∷ ts) bytes rest → (text : List ℕ) × (after_whitespace bytes ≡ text ++ rest)
tokens_end t ts bytes rest a =
    let first = token_prefix (after_whitespace bytes) t a.0 a.1 in
    let others = tokens_prefix ts a.0 rest a.2 in
    (first.0 ++ others.0, first.2 ∙ ap (λ l. first.0 ++ l) others.1 ∙ sym (append_assoc first.0 others.0 rest))

-- the tokens of a command, of which there is one at least
whole_at : (ts : List Token) (bytes rest : List ℕ) → AreTokens (ts ++ closing ∷ []) bytes rest → AreTokens (ts ++ closing ∷ []) (after_whitespace bytes) rest
whole_at [] bytes rest a = tokens_at closing [] bytes rest a
whole_at (t ∷ ts) bytes rest a = tokens_at t (ts ++ closing ∷ []) bytes rest a

whole_end : (ts : List Token) (bytes rest : List ℕ) → AreTokens (ts ++ closing ∷ []) bytes rest → (text : List ℕ) × (after_whitespace bytes ≡ text ++ rest)
whole_end [] bytes rest a = tokens_end closing [] bytes rest a
whole_end (t ∷ ts) bytes rest a = tokens_end t (ts ++ closing ∷ []) bytes rest a

whole : (bytes : List ℕ) (e : Expression) (rest : List ℕ) (c : BeginsCommand bytes e rest) → AreTokens (c.before ++ closing ∷ []) bytes rest
whole bytes e rest c = AreTokens-append c.before (closing ∷ []) bytes c.remaining rest c.part.spelled c.closed

-- after whitespace stands the command, and then what is left
pub command_text : (bytes : List ℕ) (e : Expression) (rest : List ℕ) → BeginsCommand bytes e rest → (text : List ℕ) × (after_whitespace bytes ≡ text ++ rest)
command_text bytes e rest c = whole_end c.before bytes rest (whole bytes e rest c)

command_at : (bytes : List ℕ) (e : Expression) (rest : List ℕ) → BeginsCommand bytes e rest → BeginsCommand (after_whitespace bytes) e rest
command_at bytes e rest c =
    let parts = split c.before (closing ∷ []) (after_whitespace bytes) rest (whole_at c.before bytes rest (whole bytes e rest c)) in
    record {
      before = c.before;
      remaining = parts.0;
      tokens = c.tokens;
      part = record { spelled = parts.1; nested = c.part.nested };
      closed = parts.2;
    }

-- the bytes of the command alone are read as it
pub alone : (bytes command : List ℕ) (e : Expression) (rest : List ℕ) → BeginsCommand bytes e rest → after_whitespace bytes ≡ command ++ rest → BeginsCommand command e []
alone bytes command e rest c is = command_shorter command e [] rest (subst (λ l. BeginsCommand l e rest) is (command_at bytes e rest c))

-- ---- lines and columns

line_feeds-append : (xs ys : List ℕ) → line_feeds (xs ++ ys) ≡ line_feeds xs + line_feeds ys
line_feeds-append xs ys = sum_by-append (λ b. cond (eqb b 10) 1 0) xs ys

line_feeds-le : (xs : List ℕ) → line_feeds xs ≤ length xs
line_feeds-le xs = count_by-le-length (λ b. eqb b 10) xs

column_after-le : (column : ℕ) (xs : List ℕ) → column_after column xs ≤ column + length xs
column_after-le column [] = omega arith
column_after-le column (b ∷ bs) =
    either_has (λ n. n ≤ column + length (b ∷ bs)) (eqb b 10) _ _ (omega (arith, column_after-le 1 bs)) (omega (arith, column_after-le (column + 1) bs))

-- the command that was given stands where the bytes before it end
pub placed : (old : Source) (new : Unread) (e : Expression) (line : ℕ) (space command : List ℕ) → IsPlaced old → GivesCommand old.unread new e line →
    old.unread.bytes ≡ space ++ after_whitespace old.unread.bytes → after_whitespace old.unread.bytes ≡ command ++ new.bytes →
    IsPlaced (record { unread = new; command = command; line = line; column = column_after old.column (old.command ++ space) })
placed old new e line space command p g before is =
    let all : line_feeds old.unread.bytes ≡ line_feeds space + line_feeds (after_whitespace old.unread.bytes) = ap line_feeds before ∙ line_feeds-append space (after_whitespace old.unread.bytes) in
    let rest : line_feeds (after_whitespace old.unread.bytes) ≡ line_feeds command + line_feeds new.bytes = ap line_feeds is ∙ line_feeds-append command new.bytes in
    let size : length old.unread.bytes ≡ length space + length (command ++ new.bytes) = ap (λ (xs : List ℕ). length xs) before ∙ length-append space (after_whitespace old.unread.bytes) ∙ ap (λ (xs : List ℕ). length space + length xs) is in
    let at : line ≡ old.unread.line + line_feeds space = omega (arith, g.line_is, all) in
    let after : new.line ≡ old.unread.line + (line_feeds old.unread.bytes - line_feeds new.bytes) = g.line_after in
    record {
      few = omega (arith, p.few, g.fed);
      lines = omega (arith, p.lines, p.line_after, at, size, g.fed, line_feeds-le old.command, line_feeds-le space, length-append old.command old.unread.bytes);
      columns = omega (arith, p.columns, size, g.fed, column_after-le old.column (old.command ++ space), length-append old.command space, length-append old.command old.unread.bytes);
      line_after = omega (arith, after, at, all, rest);
    }

-- the text of a command that was given
pub gives_text : (old new : Source) (e : Expression) (line : ℕ) → GivesCommand old.unread new.unread e line → after_whitespace old.unread.bytes ≡ new.command ++ new.unread.bytes → new.line ≡ line →
    ((space : List ℕ) → old.unread.bytes ≡ space ++ after_whitespace old.unread.bytes → new.column ≡ column_after old.column (old.command ++ space)) → GivesText old new e line
gives_text old new e line g is line_is column_is =
    let prefix = whitespace_prefix old.unread.bytes in
    record {
      space = prefix.0;
      taken = prefix.1;
      begins = is;
      alone = alone old.unread.bytes new.command e new.unread.bytes g.begins is;
      line_is = line_is;
      column_is = column_is prefix.0 prefix.1;
    }

-- ---- what a reader does that gives a command

abbrev pub source : Unread → List ℕ → ℕ → ℕ → Source
source unread command line column = record { unread = unread; command = command; line = line; column = column }

-- the bytes that were taken reach beyond the whitespace
pub few_before : (old new : Unread) (e : Expression) (line before after : ℕ) → GivesCommand old new e line → before ≡ length old.bytes → after ≡ length new.bytes →
    length old.bytes ≤ before - after + length (after_whitespace old.bytes)
few_before old new e line before after g before_is after_is =
    let text = command_text old.bytes e new.bytes g.begins in
    omega (arith, before_is, after_is, ap (λ (xs : List ℕ). length xs) text.1, length-append text.0 new.bytes)

-- where as many bytes were dropped as were taken, those of the reader are left
pub left_of : (old new : Unread) (e : Expression) (line before after : ℕ) → GivesCommand old new e line → before ≡ length old.bytes → after ≡ length new.bytes → drop (before - after) old.bytes ≡ new.bytes
left_of old new e line before after g before_is after_is =
    left_after old.bytes g.prefix new.bytes (before - after) g.taken (omega (arith, before_is, after_is, ap (λ (xs : List ℕ). length xs) g.taken, length-append g.prefix new.bytes))

-- the place and the text of the command, by what was made of the bytes
pub text_kept : (old : Source) (new : Unread) (e : Expression) (line : ℕ) (command rest : List ℕ) (column : ℕ) → IsPlaced old → GivesCommand old.unread new e line → rest ≡ new.bytes →
    after_whitespace old.unread.bytes ≡ command ++ rest →
    ((space : List ℕ) → old.unread.bytes ≡ space ++ after_whitespace old.unread.bytes → column ≡ column_after old.column (old.command ++ space)) →
    IsPlaced (source new command line column) × GivesText old (source new command line column) e line
text_kept old new e line command rest column p g rest_is is column_is =
    let prefix = whitespace_prefix old.unread.bytes in
    let apart : after_whitespace old.unread.bytes ≡ command ++ new.bytes = is ∙ ap (λ xs. command ++ xs) rest_is in (
      subst (λ n. IsPlaced (source new command line n)) (sym (column_is prefix.0 prefix.1)) (placed old new e line prefix.0 command p g prefix.1 apart),
      gives_text old (source new command line column) e line g apart refl column_is,
    )
