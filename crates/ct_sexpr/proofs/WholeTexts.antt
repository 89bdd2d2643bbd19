-- What an answer says of the whole text.
use Rattle.std.proofs.Common.{◌≡◌, ℕ, false, List, [], ◌∷◌, ◌++◌, Result, Ok, Err, inl, inr, sym, ap, ◌∙◌, subst, true≢false}
use Rattle.ct_sexpr.specs.Whitespace.{line_of_rest}
use Rattle.ct_sexpr.specs.Expression.{Expression}
use Rattle.ct_sexpr.specs.Reading.{HasError}
use Rattle.ct_sexpr.specs.Text.{lexical, Reads, refused, ReadsSoFar}
use Rattle.ct_sexpr.specs.Unread.{Unread}
use Rattle.ct_sexpr.specs.Answer.{GivesCommand, HasFault, Refuses, IsAnswer, IsFirstCommand, IsDefiniteError, IsLast, ReadsOn}
use Rattle.ct_sexpr.specs.declared.reader.Next.{Next}
use Rattle.ct_sexpr.specs.declared.reader.Next.TheVariants.{Command, Need, End}
use Rattle.ct_sexpr.specs.declared.error.ReadError.{ReadError}
use Rattle.ct_sexpr.specs.declared.error.ReadError.TheVariants.{Lexical, NoMemory}
use Rattle.ct_sexpr.specs.View.{expression_of}
use Rattle.ct_sexpr.proofs.Texts.{one_error}
use Rattle.ct_sexpr.proofs.Decided.{definite_is_error}
use Rattle.ct_sexpr.proofs.Pieces.{first_command, first_so_far, definite_error, error_so_far}

-- a command that is given is the first of the text
pub given_is_first : (old new : Unread) (e : Expression) (line : ℕ) → GivesCommand old new e line → IsFirstCommand old new (record { command = e; line = line })
given_is_first old new e line g = record {
  ended = λ tail cs x r.
      subst (λ n. Reads old.line (old.bytes ++ tail) (record { command = e; line = n } ∷ cs) x) (sym g.line_is)
      (first_command old.line old.bytes tail e new.bytes cs x g.begins (subst (λ n. Reads n (new.bytes ++ tail) cs x) g.line_after r));
  so_far = λ tail cs x r.
      subst (λ n. ReadsSoFar old.line (old.bytes ++ tail) (record { command = e; line = n } ∷ cs) x) (sym g.line_is)
      (first_so_far old.line old.bytes tail e new.bytes cs x g.begins (subst (λ n. ReadsSoFar n (new.bytes ++ tail) cs x) g.line_after r));
}

fault_is_error : (u : Unread) (code : ℕ) (suffix : List ℕ) → HasFault u code suffix → HasError u.bytes code suffix
fault_is_error u code suffix f = elim f [ inl s ↦ definite_is_error u.bytes code suffix s | inr e ↦ e.1 ]

fault_is_definite : (u : Unread) (code : ℕ) (suffix : List ℕ) → HasFault u code suffix → u.ended ≡ false → IsDefiniteError u.bytes code
fault_is_definite u code suffix f goes_on = elim f [ inl s ↦ (suffix, s) | inr e ↦ absurd (true≢false (sym e.0 ∙ goes_on)) ]

-- an error that is answered is the last of the text
pub refused_is_last : (old new : Unread) (code line : ℕ) → Refuses old new code line → IsLast old code line
refused_is_last old new code line r =
    let error = fault_is_error old code r.suffix r.fault in
    let on_line : (s : IsDefiniteError old.bytes code) → line_of_rest old.line old.bytes s.0 ≡ line =
    λ s. sym (r.line_is ∙ ap (line_of_rest old.line old.bytes) (one_error old.bytes code code s.0 r.suffix (definite_is_error old.bytes code s.0 s.1) error).1) in
    record {
      ended = (r.suffix, error, r.line_is);
      definite = fault_is_definite old code r.suffix r.fault;
      stays = λ s tail. subst (λ n. Reads old.line (old.bytes ++ tail) [] (lexical code n)) (on_line s) (definite_error old.line old.bytes tail code s.0 s.1);
      so_far = λ s tail. subst (λ n. ReadsSoFar old.line (old.bytes ++ tail) [] (refused code n)) (on_line s) (error_so_far old.line old.bytes tail code s.0 s.1);
    }

-- each answer says so much of the whole text
pub reads_on : (old new : Unread) (answer : Result Next ReadError) → IsAnswer old new answer → ReadsOn old new answer
reads_on old new (Ok (Command e line)) a = given_is_first old new (expression_of e) line a
reads_on old new (Ok Need) a = a.unfinished
reads_on old new (Ok End) a = a.whitespace
reads_on old new (Err (Lexical code line)) a = refused_is_last old new code line a
reads_on old new (Err NoMemory) a = tt
