-- What a term line gives, once its numbers are those of terms and its name stands for something.
use Rattle.std.proofs.Common.{◌≡◌, ℕ, true, Option, Some, None, Result, Ok, Err, IfOk, MatchOption, length}
use Rattle.std.specs.List.{list_all}
use Rattle.ct_sorts.specs.Declarations.{Declarations}
use Rattle.ct_sorts.specs.declared.ids.Symbol.{Symbol}
use Rattle.ct_terms.specs.Terms.{Terms}
use Rattle.ct_log_lines.specs.declared.term_lines.TermLine.{TermLine}
use Rattle.ct_log_text.specs.Cores.{core_with}
use Rattle.ct_log_text.specs.Fitting.{is_term}
use Rattle.ct_log_text.specs.Reading.{terms_of, StandsFor, Adds, GivesLine}

pub gives_of : (d : Declarations) (terms : Terms) (line : TermLine) (symbol : Option Symbol) (outcome : Result Terms ℕ) → list_all (is_term (length terms)) (terms_of line) ≡ true → StandsFor d terms line symbol
    → Adds d terms (core_with line.kind symbol (terms_of line)) outcome → GivesLine d terms (Some line) outcome
gives_of d terms line symbol outcome all stands adds = rw all (symbol, stands, adds)

pub gives_line : {E : Type 0} (d : Declarations) (terms : Terms) (line : TermLine) (symbol : Option Symbol) (result : Result (Option ℕ) E) (new : Terms)
    → list_all (is_term (length terms)) (terms_of line) ≡ true → StandsFor d terms line symbol
    → IfOk result (λ refused. MatchOption refused (Adds d terms (core_with line.kind symbol (terms_of line)) (Ok new)) (λ code. Adds d terms (core_with line.kind symbol (terms_of line)) (Err code)))
    → IfOk result (λ refused. MatchOption refused (GivesLine d terms (Some line) (Ok new)) (λ code. GivesLine d terms (Some line) (Err code)))
gives_line d terms line symbol (Ok None) new all stands adds = gives_of d terms line symbol (Ok new) all stands adds
gives_line d terms line symbol (Ok (Some code)) new all stands adds = gives_of d terms line symbol (Err code) all stands adds
gives_line d terms line symbol (Err e) new all stands adds = adds
