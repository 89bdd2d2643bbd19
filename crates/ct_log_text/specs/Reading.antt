-- Reading a derivation: the record that its items give, or the first item that is refused and the number of its error.
use Rattle.std.specs.Prelude.{◌≡◌, ℕ, ◌+◌, ◌⊎◌, List, [], ◌∷◌, ◌++◌, map, length, Option, Some, None, unwrap_or, slice_get, is_some, option_map, option_and_then, Result, Ok, Err, MatchResult, MatchBool, if◌then◌else◌, codes}
use Rattle.std.specs.List.{list_all}
use Rattle.ct_sexpr.specs.Expression.{Expression, Expressions, none, more}
use Rattle.ct_sorts.specs.Declarations.{Declarations}
use Rattle.ct_sorts.specs.Lookup.{ResolvesTo}
use Rattle.ct_sorts.specs.declared.ids.SortId.{SortId}
use Rattle.ct_sorts.specs.declared.ids.Symbol.{Symbol}
use Rattle.ct_terms.specs.declared.ids.TermId.{TermId}
use Rattle.ct_terms.specs.declared.term.Core.{Core}
use Rattle.ct_terms.specs.Terms.{Terms, HasSort, IsWellSorted, IsAbsent, Has, truth_terms}
use Rattle.ct_log.specs.declared.line.Line.{Line}
use Rattle.ct_log.specs.Recorded.{Recorded}
use Rattle.ct_log_lines.specs.declared.term_lines.TermLine.{TermLine}
use Rattle.ct_log_lines.specs.Forms.{list_items, parts_after, first_with_rest, term_numbered}
use Rattle.ct_log_text.specs.Cores.{core_with}
use Rattle.ct_log_text.specs.Named.{symbol_at}
use Rattle.ct_log_lines.specs.TermLines.{has_name, term_line, is_alone}
use Rattle.ct_log_lines.specs.Lines.{line_in, is_end, header_in}
use Rattle.ct_log_text.specs.Fitting.{is_term, has_terms, has_stripped}

-- the numbers of the errors: an item departs from its form, a term number is not yet that of a term, and a term line does
-- not fit the declarations, or a literal is over a term that is not Boolean or is a negation
abbrev pub departs : ℕ
departs = 41

abbrev pub not_yet : ℕ
not_yet = 42

abbrev pub misfits : ℕ
misfits = 43

-- the terms after a term that fits them and is new; else the number of the error
abbrev pub Adds : Declarations → Terms → Option Core → Result Terms ℕ → Type 0
Adds d terms None outcome = outcome ≡ Err misfits
Adds d terms (Some core) (Ok new) = (sort : SortId) × HasSort d terms core sort × IsAbsent terms core × (new ≡ terms ++ (core, sort) ∷ [])
Adds d terms (Some core) (Err code) = ((code ≡ misfits) × (IsWellSorted d terms core → ⊥)) ⊎ ((code ≡ departs) × IsWellSorted d terms core × ((t : ℕ) × Has terms core t))

-- the terms that a line names
abbrev pub terms_of : TermLine → List TermId
terms_of line = map term_numbered line.numbers

-- the sort of a term, and those of several; each is in the table
abbrev pub sort_of : Terms → TermId → SortId
sort_of terms t = unwrap_or (option_map (λ (entry : Core × SortId). entry.1) (slice_get terms t.0)) (record { 0 = 0 })

abbrev pub sorts_of : Terms → List TermId → List SortId
sorts_of terms ts = map (sort_of terms) ts

-- what the name of a term line stands for beside the sorts of its terms; where its kind has no name, nothing
abbrev pub StandsFor : Declarations → Terms → TermLine → Option Symbol → Type 0
StandsFor d terms line symbol =
    MatchBool (has_name line.kind)
    ((found : Option Symbol) × ResolvesTo d line.name found × (symbol ≡ symbol_at d line (sorts_of terms (terms_of line)) found))
    (symbol ≡ None)

-- what a term line gives whose numbers are those of terms
abbrev pub GivesNamed : Declarations → Terms → TermLine → Result Terms ℕ → Type 0
GivesNamed d terms line outcome = (symbol : Option Symbol) × StandsFor d terms line symbol × Adds d terms (core_with line.kind symbol (terms_of line)) outcome

-- what an item gives after these terms, where it is this term line
abbrev pub GivesLine : Declarations → Terms → Option TermLine → Result Terms ℕ → Type 0
GivesLine d terms None outcome = outcome ≡ Err departs
GivesLine d terms (Some line) outcome =
    MatchBool (list_all (is_term (length terms)) (terms_of line)) (GivesNamed d terms line outcome) (outcome ≡ Err not_yet)

-- what an item gives after these terms
abbrev pub GivesTerm : Declarations → Terms → Expression → Result Terms ℕ → Type 0
GivesTerm d terms item outcome = GivesLine d terms (term_line (length terms) item) outcome

-- the line over these terms that is read, or the number of the error
abbrev pub checked_line : Terms → Option Line → Result Line ℕ
checked_line terms None = Err departs
checked_line terms (Some line) = if has_terms (length terms) line then (if has_stripped terms line then Ok line else Err misfits) else Err not_yet

-- a record, or the item that is refused, counted from 0, and the number of the error
abbrev pub ReadOutcome : Type 0
ReadOutcome = Result Recorded (ℕ × ℕ)

-- nothing may come after the item that ends a derivation
abbrev pub ended_derivation : ℕ → Recorded → Option (Expression × Expressions) → ReadOutcome
ended_derivation place rec None = Ok rec
ended_derivation place rec (Some parts) = Err (place, departs)

-- what comes of an item that is a line, or is refused
abbrev pub after_line : ℕ → (Line → ReadOutcome) → Result Line ℕ → ReadOutcome
after_line place next (Ok line) = next line
after_line place next (Err code) = Err (place, code)

-- what the items from this place on give after these terms and lines: further lines, and the end
abbrev pub read_lines : ℕ → Terms → List Line → Expressions → ReadOutcome
read_lines place terms lines none = Err (place, departs)
read_lines place terms lines (more item items) =
    if is_end (length lines) item
    then ended_derivation (place + 1) (record { terms = terms; lines = lines }) (first_with_rest items)
    else after_line place (λ line. read_lines (place + 1) terms (lines ++ line ∷ []) items) (checked_line terms (line_in (length lines + 1) item))

-- what the items from this place on give after these terms: further terms, and then the lines
abbrev pub ReadsTerms : Declarations → ℕ → Terms → Expressions → ReadOutcome → Type 0
ReadsTerms d place terms none outcome = outcome ≡ Err (place, departs)
ReadsTerms d place terms (more item items) outcome =
    MatchBool (is_some (parts_after (codes "t") item))
    ((given : Result Terms ℕ) × GivesTerm d terms item given × MatchResult given (λ new. ReadsTerms d (place + 1) new items outcome) (λ code. outcome ≡ Err (place, code)))
    (outcome ≡ read_lines place terms [] (more item items))

-- the number with which a derivation begins, and the items after it
abbrev pub number_of : Expression → Option ℕ
number_of e = option_and_then (λ parts. header_in parts.0) (option_and_then first_with_rest (list_items e))

abbrev pub after_header : Expression × Expressions → Option Expressions
after_header parts = option_map (λ number. parts.1) (header_in parts.0)

abbrev pub items_in : Expression → Option Expressions
items_in e = option_and_then after_header (option_and_then first_with_rest (list_items e))

-- the items after the term line with this number, of a constructor with this name alone
abbrev pub after_alone : ℕ → List ℕ → Expression × Expressions → Option Expressions
after_alone n name parts = if is_alone name (term_line n parts.0) then Some parts.1 else None

abbrev pub after_constant : ℕ → List ℕ → Expressions → Option Expressions
after_constant n name items = option_and_then (after_alone n name) (first_with_rest items)

-- what comes of the items after the item at this place, which is refused where there are none
abbrev pub AfterItem : ℕ → ReadOutcome → (Expressions → Type 0) → Option Expressions → Type 0
AfterItem place outcome Next None = outcome ≡ Err (place, departs)
AfterItem place outcome Next (Some items) = Next items

-- The expression is a derivation that gives this record over these declarations, or the item of this place is refused
-- with this number. After the first item the terms 0 and 1 are `true` and `false`.
abbrev pub Reads : Declarations → Expression → ReadOutcome → Type 0
Reads d e outcome =
    AfterItem 0 outcome (λ items.
    AfterItem 1 outcome (λ later.
    AfterItem 2 outcome (λ last. ReadsTerms d 3 truth_terms last outcome)
    (after_constant 1 (codes "false") later)) (after_constant 0 (codes "true") items)) (items_in e)
