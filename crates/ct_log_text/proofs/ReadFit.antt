-- What is read can be written: its lines fit its terms, and gates have no term and no place but those that were written.
use Rattle.std.proofs.Common.{◌≡◌, ℕ, ◌+◌, Bool, true, false, not, ◌&&◌, ◌||◌, ◌==◌, List, [], ◌∷◌, ◌++◌, length, Option, Some, None, is_some, Result, Ok, Err, option_map, option_and_then, IfSome, IfOk, MatchResult, if◌then◌else◌, codes, refl, sym, subst, true≢false}
use Rattle.std.specs.Bool.{MatchBool}
use Rattle.std.specs.List.{list_all}
use Rattle.ct_lemmas.proofs.Booleans.{both_parts, both_true, or_true}
use Rattle.ct_sexpr.specs.Expression.{Expression, Expressions, none, more}
use Rattle.ct_sorts.specs.Declarations.{Declarations}
use Rattle.ct_terms.specs.declared.ids.Lit.{Lit}
use Rattle.ct_terms.specs.Terms.{Terms}
use Rattle.ct_log.specs.declared.rules.Gate.{Gate}
use Rattle.ct_log.specs.declared.rules.Gate.TheVariants.{True, False, AndPos, AndNeg, OrPos, OrNeg, Iff1, Iff2, Iff3, Iff4, Ite1, Ite2, Ite3, Ite4, Then, Else}
use Rattle.ct_log.specs.declared.rules.EqStep.{EqStep}
use Rattle.ct_log.specs.declared.rules.Close.{Close}
use Rattle.ct_log.specs.declared.line.Line.{Line}
use Rattle.ct_log.specs.declared.line.Step.{Step}
use Rattle.ct_log.specs.declared.line.Step.TheVariants as steps
use Rattle.ct_log.specs.Recorded.{Recorded}
use Rattle.ct_log_lines.specs.Forms.{option_both, is_word, first_with_rest, two_of, parts_after, parts_numbered, numbers_in, term_numbered}
use Rattle.ct_log_lines.specs.Gates.{gate_in, gate_over, gate_after_name, has_term, has_place}
use Rattle.ct_log_lines.specs.Equalities.{close_in}
use Rattle.ct_log_lines.specs.Lines.{one_term_in, steps_in, theory_of, clause_in, rule_step, line_after_clause, line_in, is_end}
use Rattle.ct_log_text.specs.Fitting.{has_terms, has_stripped}
use Rattle.ct_log_text.specs.Reading.{ReadOutcome, GivesTerm, checked_line, ended_derivation, after_line, read_lines, ReadsTerms, AfterItem, Reads, items_in, after_constant}
use Rattle.ct_log_text.specs.Writable.{is_bare, is_writable}

-- the step, where there is one, is bare
abbrev Bare : Option Step → Type 0
Bare step = IfSome step (λ s. is_bare s ≡ true)

-- a gate of a place is of a term
place_term : (gate : Gate) → has_place gate ≡ true → has_term gate ≡ true
place_term True h = absurd (true≢false (sym h))
place_term False h = absurd (true≢false (sym h))
place_term AndPos h = refl
place_term AndNeg h = refl
place_term OrPos h = refl
place_term OrNeg h = refl
place_term Iff1 h = refl
place_term Iff2 h = refl
place_term Iff3 h = refl
place_term Iff4 h = refl
place_term Ite1 h = refl
place_term Ite2 h = refl
place_term Ite3 h = refl
place_term Ite4 h = refl
place_term Then h = refl
place_term Else h = refl

bare_none : (gate : Gate) (of : Bool) → has_term gate ≡ of → Bare (if of then None else Some (steps.Gate gate (term_numbered 0) 0))
bare_none gate true h = tt
bare_none gate false h = both_true (has_term gate || true) (has_place gate || true) (or_true (has_term gate)) (or_true (has_place gate))

bare_term : (gate : Gate) (t : ℕ) (of : Bool) → (has_term gate && not (has_place gate)) ≡ of → Bare (if of then Some (steps.Gate gate (term_numbered t) 0) else None)
bare_term gate t true h =
    let term = (both_parts (has_term gate) (not (has_place gate)) h).0 in
    both_true (has_term gate || (term_numbered t).0 == 0) (has_place gate || true) (rw term refl) (or_true (has_place gate))
bare_term gate t false h = tt

bare_place : (gate : Gate) (t k : ℕ) (at : Bool) → has_place gate ≡ at → Bare (if at then Some (steps.Gate gate (term_numbered t) k) else None)
bare_place gate t k true h = both_true (has_term gate || (term_numbered t).0 == 0) (has_place gate || k == 0) (rw (place_term gate h) refl) (rw h refl)
bare_place gate t k false h = tt

bare_gate : (gate : Gate) (ns : List ℕ) → Bare (gate_over gate ns)
bare_gate gate [] = bare_none gate (has_term gate) refl
bare_gate gate (t ∷ []) = bare_term gate t (has_term gate && not (has_place gate)) refl
bare_gate gate (t ∷ (k ∷ [])) = bare_place gate t k (has_place gate) refl
bare_gate gate (t ∷ (k ∷ (n ∷ ns))) = tt

-- through options and tests
bare_then : {A : Type 0} (f : A → Option Step) → ((a : A) → Bare (f a)) → (o : Option A) → Bare (option_and_then f o)
bare_then f each None = tt
bare_then f each (Some a) = each a

bare_map : {A : Type 0} (f : A → Step) → ((a : A) → is_bare (f a) ≡ true) → (o : Option A) → Bare (option_map f o)
bare_map f each None = tt
bare_map f each (Some a) = each a

bare_if : (test : Bool) (x y : Option Step) → Bare x → Bare y → Bare (if test then x else y)
bare_if true x y p q = p
bare_if false x y p q = q

bare_theory_of : (a : Option (List EqStep)) (b : Option Close) → Bare (option_both (λ all end. steps.Theory all end) a b)
bare_theory_of None b = tt
bare_theory_of (Some a) None = tt
bare_theory_of (Some a) (Some b) = refl

bare_rule : (parts : Expression × Expressions) → Bare (rule_step parts)
bare_rule parts =
    bare_if (is_word (codes "input") parts.0) _ _ (bare_map (λ t. steps.Input t) (λ t. refl) (one_term_in parts.1))
    (bare_if (is_word (codes "gate") parts.0) _ _
    (bare_then gate_after_name (λ named. bare_then (λ gate. option_and_then (gate_over gate) (numbers_in named.1)) (λ gate. bare_then (gate_over gate) (bare_gate gate) (numbers_in named.1)) (gate_in named.0)) (first_with_rest parts.1))
    (bare_if (is_word (codes "exhaust") parts.0) _ _ (bare_map (λ t. steps.Exhaust t) (λ t. refl) (one_term_in parts.1))
    (bare_if (is_word (codes "theory") parts.0) _ _ (bare_then theory_of (λ two. bare_theory_of (steps_in two.0) (close_in two.1)) (two_of parts.1))
    (bare_if (is_word (codes "learn") parts.0) _ _ (bare_map (λ hints. steps.Learn hints) (λ hints. refl) (numbers_in parts.1)) tt))))

-- the line, where there is one, has a bare step
abbrev BareLine : Option Line → Type 0
BareLine line = IfSome line (λ l. is_bare l.step ≡ true)

bare_both : (c : Option (List Lit)) (s : Option Step) → Bare s → BareLine (option_both (λ literals step. record { clause = literals; step = step }) c s)
bare_both None s h = tt
bare_both (Some c) None h = tt
bare_both (Some c) (Some s) h = h

bare_after : (o : Option (Expression × Expressions)) → BareLine (option_and_then line_after_clause o)
bare_after None = tt
bare_after (Some parts) = bare_both (clause_in parts.0) (option_and_then rule_step (first_with_rest parts.1)) (bare_then rule_step bare_rule (first_with_rest parts.1))

bare_line : (n : ℕ) (e : Expression) → BareLine (line_in n e)
bare_line n e = bare_after (option_and_then first_with_rest (parts_numbered (codes "s") n e))

-- a line that is read can be written
abbrev checked_by : Bool → Bool → Line → Result Line ℕ
checked_by a b line = if a then (if b then Ok line else Err 43) else Err 42

checked_of : (terms : Terms) (line : Line) (a b : Bool) → has_terms (length terms) line ≡ a → has_stripped terms line ≡ b → is_bare line.step ≡ true
    → IfOk (checked_by a b line) (λ l. is_writable terms l ≡ true)
checked_of terms line true true p q bare = rw (p, q) bare
checked_of terms line true false p q bare = tt
checked_of terms line false b p q bare = tt

checked : (terms : Terms) (o : Option Line) → BareLine o → IfOk (checked_line terms o) (λ l. is_writable terms l ≡ true)
checked terms None bare = tt
checked terms (Some line) bare = checked_of terms line (has_terms (length terms) line) (has_stripped terms line) refl refl bare

-- the lines of a record that is given can be written
abbrev AllFit : ReadOutcome → Type 0
AllFit (Ok rec) = list_all (is_writable rec.terms) rec.lines ≡ true
AllFit (Err at) = Unit {0}

fit_push : (terms : Terms) (done : List Line) (line : Line) → list_all (is_writable terms) done ≡ true → is_writable terms line ≡ true → list_all (is_writable terms) (done ++ line ∷ []) ≡ true
fit_push terms [] line h k = rw k refl
fit_push terms (l ∷ done) line h k =
    let parts = both_parts (is_writable terms l) (list_all (is_writable terms) done) h in
    both_true (is_writable terms l) (list_all (is_writable terms) (done ++ line ∷ [])) parts.0 (fit_push terms done line parts.1 k)

fit_if : (test : Bool) (x y : ReadOutcome) → AllFit x → AllFit y → AllFit (if test then x else y)
fit_if true x y p q = p
fit_if false x y p q = q

fit_ended : (place : ℕ) (rec : Recorded) (o : Option (Expression × Expressions)) → list_all (is_writable rec.terms) rec.lines ≡ true → AllFit (ended_derivation place rec o)
fit_ended place rec None h = h
fit_ended place rec (Some parts) h = tt

fit_after : (P : Line → Type 0) (place : ℕ) (next : Line → ReadOutcome) (r : Result Line ℕ) → IfOk r P → ((line : Line) → P line → AllFit (next line)) → AllFit (after_line place next r)
fit_after P place next (Ok line) h each = each line h
fit_after P place next (Err code) h each = tt

lines_fit : (terms : Terms) (items : Expressions) (place : ℕ) (done : List Line) → list_all (is_writable terms) done ≡ true → AllFit (read_lines place terms done items)
lines_fit terms none place done h = tt
lines_fit terms (more item items) place done h =
    fit_if (is_end (length done) item) _ _ (fit_ended (place + 1) (record { terms = terms; lines = done }) (first_with_rest items) h)
    (fit_after (λ l. is_writable terms l ≡ true) place (λ line. read_lines (place + 1) terms (done ++ line ∷ []) items) (checked_line terms (line_in (length done + 1) item))
    (checked terms (line_in (length done + 1) item) (bare_line (length done + 1) item))
    (λ line fits. lines_fit terms items (place + 1) (done ++ line ∷ []) (fit_push terms done line h fits)))

by_bool : (b : Bool) (X Y Z : Type 0) → MatchBool b X Y → (X → Z) → (Y → Z) → Z
by_bool true X Y Z h f g = f h
by_bool false X Y Z h f g = g h

by_result : (given : Result Terms ℕ) (P : Terms → Type 0) (Q : ℕ → Type 0) (Z : Type 0) → MatchResult given P Q → ((new : Terms) → P new → Z) → ((code : ℕ) → Q code → Z) → Z
by_result (Ok new) P Q Z h f g = f new h
by_result (Err code) P Q Z h f g = g code h

-- what comes of a term line and the items after it
abbrev TermThen : Declarations → ℕ → Terms → Expression → Expressions → ReadOutcome → Type 0
TermThen d place terms item items outcome =
    (given : Result Terms ℕ) × GivesTerm d terms item given × MatchResult given (λ new. ReadsTerms d (place + 1) new items outcome) (λ code. outcome ≡ Err (place, code))

terms_fit : (d : Declarations) (items : Expressions) (place : ℕ) (terms : Terms) (outcome : ReadOutcome) → ReadsTerms d place terms items outcome → AllFit outcome
terms_fit d none place terms outcome h = subst AllFit (sym h) tt
terms_fit d (more item items) place terms outcome h =
    by_bool (is_some (parts_after (codes "t") item)) (TermThen d place terms item items outcome) (outcome ≡ read_lines place terms [] (more item items)) (AllFit outcome) h
    (λ (given : TermThen d place terms item items outcome). by_result given.0 (λ new. ReadsTerms d (place + 1) new items outcome) (λ code. outcome ≡ Err (place, code)) (AllFit outcome) given.2
    (λ new next. terms_fit d items (place + 1) new outcome next) (λ code is. subst AllFit (sym is) tt))
    (λ is. subst AllFit (sym is) (lines_fit terms (more item items) place [] refl))

item_fit : (place : ℕ) (outcome : ReadOutcome) (Next : Expressions → Type 0) (o : Option Expressions) → AfterItem place outcome Next o → ((items : Expressions) → Next items → AllFit outcome) → AllFit outcome
item_fit place outcome Next None h each = subst AllFit (sym h) tt
item_fit place outcome Next (Some items) h each = each items h

-- a derivation that is read can be written
pub reads_fit : (d : Declarations) (e : Expression) (rec : Recorded) → Reads d e (Ok rec) → list_all (is_writable rec.terms) rec.lines ≡ true
reads_fit d e rec h =
    item_fit 0 (Ok rec) _ (items_in e) h (λ items first.
    item_fit 1 (Ok rec) _ (after_constant 0 (codes "true") items) first (λ later second.
    item_fit 2 (Ok rec) _ (after_constant 1 (codes "false") later) second (λ last third. terms_fit d last 3 _ (Ok rec) third)))
