-- Lines that are accepted name earlier lines alone.
use Rattle.std.proofs.Common.{◌≡◌, ℕ, ◌+◌, ◌<◌, ◌≤◌, List, [], ◌∷◌, ◌++◌, length, take, Bool, All, subst, ◌∙◌, arith}
use Rattle.std.proofs.lemmas.List.{length-map, length-take-le}
use Rattle.std.proofs.lemmas.List.Elements.{All-nil, All-cons, All-push, All-same}
use Rattle.std.proofs.lemmas.Option.{slice_get_within}
use Rattle.ct_sorts.specs.Declarations.{Declarations}
use Rattle.ct_terms.specs.declared.ids.TermId.{TermId}
use Rattle.ct_terms.specs.declared.ids.Lit.{Lit}
use Rattle.ct_terms.specs.Clause.{Clause}
use Rattle.ct_terms.specs.Terms.{Terms}
use Rattle.ct_terms.specs.Propagation.{Propagates, IsNumbered, Rup}
use Rattle.ct_log.specs.declared.line.Line.{Line}
use Rattle.ct_log.specs.declared.line.Step.{Step}
use Rattle.ct_log.specs.declared.line.Step.TheVariants as step
use Rattle.ct_log.specs.Acceptance.{AreAccepted, Justifies, clauses_of}
use Rattle.ct_core.specs.Cited.{hints_of}
use Rattle.ct_core.specs.Sweep.{NameEarlier, HaveInputs}

-- the number of one of so many clauses
abbrev IsOneOf : ℕ → ℕ → Type 0
IsOneOf count number = (0 < number) × (number ≤ count)

-- a clause that has a number is one of them
one_of : (clauses : List Clause) (number : ℕ) (clause : Clause) → IsNumbered clauses number clause → IsOneOf (length clauses) number
one_of clauses number clause h =
    let within = slice_get_within clauses h.0 clause h.2 in
    (omega (arith, h.1), omega (arith, h.1, within))

-- hints that propagate are numbers of clauses
propagating : (clauses : List Clause) (hints : List ℕ) (before after : List Lit) → Propagates clauses hints before after → All (IsOneOf (length clauses)) hints
propagating clauses [] before after h = All-nil (IsOneOf (length clauses))
propagating clauses (hint ∷ hints) before after h = All-cons (IsOneOf (length clauses)) hint hints (one_of clauses hint h.0 h.2) (propagating clauses hints (before ++ h.1 ∷ []) after h.4)

-- and so are all hints of a clause that follows
following : (clauses : List Clause) (hints : List ℕ) (clause : Clause) → Rup clauses hints clause → All (IsOneOf (length clauses)) hints
following clauses hints clause h =
    All-same (IsOneOf (length clauses)) hints (h.units ++ h.last ∷ []) h.are_hints
    (All-push (IsOneOf (length clauses)) h.units h.last (propagating clauses h.units _ h.set h.propagates) (one_of clauses h.last h.refuted h.numbered))

-- a step that gives a clause names clauses before it
naming : (d : Declarations) (terms : Terms) (asserts : List TermId) (earlier : List Clause) (st : Step) (clause : Clause) → Justifies d terms asserts earlier st clause → All (IsOneOf (length earlier)) (hints_of st)
naming d terms asserts earlier (step.Input t) clause h = All-nil (IsOneOf (length earlier))
naming d terms asserts earlier (step.Gate gate t place) clause h = All-nil (IsOneOf (length earlier))
naming d terms asserts earlier (step.Exhaust t) clause h = All-nil (IsOneOf (length earlier))
naming d terms asserts earlier (step.Theory steps close) clause h = All-nil (IsOneOf (length earlier))
naming d terms asserts earlier (step.Learn hints) clause h = following earlier hints clause h

-- lines that are accepted name earlier lines alone
pub names_earlier : (d : Declarations) (terms : Terms) (asserts : List TermId) (lines : List Line) → AreAccepted d terms asserts lines → NameEarlier lines
names_earlier d terms asserts lines all index line at =
    let earlier = clauses_of (take index lines) in
    let within = slice_get_within lines index line at in
    let long : length earlier ≡ index = length-map (take index lines) (λ (l : Line). l.clause) ∙ length-take-le index lines (omega (arith, within)) in
    subst (λ (n : ℕ). All (IsOneOf n) (hints_of line.step)) long (naming d terms asserts earlier line.step line.clause (all index line at).justified)

-- the terms of input lines are assertions
pub inputs_given : (d : Declarations) (terms : Terms) (asserts : List TermId) (lines : List Line) (marks : List Bool) → AreAccepted d terms asserts lines → HaveInputs marks lines asserts
inputs_given d terms asserts lines marks all n line t h is e =
    let justified : Justifies d terms asserts (clauses_of (take is.0 lines)) (step.Input t) line.clause = subst (λ (s : Step). Justifies d terms asserts (clauses_of (take is.0 lines)) s line.clause) e (all is.0 line is.2).justified in
    justified.0
