-- The initial lines of a derivation: the assertions, the gates of all terms, and for each term that is split that one of the
-- constructors of its sort builds it. Their clauses are all that a search begins with (the encoding of Tseitin 1968).
use Rattle.std.specs.Prelude.{◌≡◌, ◌↔◌, ℕ, suc, true, not, ◌==◌, List, [], ◌∷◌, ◌++◌, length, map, Contains, Some, slice_get, if◌then◌else◌}
use Rattle.std.specs.List.{filter, range_with_len}
use Rattle.ct_sorts.specs.declared.ids.SortId.{SortId}
use Rattle.ct_sorts.specs.Declarations.{Declarations}
use Rattle.ct_terms.specs.declared.ids.TermId.{TermId}
use Rattle.ct_terms.specs.declared.term.Core.{Core}
use Rattle.ct_terms.specs.declared.term.Core.TheVariants as core
use Rattle.ct_terms.specs.Terms.{Terms}
use Rattle.ct_rules.specs.Rules.{truth_term}
use Rattle.ct_closure.specs.ClosedTable.{IsSplitTerm}
use Rattle.ct_log.specs.declared.rules.Gate.{Gate}
use Rattle.ct_log.specs.declared.rules.Gate.TheVariants.{True, False, AndPos, AndNeg, OrPos, OrNeg, Iff1, Iff2, Iff3, Iff4, Ite1, Ite2, Ite3, Ite4, Then, Else}
use Rattle.ct_log.specs.declared.line.Line.{Line}
use Rattle.ct_log.specs.declared.line.Step.{Step}
use Rattle.ct_log.specs.declared.line.Step.TheVariants as step
use Rattle.ct_log.specs.Acceptance.{Justifies}

-- the different ones of these terms, in the order of their first places
abbrev pub firsts : List TermId → List TermId
firsts [] = []
firsts (t ∷ ts) = t ∷ filter (λ u. not (u.0 == t.0)) (firsts ts)

-- the gate of the term as a whole
abbrev pub whole : Gate → TermId → Step
whole gate t = step.Gate gate t 0

-- the gates of the term for its arguments, at each place from 0 up
abbrev pub at_each : Gate → TermId → List TermId → List Step
at_each gate t args = map (λ place. step.Gate gate t place) (range_with_len 0 (length args))

-- the gates of a choice of this sort: a Boolean one, or another
abbrev pub choice_gates : TermId → SortId → List Step
choice_gates t sort =
    if sort.0 == 0
    then whole Ite1 t ∷ (whole Ite2 t ∷ (whole Ite3 t ∷ (whole Ite4 t ∷ [])))
    else whole Then t ∷ (whole Else t ∷ [])

-- the gates of a term with this number and sort, in the order of the rules
abbrev pub gates_of : TermId → Core → SortId → List Step
gates_of t (core.And args) sort = at_each AndPos t args ++ whole AndNeg t ∷ []
gates_of t (core.Or args) sort = whole OrPos t ∷ at_each OrNeg t args
gates_of t (core.Iff a b) sort = whole Iff1 t ∷ (whole Iff2 t ∷ (whole Iff3 t ∷ (whole Iff4 t ∷ [])))
gates_of t (core.Ite c a b) sort = choice_gates t sort
gates_of t core sort = []

-- the gates of these terms in their order, the first of which has this number
abbrev pub gates_from : ℕ → Terms → List Step
gates_from n [] = []
gates_from n (entry ∷ terms) = gates_of (record { 0 = n }) entry.0 entry.1 ++ gates_from (suc n) terms

-- the gates of `true` and `false`, which name no term, and those of all terms of the table
abbrev pub all_gates : Terms → List Step
all_gates terms = whole True (truth_term true) ∷ (whole False (truth_term true) ∷ gates_from 0 terms)

-- the steps of the initial lines in their order, over these assertions and these terms that are split
abbrev pub initial_steps : Terms → List TermId → List TermId → List Step
initial_steps terms asserts split = map step.Input (firsts asserts) ++ (all_gates terms ++ map step.Exhaust split)

-- the steps of lines, in order
abbrev pub steps_of : List Line → List Step
steps_of lines = map (λ line. line.step) lines

-- the step is that of an input or of a gate, or the exhaustion of a term that is split
abbrev pub IsInitialStep : Declarations → Terms → Step → Type 0
IsInitialStep d terms (step.Input t) = Unit {0}
IsInitialStep d terms (step.Gate gate t place) = Unit {0}
IsInitialStep d terms (step.Exhaust t) = (sort : SortId) × IsSplitTerm d terms t sort
IsInitialStep d terms step = ⊥

-- the line is an initial line over these terms and assertions: it has such a step, and its clause is that of the step
pub record IsInitialLine (d : Declarations) (terms : Terms) (asserts : List TermId) (line : Line) : Type 0 where
  pub initial : IsInitialStep d terms line.step
  pub justified : Justifies d terms asserts [] line.step line.clause

-- the lines are all initial lines, each once, and no others
pub record AreInitialLines (d : Declarations) (terms : Terms) (asserts : List TermId) (lines : List Line) : Type 0 where
  pub exact : (line : Line) → Contains lines line ↔ IsInitialLine d terms asserts line
  pub once : (i j : ℕ) (line : Line) → slice_get lines i ≡ Some line → slice_get lines j ≡ Some line → i ≡ j

-- the terms are those that are split
abbrev pub AreSplitTerms : Declarations → Terms → List TermId → Type 0
AreSplitTerms d terms split = (t : TermId) → Contains split t ↔ ((sort : SortId) × IsSplitTerm d terms t sort)
