-- How lines are added one after the other, and what is known of each.
use Rattle.std.specs.Prelude.{◌≡◌, ℕ, Bool, true, List, [], ◌++◌, All, Contains, Some, slice_get, ◌↔◌}
use Rattle.ct_sorts.specs.Declarations.{Declarations}
use Rattle.ct_terms.specs.declared.ids.TermId.{TermId}
use Rattle.ct_terms.specs.Literal.{IsStripped}
use Rattle.ct_terms.specs.Clause.{Clause}
use Rattle.ct_terms.specs.Terms.{Terms}
use Rattle.ct_log.specs.declared.rules.Gate.{Gate}
use Rattle.ct_log.specs.declared.line.Line.{Line}
use Rattle.ct_log.specs.declared.line.Step.{Step}
use Rattle.ct_log.specs.Gates.{IsGateClause}
use Rattle.ct_log.specs.Acceptance.{IsAccepted}
use Rattle.ct_log.specs.Recorded.{Derived}
use Rattle.ct_clauses.specs.Initial.{steps_of}

-- each line is accepted, whatever lines are before it
abbrev pub AreAlwaysAccepted : Declarations → Terms → List TermId → List Line → Type 0
AreAlwaysAccepted d terms asserts lines = All (IsAccepted d terms asserts []) lines

-- the lines have grown by lines with these steps, each of which is accepted
pub record HaveGrown (d : Declarations) (terms : Terms) (asserts : List TermId) (old new : List Line) (steps : List Step) : Type 0 where
  pub added : steps_of new ≡ steps_of old ++ steps
  pub accepted : AreAlwaysAccepted d terms asserts old → AreAlwaysAccepted d terms asserts new

-- and so over any declarations and assertions: the steps are gates
abbrev pub HaveGates : Terms → List Line → List Line → List Step → Type 0
HaveGates terms old new steps = (d : Declarations) (asserts : List TermId) → HaveGrown d terms asserts old new steps

-- the clause is that of the gate for this term, with this place, over Boolean terms of the table that are no negations
pub record IsGateLine (terms : Terms) (gate : Gate) (t : TermId) (place : ℕ) (clause : Clause) : Type 0 where
  pub literals : All (λ l. IsStripped terms l.term) clause
  pub of_gate : IsGateClause terms gate t place clause

-- the terms whose marks are set are these
abbrev pub AreSeen : List Bool → List TermId → Type 0
AreSeen marks seen = (t : TermId) → slice_get marks t.0 ≡ Some true ↔ Contains seen t

-- the same derivation with these lines more
abbrev pub with_lines : Derived → List Line → Derived
with_lines derived more = record derived { rec = record derived.rec { lines = derived.rec.lines ++ more } }
