-- When a line of a derivation is accepted after the lines before it, and when a record passes.
use Rattle.std.specs.Prelude.{◌≡◌, ℕ, List, [], ◌∷◌, ◌++◌, map, take, All, Contains, Some, slice_get}
use Rattle.ct_sorts.specs.Declarations.{Declarations}
use Rattle.ct_terms.specs.declared.ids.TermId.{TermId}
use Rattle.ct_terms.specs.Literal.{literal_of, IsStripped}
use Rattle.ct_terms.specs.Clause.{Clause}
use Rattle.ct_terms.specs.Propagation.{Rup}
use Rattle.ct_terms.specs.Terms.{Terms}
use Rattle.ct_rules.specs.declared.equation.Equation.{Equation}
use Rattle.ct_log.specs.declared.rules.EqStep.{EqStep}
use Rattle.ct_log.specs.declared.rules.Close.{Close}
use Rattle.ct_log.specs.declared.line.Line.{Line}
use Rattle.ct_log.specs.declared.line.Step.{Step}
use Rattle.ct_log.specs.declared.line.Step.TheVariants.{Input, Gate, Exhaust, Theory, Learn}
use Rattle.ct_log.specs.Equations.{GiveAll}
use Rattle.ct_log.specs.Closing.{Closes}
use Rattle.ct_log.specs.Gates.{IsGateClause, IsExhaustion}

-- the steps give equations, from the opposites of the clause's literals, that contradict each other
pub record IsRefuted (d : Declarations) (terms : Terms) (clause : Clause) (steps : List EqStep) (close : Close) : Type 0 where
  pub given : List Equation
  pub give : GiveAll d terms clause steps given
  pub closes : Closes d terms given close

-- the step gives the clause, over these assertions, after lines with these clauses
abbrev pub Justifies : Declarations → Terms → List TermId → List Clause → Step → Clause → Type 0
Justifies d terms asserts earlier (Input t) clause = Contains asserts t × (clause ≡ literal_of terms t ∷ [])
Justifies d terms asserts earlier (Gate gate t place) clause = IsGateClause terms gate t place clause
Justifies d terms asserts earlier (Exhaust t) clause = IsExhaustion d terms t clause
Justifies d terms asserts earlier (Theory steps close) clause = IsRefuted d terms clause steps close
Justifies d terms asserts earlier (Learn hints) clause = Rup earlier hints clause

-- the line is accepted: its literals are over Boolean terms of the table that are no negations, and its step gives its clause
pub record IsAccepted (d : Declarations) (terms : Terms) (asserts : List TermId) (earlier : List Clause) (line : Line) : Type 0 where
  pub literals : All (λ l. IsStripped terms l.term) line.clause
  pub justified : Justifies d terms asserts earlier line.step line.clause

-- the clauses of lines, in order
abbrev pub clauses_of : List Line → List Clause
clauses_of lines = map (λ line. line.clause) lines

-- each line is accepted after those before it
abbrev pub AreAccepted : Declarations → Terms → List TermId → List Line → Type 0
AreAccepted d terms asserts lines =
    (index : ℕ) (line : Line) → slice_get lines index ≡ Some line
    → IsAccepted d terms asserts (clauses_of (take index lines)) line

-- the record passes: each line is accepted, there is a last line, and its clause is empty
pub record Passes (d : Declarations) (terms : Terms) (asserts : List TermId) (lines : List Line) : Type 0 where
  pub accepted : AreAccepted d terms asserts lines
  pub before : List Line
  pub last : Line
  pub ends : lines ≡ before ++ last ∷ []
  pub empty : last.clause ≡ []
