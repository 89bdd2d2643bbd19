-- Lines that are added one after the other.
use Rattle.std.proofs.Common.{◌≡◌, List, [], ◌∷◌, ◌++◌, Contains, sym, ap, subst, ◌∙◌, append-nil, append_assoc}
use Rattle.std.proofs.lemmas.List.{map_push}
use Rattle.std.proofs.lemmas.List.Elements.{All-push, All-contains, Contains-append_right}
use Rattle.std.proofs.lemmas.Option.{none-some}
use Rattle.ct_lemmas.proofs.Contained.{Contains-first}
use Rattle.ct_sorts.specs.Declarations.{Declarations}
use Rattle.ct_terms.specs.declared.ids.TermId.{TermId}
use Rattle.ct_terms.specs.Terms.{Terms}
use Rattle.ct_log.specs.declared.line.Line.{Line}
use Rattle.ct_terms.specs.Clause.{Clause}
use Rattle.ct_log.specs.declared.line.Step.{Step}
use Rattle.ct_log.specs.declared.line.Step.TheVariants as step
use Rattle.ct_log.specs.Acceptance.{IsAccepted, Justifies}
use Rattle.ct_clauses.specs.Initial.{steps_of}
use Rattle.ct_clauses.specs.Growth.{HaveGrown, HaveGates, AreAlwaysAccepted}

module _ (d : Declarations) (terms : Terms) (asserts : List TermId) where
  -- nothing is added
  pub grown_none : (lines : List Line) → HaveGrown d terms asserts lines lines []
  grown_none lines = record { added = sym (append-nil (steps_of lines)); accepted = λ h. h }

  -- one after the other
  pub grown_then : (a b c : List Line) (s t : List Step) → HaveGrown d terms asserts a b s → HaveGrown d terms asserts b c t → HaveGrown d terms asserts a c (s ++ t)
  grown_then a b c s t first second = record {
    added = second.added ∙ ap (λ (l : List Step). l ++ t) first.added ∙ append_assoc (steps_of a) s t;
    accepted = λ h. second.accepted (first.accepted h);
  }

  -- three times
  pub grown_in_turn : (a b c e : List Line) (s t u : List Step) → HaveGrown d terms asserts a b s → HaveGrown d terms asserts b c t → HaveGrown d terms asserts c e u → HaveGrown d terms asserts a e (s ++ (t ++ u))
  grown_in_turn a b c e s t u first second third = grown_then a b e s (t ++ u) first (grown_then b c e t u second third)

  -- one line
  pub grown_push : (old new : List Line) (line : Line) → new ≡ old ++ line ∷ [] → IsAccepted d terms asserts [] line → HaveGrown d terms asserts old new (line.step ∷ [])
  grown_push old new line is ok = record {
    added = ap steps_of is ∙ map_push (λ (l : Line). l.step) old line;
    accepted = λ h. subst (AreAlwaysAccepted d terms asserts) (sym is) (All-push (IsAccepted d terms asserts []) old line h ok);
  }

-- gates one after the other
pub gates_then : (terms : Terms) (a b c : List Line) (s t : List Step) → HaveGates terms a b s → HaveGates terms b c t → HaveGates terms a c (s ++ t)
gates_then terms a b c s t first second = λ d asserts. grown_then d terms asserts a b c s t (first d asserts) (second d asserts)

pub gates_none : (terms : Terms) (lines : List Line) → HaveGates terms lines lines []
gates_none terms lines = λ d asserts. grown_none d terms asserts lines

-- the same steps
pub gates_as : (terms : Terms) (a b : List Line) (s t : List Step) → s ≡ t → HaveGates terms a b s → HaveGates terms a b t
gates_as terms a b s t same h = subst (HaveGates terms a b) same h

-- what is given after no line is given after any
justified_after : (d : Declarations) (terms : Terms) (asserts : List TermId) (earlier : List Clause) (s : Step) (clause : Clause) → Justifies d terms asserts [] s clause → Justifies d terms asserts earlier s clause
justified_after d terms asserts earlier (step.Input t) clause h = h
justified_after d terms asserts earlier (step.Gate gate t place) clause h = h
justified_after d terms asserts earlier (step.Exhaust t) clause h = h
justified_after d terms asserts earlier (step.Theory steps close) clause h = h
justified_after d terms asserts earlier (step.Learn hints) clause h = absurd (none-some h.refuted h.numbered.2)

pub accepted_after : (d : Declarations) (terms : Terms) (asserts : List TermId) (earlier : List Clause) (line : Line) → IsAccepted d terms asserts [] line → IsAccepted d terms asserts earlier line
accepted_after d terms asserts earlier line h = record { literals = h.literals; justified = justified_after d terms asserts earlier line.step line.clause h.justified }

-- each line of a list is accepted
pub accepted_middle : (d : Declarations) (terms : Terms) (asserts : List TermId) (all before after : List Line) (line : Line) → AreAlwaysAccepted d terms asserts all → before ++ line ∷ after ≡ all → IsAccepted d terms asserts [] line
accepted_middle d terms asserts all before after line h is =
    All-contains (IsAccepted d terms asserts []) all line h (subst (λ (ls : List Line). Contains ls line) is (Contains-append_right before (line ∷ after) line (Contains-first line after)))
