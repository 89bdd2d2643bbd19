-- A derivation after its initial lines were added.
use Rattle.std.proofs.Common.{◌≡◌, List, [], ◌++◌, sym, ap, subst, ◌∙◌}
use Rattle.ct_sorts.specs.Declarations.{Declarations}
use Rattle.ct_terms.specs.declared.ids.TermId.{TermId}
use Rattle.ct_terms.specs.Terms.{AreSingle}
use Rattle.ct_closure.specs.ClosedTable.{AreRising}
use Rattle.ct_log.specs.declared.line.Line.{Line}
use Rattle.ct_log.specs.Acceptance.{AreAccepted}
use Rattle.ct_log.specs.Recorded.{Derived, IsDerivation}
use Rattle.ct_clauses.specs.Initial.{AreSplitTerms, AreInitialLines, initial_steps, steps_of}
use Rattle.ct_clauses.specs.Growth.{with_lines}
use Rattle.ct_clauses.proofs.ClauseLemmas.{initial_all}

module _ (old new : Derived) (made : List Line) (is : new ≡ with_lines old made) where
  -- where it had no line its lines are those that were added
  pub lines_are : old.rec.lines ≡ [] → new.rec.lines ≡ made
  lines_are begun = ap (λ (d : Derived). d.rec.lines) is ∙ ap (λ (ls : List Line). ls ++ made) begun

  -- all else is as it was
  pub others_are : new ≡ record old { rec = record old.rec { lines = new.rec.lines } }
  others_are = is ∙ ap (λ (ls : List Line). record old { rec = record old.rec { lines = ls } }) (sym (ap (λ (d : Derived). d.rec.lines) is))

  -- they are the initial lines
  pub made_initial : (sig : Declarations) (split : List TermId) → old.declarations ≡ sig → old.rec.lines ≡ [] → AreSingle old.rec.terms → AreSplitTerms sig old.rec.terms split → AreRising split → IsDerivation new → steps_of made ≡ initial_steps old.rec.terms old.asserts split → AreInitialLines sig old.rec.terms old.asserts new.rec.lines
  made_initial sig split signature begun single exact rising derivation steps =
      let all : AreAccepted old.declarations old.rec.terms old.asserts (old.rec.lines ++ made) = (subst IsDerivation is derivation).accepted in
      let ours : AreAccepted sig old.rec.terms old.asserts (old.rec.lines ++ made) = subst (λ (d : Declarations). AreAccepted d old.rec.terms old.asserts (old.rec.lines ++ made)) signature all in
      let accepted : AreAccepted sig old.rec.terms old.asserts made = subst (λ (ls : List Line). AreAccepted sig old.rec.terms old.asserts (ls ++ made)) begun ours in
      subst (AreInitialLines sig old.rec.terms old.asserts) (sym (lines_are begun)) (initial_all sig old.rec.terms old.asserts split made single exact rising accepted steps)
