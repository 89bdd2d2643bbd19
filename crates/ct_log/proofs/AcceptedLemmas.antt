-- Acceptance, by what the rule of the line tells.
use Rattle.std.proofs.Common.{◌≡◌, ℕ, ◌+◌, ◌*◌, ◌<◌, ◌≤◌, ◌↔◌, Bool, List, length, All, IsTrue, sym, subst, arith}
use Rattle.std.proofs.lemmas.Option.{slice_get_within}
use Rattle.ct_sorts.specs.Declarations.{Declarations}
use Rattle.ct_terms.specs.declared.ids.TermId.{TermId}
use Rattle.ct_terms.specs.Clause.{Clause}
use Rattle.ct_terms.specs.Literal.{IsStripped}
use Rattle.ct_terms.specs.Terms.{Terms}
use Rattle.ct_log.specs.declared.line.Line.{Line}
use Rattle.ct_log.specs.declared.line.Step.{Step}
use Rattle.ct_log.specs.Acceptance.{IsAccepted, Justifies}
use Rattle.ct_log.specs.Rooms.{Space, HasRoomFor}

-- the literals are proper, and the step gives the clause
pub accepted-told : (d : Declarations) (terms : Terms) (asserts : List TermId) (earlier : List Clause) (line : Line) (step : Step) (r : Bool) → line.step ≡ step → All (λ l. IsStripped terms l.term) line.clause → (IsTrue r ↔ Justifies d terms asserts earlier step line.clause) → IsTrue r ↔ IsAccepted d terms asserts earlier line
accepted-told d terms asserts earlier line step r is stripped told = (
  λ yes. record { literals = stripped; justified = subst (λ (s : Step). Justifies d terms asserts earlier s line.clause) (sym is) (told.0 yes) },
  λ h. told.1 (subst (λ (s : Step). Justifies d terms asserts earlier s line.clause) is h.justified),
)

-- literals over terms of the table have stamps
pub stripped-within : (terms : Terms) (clause : Clause) (bound : ℕ) → length terms * 2 ≤ bound → All (λ l. IsStripped terms l.term) clause → All (λ l. l.term.0 * 2 + 1 < bound) clause
stripped-within terms clause bound room all = λ k d within.
    let h = slice_get_within terms _ _ (all k d within).0.1 in
    omega (arith, h, room)

-- the room for a step
pub HasRoomFor-of : (space : Space) (step other : Step) → step ≡ other → HasRoomFor space step → HasRoomFor space other
HasRoomFor-of space step other is h = subst (HasRoomFor space) is h
