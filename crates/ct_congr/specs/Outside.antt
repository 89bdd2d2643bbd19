-- Merges from outside: by which reasons they may be made, and what they leave.
use Rattle.std.specs.Prelude.{List, [], ◌∷◌, ◌++◌}
use Rattle.ct_sorts.specs.Declarations.{Declarations}
use Rattle.ct_terms.specs.declared.ids.TermId.{TermId}
use Rattle.ct_terms.specs.declared.ids.Lit.{Lit}
use Rattle.ct_terms.specs.Terms.{Terms}
use Rattle.ct_terms.specs.Literal.{IsStripped}
use Rattle.ct_rules.specs.declared.equation.Equation.{Equation}
use Rattle.ct_rules.specs.Rules.{Equations}
use Rattle.ct_rules.specs.Derivation.{States}
use Rattle.ct_congr.specs.declared.merge.Reason.{Reason}
use Rattle.ct_congr.specs.declared.merge.Reason.TheVariants.{Hyp}
use Rattle.ct_congr.specs.Reasons.{IsReason}
use Rattle.ct_congr.specs.State.{State, AreEqual}

-- the reason is a literal over a stripped Boolean term that states x = y, or it holds over equations that are known
abbrev pub IsOutsideOf : Declarations → Terms → List Lit → Equations → TermId → TermId → Reason → Type 0
IsOutsideOf d terms hyps known x y (Hyp l) = IsStripped terms l.term × States l x y
IsOutsideOf d terms hyps known x y why = IsReason d terms hyps known x y why

-- the same over the classes
abbrev pub IsOutside : State → TermId → TermId → Reason → Type 0
IsOutside state x y why = IsOutsideOf state.declarations state.terms state.hypotheses (AreEqual state) x y why

-- the hypotheses after a merge for this reason: a literal that states it is one of them
abbrev pub hypotheses_with : List Lit → Reason → List Lit
hypotheses_with hyps (Hyp l) = hyps ++ l ∷ []
hypotheses_with hyps _ = hyps

-- the given equations after it: what no literal states is given
abbrev pub given_with : List Equation → TermId → TermId → Reason → List Equation
given_with given x y (Hyp l) = given
given_with given x y _ = given ++ (record { left = x; right = y }) ∷ []
