-- When a merge is justified by its reason, over equations that are known (Reynolds and Blanchette 2015, section 4).
use Rattle.std.specs.Prelude.{◌≡◌, List, Contains}
use Rattle.ct_sorts.specs.Declarations.{Declarations}
use Rattle.ct_terms.specs.declared.ids.TermId.{TermId}
use Rattle.ct_terms.specs.declared.ids.Lit.{Lit}
use Rattle.ct_terms.specs.Terms.{Terms}
use Rattle.ct_rules.specs.Rules.{Equations, IsCongruence, IsInjection, IsSelection, IsTesting, IsExpansion, IsEquationIn, IsEquationOut, IsNegation, IsSingleton}
use Rattle.ct_rules.specs.Derivation.{States}
use Rattle.ct_rules.specs.Uniqueness.{AreAllMatched}
use Rattle.ct_congr.specs.declared.merge.Reason.{Reason}
use Rattle.ct_congr.specs.declared.merge.Reason.TheVariants.{Hyp, Cong, Inject, Sel, Test, Expand, EqualIn, EqualOut, Neg, Single, Unique}
use Rattle.ct_congr.specs.declared.merge.Merge.{Merge}

-- the reason says by which rule x = y follows, and over which terms
abbrev pub IsReason : Declarations → Terms → List Lit → Equations → TermId → TermId → Reason → Type 0
IsReason d terms hyps known x y (Hyp l) = Contains hyps l × States l x y
IsReason d terms hyps known x y (Cong t u) = (x ≡ t) × (y ≡ u) × IsCongruence terms known x y
IsReason d terms hyps known x y (Inject a b k) = (rule : IsInjection terms known x y) × (rule.left ≡ a) × (rule.right ≡ b) × (rule.place ≡ k)
IsReason d terms hyps known x y (Sel t c) = (x ≡ t) × (rule : IsSelection d terms known x y) × (rule.con ≡ c)
IsReason d terms hyps known x y (Test t c) = (x ≡ t) × (rule : IsTesting terms known x y) × (rule.con ≡ c)
IsReason d terms hyps known x y (Expand t c) = (y ≡ c) × (rule : IsExpansion d terms known x y) × (rule.test ≡ t)
IsReason d terms hyps known x y (EqualIn t) = (x ≡ t) × IsEquationIn terms known x y
IsReason d terms hyps known x y (EqualOut t) = (rule : IsEquationOut terms known x y) × (rule.term ≡ t)
IsReason d terms hyps known x y (Neg t) = (x ≡ t) × IsNegation terms known x y
IsReason d terms hyps known x y Single = IsSingleton d terms x y
IsReason d terms hyps known x y (Unique pairs) = Contains pairs (record { left = x; right = y }) × AreAllMatched terms known pairs

-- the merge follows from the equations that are known, as its reason says
abbrev pub IsJustified : Declarations → Terms → List Lit → Equations → Merge → Type 0
IsJustified d terms hyps known m = IsReason d terms hyps known m.left m.right m.why

-- the reason is a rule of derivations: not uniqueness
abbrev pub IsRule : Reason → Type 0
IsRule (Unique pairs) = ⊥
IsRule _ = Unit {0}
