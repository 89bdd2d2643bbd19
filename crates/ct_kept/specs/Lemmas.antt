-- Clauses of the theory with their explanations, over other numbers of their terms.
use Rattle.std.specs.Prelude.{◌≡◌, List, [], ◌∷◌, ◌++◌, map, All}
use Rattle.std.specs.List.{flat_map}
use Rattle.ct_terms.specs.declared.ids.TermId.{TermId}
use Rattle.ct_terms.specs.declared.ids.Lit.{Lit}
use Rattle.ct_terms.specs.Literal.{IsStripped}
use Rattle.ct_terms.specs.Terms.{Terms}
use Rattle.ct_sorts.specs.Declarations.{Declarations}
use Rattle.ct_restriction.specs.Renumbered.{IsEqualTerm}
use Rattle.ct_log.specs.declared.rules.Pair.{Pair}
use Rattle.ct_log.specs.declared.rules.Hop.{Hop}
use Rattle.ct_log.specs.declared.rules.EqStep.{EqStep}
use Rattle.ct_log.specs.declared.rules.EqStep.TheVariants.{Hyp, Refl, Sym, Trans, Cong, Inject, Sel, Test, Expand, EqualIn, EqualOut, Neg, Single, Unique}
use Rattle.ct_log.specs.declared.rules.Close.{Close}
use Rattle.ct_log.specs.declared.rules.Close.TheVariants.{Clash, Cycle}
use Rattle.ct_log.specs.declared.line.Line.{Line}
use Rattle.ct_log.specs.declared.line.Step.{Step}
use Rattle.ct_log.specs.declared.line.Step.TheVariants as step
use Rattle.ct_log.specs.Acceptance.{IsRefuted}
use Rattle.ct_kept.specs.declared.lemma.Lemma.{Lemma}

-- a literal, a pair and a hop with their terms exchanged
abbrev pub renamed_literal : (TermId → TermId) → Lit → Lit
renamed_literal f l = record { term = f l.term; positive = l.positive }

abbrev pub renamed_pair : (TermId → TermId) → Pair → Pair
renamed_pair f pair = record { left = f pair.left; right = f pair.right; entries = pair.entries }

abbrev pub renamed_hop : (TermId → TermId) → Hop → Hop
renamed_hop f hop = record { con = f hop.con; place = hop.place; step = hop.step }

-- a step with its terms exchanged: one line a rule
abbrev pub renamed_step : (TermId → TermId) → EqStep → EqStep
renamed_step f (Hyp l) = Hyp (renamed_literal f l)
renamed_step f (Refl t) = Refl (f t)
renamed_step f (Sym i) = Sym i
renamed_step f (Trans i j) = Trans i j
renamed_step f (Cong t u steps) = Cong (f t) (f u) steps
renamed_step f (Inject i k) = Inject i k
renamed_step f (Sel t i) = Sel (f t) i
renamed_step f (Test t i) = Test (f t) i
renamed_step f (Expand i c) = Expand i (f c)
renamed_step f (EqualIn t i) = EqualIn (f t) i
renamed_step f (EqualOut i) = EqualOut i
renamed_step f (Neg t i) = Neg (f t) i
renamed_step f (Single t u) = Single (f t) (f u)
renamed_step f (Unique p pairs) = Unique p (map (renamed_pair f) pairs)

abbrev pub renamed_close : (TermId → TermId) → Close → Close
renamed_close f (Clash i) = Clash i
renamed_close f (Cycle hops) = Cycle (map (renamed_hop f) hops)

-- the lemma with its terms exchanged
abbrev pub renamed_lemma : (TermId → TermId) → Lemma → Lemma
renamed_lemma f lemma = record { clause = map (renamed_literal f) lemma.clause; steps = map (renamed_step f) lemma.steps; close = renamed_close f lemma.close }

-- the terms that a step names, in order: one line a rule
abbrev pub pair_terms : Pair → List TermId
pair_terms pair = pair.left ∷ (pair.right ∷ [])

abbrev pub step_terms : EqStep → List TermId
step_terms (Hyp l) = l.term ∷ []
step_terms (Refl t) = t ∷ []
step_terms (Sym i) = []
step_terms (Trans i j) = []
step_terms (Cong t u steps) = t ∷ (u ∷ [])
step_terms (Inject i k) = []
step_terms (Sel t i) = t ∷ []
step_terms (Test t i) = t ∷ []
step_terms (Expand i c) = c ∷ []
step_terms (EqualIn t i) = t ∷ []
step_terms (EqualOut i) = []
step_terms (Neg t i) = t ∷ []
step_terms (Single t u) = t ∷ (u ∷ [])
step_terms (Unique p pairs) = flat_map pair_terms pairs

abbrev pub close_terms : Close → List TermId
close_terms (Clash i) = []
close_terms (Cycle hops) = map (λ h. h.con) hops

-- the terms that a lemma names
abbrev pub lemma_terms : Lemma → List TermId
lemma_terms lemma = map (λ l. l.term) lemma.clause ++ (flat_map step_terms lemma.steps ++ close_terms lemma.close)

-- the lemma with each of its terms exchanged for the equal term of the table; there is none where some term is not there
pub record IsMoved (from to : Terms) (lemma moved : Lemma) : Type 0 where
  pub number : TermId → TermId
  pub equal : All (λ t. IsEqualTerm from to t (number t)) (lemma_terms lemma)
  pub exchanged : moved ≡ renamed_lemma number lemma

-- the line of a lemma
abbrev pub theory_line : Lemma → Line
theory_line lemma = record { clause = lemma.clause; step = step.Theory lemma.steps lemma.close }

-- the line of the lemma is accepted, whatever stands before it
pub record IsAcceptedLemma (d : Declarations) (terms : Terms) (lemma : Lemma) : Type 0 where
  pub literals : All (λ l. IsStripped terms l.term) lemma.clause
  pub refuted : IsRefuted d terms lemma.clause lemma.steps lemma.close

-- the lemma of a line of the theory
abbrev pub lemmas_of_step : List Lit → Step → List Lemma
lemmas_of_step clause (step.Theory steps close) = record { clause = clause; steps = steps; close = close } ∷ []
lemmas_of_step clause s = []

-- the lemmas of the lines of the theory among these, in order
abbrev pub theory_lemmas : List Line → List Lemma
theory_lemmas lines = flat_map (λ line. lemmas_of_step line.clause line.step) lines
