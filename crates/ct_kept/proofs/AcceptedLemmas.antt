-- The terms of a lemma that is accepted stand in the table.
use Rattle.std.proofs.Common.{◌≡◌, ℕ, suc, ◌<◌, List, [], ◌∷◌, ◌++◌, length, map, ◌+◌, Some, slice_get, take, drop, Contains, All, refl, sym, ◌∙◌}
use Rattle.std.specs.List.{AllByRecursion, flat_map}
use Rattle.std.proofs.lemmas.List.Elements.{All-from_recursion, recursion_from_All}
use Rattle.std.proofs.lemmas.Option.{slice_get_within}
use Rattle.ct_sorts.proofs.Lists.{slice_get-drop}
use Rattle.ct_sorts.specs.declared.ids.SortId.{SortId}
use Rattle.ct_sorts.specs.Declarations.{Declarations, bool_sort}
use Rattle.ct_terms.specs.declared.ids.TermId.{TermId}
use Rattle.ct_terms.specs.declared.ids.Lit.{Lit}
use Rattle.ct_terms.specs.declared.term.Core.{Core}
use Rattle.ct_terms.specs.Literal.{opposite, IsStripped}
use Rattle.ct_terms.specs.Clause.{Clause}
use Rattle.ct_terms.specs.Terms.{Terms, IsOfSort, Has}
use Rattle.ct_rules.specs.declared.equation.Equation.{Equation}
use Rattle.ct_log.specs.declared.rules.Pair.{Pair}
use Rattle.ct_log.specs.declared.rules.Hop.{Hop}
use Rattle.ct_log.specs.declared.rules.EqStep.{EqStep}
use Rattle.ct_log.specs.declared.rules.EqStep.TheVariants.{Hyp, Refl, Sym, Trans, Cong, Inject, Sel, Test, Expand, EqualIn, EqualOut, Neg, Single, Unique}
use Rattle.ct_log.specs.declared.rules.Close.{Close}
use Rattle.ct_log.specs.declared.rules.Close.TheVariants.{Clash, Cycle}
use Rattle.ct_log.specs.declared.line.Line.{Line}
use Rattle.ct_log.specs.declared.line.Step.{Step}
use Rattle.ct_log.specs.declared.line.Step.TheVariants as step
use Rattle.ct_log.specs.Acceptance.{IsAccepted, AreAccepted, clauses_of}
use Rattle.ct_log.specs.Equations.{Gives, IsPairBy}
use Rattle.ct_log.specs.Closing.{Closes, LeadBackBy}
use Rattle.ct_kept.specs.declared.lemma.Lemma.{Lemma}
use Rattle.ct_kept.specs.Lemmas.{pair_terms, step_terms, close_terms, lemma_terms, IsAcceptedLemma, lemmas_of_step, theory_lemmas}
use Rattle.ct_kept.specs.Kept.{IsOver}
use Rattle.ct_lemmas.proofs.Each.{All-at}
use Rattle.ct_lemmas.proofs.Lists.{slice_get-one_length}
use Rattle.ct_lemmas.proofs.Contained.{slice_get-from_Contains}
use Rattle.ct_kept.proofs.TermLemmas.{each_both}

module _ (terms : Terms) where
  abbrev IsThere : TermId → Type 0
  IsThere t = t.0 < length terms

  has_there : (core : Core) (t : TermId) → Has terms core t.0 → IsThere t
  has_there core t h = slice_get_within terms t.0 (core, h.0) h.1

  sorted_there : (s : SortId) (t : TermId) → IsOfSort terms t s → IsThere t
  sorted_there s t h = slice_get_within terms t.0 (h.0, s) h.1

  -- the literals of the clause
  literals_there : (ls : List Lit) → AllByRecursion (λ l. IsStripped terms l.term) ls → AllByRecursion IsThere (map (λ l. l.term) ls)
  literals_there [] all = tt
  literals_there (l ∷ ls) all = (sorted_there bool_sort l.term all.0.0, literals_there ls all.1)

  -- the pairs
  pairs_there : (given : List Equation) (all ps : List Pair) → ((k : ℕ) (p : Pair) → slice_get ps k ≡ Some p → IsPairBy terms given all p) → AllByRecursion IsThere (flat_map pair_terms ps)
  pairs_there given all [] each = tt
  pairs_there given all (p ∷ ps) each =
      let by = each 0 p refl in
      (has_there _ p.left by.left_stands, (has_there _ p.right by.right_stands, pairs_there given all ps (λ k q at. each (suc k) q at)))

  -- the steps
  module _ (d : Declarations) (clause : Clause) (stripped : (l : Lit) → Contains clause l → IsStripped terms l.term) where
    step_there : (given : List Equation) (s : EqStep) (x y : TermId) → Gives d terms clause given s x y → AllByRecursion IsThere (step_terms s)
    step_there given (Hyp l) x y h = (sorted_there bool_sort l.term (stripped (opposite l) h.0).0, tt)
    step_there given (Refl t) x y h = (h.0, tt)
    step_there given (Sym i) x y h = tt
    step_there given (Trans i j) x y h = tt
    step_there given (Cong t u steps) x y h = (has_there h.2.left t h.2.left_stands, (has_there h.2.right u h.2.right_stands, tt))
    step_there given (Inject i k) x y h = tt
    step_there given (Sel t i) x y h = (has_there _ t h.1.stands, tt)
    step_there given (Test t i) x y h = (has_there _ t h.1.stands, tt)
    step_there given (Expand i c) x y h = (has_there _ c h.1.con_stands, tt)
    step_there given (EqualIn t i) x y h = (has_there _ t h.2.2, tt)
    step_there given (EqualOut i) x y h = tt
    step_there given (Neg t i) x y h = (has_there _ t h.1.1, tt)
    step_there given (Single t u) x y h = (sorted_there h.2.sort t h.2.left, (sorted_there h.2.sort u h.2.right, tt))
    step_there given (Unique p pairs) x y h = pairs_there given pairs pairs h.each

  steps_there : (ss : List EqStep) → ((k : ℕ) (s : EqStep) → slice_get ss k ≡ Some s → AllByRecursion IsThere (step_terms s)) → AllByRecursion IsThere (flat_map step_terms ss)
  steps_there [] each = tt
  steps_there (s ∷ ss) each =
      each_both IsThere (step_terms s) (flat_map step_terms ss) (each 0 s refl) (steps_there ss (λ k r at. each (suc k) r at))

  -- the hops
  hops_there : (d : Declarations) (given : List Equation) (hops : List Hop) (end : TermId) → LeadBackBy d terms given hops end → AllByRecursion IsThere (map (λ h. h.con) hops)
  hops_there d given [] end h = tt
  hops_there d given (hop ∷ []) end h = (has_there _ hop.con h.stands, tt)
  hops_there d given (hop ∷ (next ∷ hops)) end h = (has_there _ hop.con h.0.stands, hops_there d given (next ∷ hops) end h.1)

  close_there : (d : Declarations) (given : List Equation) (c : Close) → Closes d terms given c → AllByRecursion IsThere (close_terms c)
  close_there d given (Clash i) h = tt
  close_there d given (Cycle []) h = absurd h
  close_there d given (Cycle (hop ∷ hops)) h = hops_there d given (hop ∷ hops) hop.con h

-- all of them
pub accepted_over : (d : Declarations) (terms : Terms) (lemma : Lemma) → IsAcceptedLemma d terms lemma → IsOver terms lemma
accepted_over d terms lemma accepted =
    let given = accepted.refuted.given in
    let give = accepted.refuted.give in
    All-from_recursion (λ t. t.0 < length terms) (lemma_terms lemma)
    (each_both (λ t. t.0 < length terms) (map (λ l. l.term) lemma.clause) (flat_map step_terms lemma.steps ++ close_terms lemma.close)
    (literals_there terms lemma.clause (recursion_from_All (λ l. IsStripped terms l.term) lemma.clause accepted.literals))
    (each_both (λ t. t.0 < length terms) (flat_map step_terms lemma.steps) (close_terms lemma.close)
    (steps_there terms lemma.steps (λ k s at.
    let e = slice_get-one_length lemma.steps given k s (sym give.long) at in
    step_there terms d lemma.clause (λ l inside. let found = slice_get-from_Contains lemma.clause l inside in All-at (λ l. IsStripped terms l.term) lemma.clause found.0 l accepted.literals found.1) _ s e.0.left e.0.right (give.each k s e.0 at e.1)))
    (close_there terms d given lemma.close accepted.refuted.closes)))

-- the lemmas of lines that are accepted are accepted
module _ (d : Declarations) (terms : Terms) (asserts : List TermId) where
  of_step : (earlier : List Clause) (clause : Clause) (s : Step) → IsAccepted d terms asserts earlier (record { clause = clause; step = s }) → AllByRecursion (IsAcceptedLemma d terms) (lemmas_of_step clause s)
  of_step earlier clause (step.Theory steps close) h = (record { literals = h.literals; refuted = h.justified }, tt)
  of_step earlier clause (step.Input t) h = tt
  of_step earlier clause (step.Gate gate t place) h = tt
  of_step earlier clause (step.Exhaust t) h = tt
  of_step earlier clause (step.Learn hints) h = tt

  lines_accepted : (lines : List Line) → ((k : ℕ) (line : Line) → slice_get lines k ≡ Some line → (earlier : List Clause) × IsAccepted d terms asserts earlier line) → AllByRecursion (IsAcceptedLemma d terms) (theory_lemmas lines)
  lines_accepted [] each = tt
  lines_accepted (line ∷ lines) each =
      let first = each 0 line refl in
      each_both (IsAcceptedLemma d terms) (lemmas_of_step line.clause line.step) (theory_lemmas lines) (of_step first.0 line.clause line.step first.1) (lines_accepted lines (λ k l at. each (suc k) l at))

  -- those of the lines after some first ones
  pub rest_accepted : (first : ℕ) (lines : List Line) → AreAccepted d terms asserts lines → All (IsAcceptedLemma d terms) (theory_lemmas (drop first lines))
  rest_accepted first lines all =
      All-from_recursion (IsAcceptedLemma d terms) (theory_lemmas (drop first lines))
      (lines_accepted (drop first lines) (λ k line at. (clauses_of (take (first + k) lines), all (first + k) line (sym (slice_get-drop first lines k) ∙ at))))
