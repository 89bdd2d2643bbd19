-- The terms that a lemma names: over other numbers it is the same where these are the same, and its terms have what each number has.
use Rattle.std.proofs.Common.{◌≡◌, List, [], ◌∷◌, ◌++◌, map, refl, ap, ◌∙◌}
use Rattle.std.specs.List.{AllByRecursion, flat_map}
use Rattle.ct_terms.specs.declared.ids.TermId.{TermId}
use Rattle.ct_terms.specs.declared.ids.Lit.{Lit}
use Rattle.ct_log.specs.declared.rules.Pair.{Pair}
use Rattle.ct_log.specs.declared.rules.Hop.{Hop}
use Rattle.ct_log.specs.declared.rules.EqStep.{EqStep}
use Rattle.ct_log.specs.declared.rules.EqStep.TheVariants.{Hyp, Refl, Sym, Trans, Cong, Inject, Sel, Test, Expand, EqualIn, EqualOut, Neg, Single, Unique}
use Rattle.ct_log.specs.declared.rules.Close.{Close}
use Rattle.ct_log.specs.declared.rules.Close.TheVariants.{Clash, Cycle}
use Rattle.ct_kept.specs.declared.lemma.Lemma.{Lemma}
use Rattle.ct_kept.specs.Lemmas.{renamed_literal, renamed_pair, renamed_hop, renamed_step, renamed_close, renamed_lemma, pair_terms, step_terms, close_terms, lemma_terms}

-- what holds of all of two lists
pub each_left : {X : Type 0} (P : X → Type 0) (xs ys : List X) → AllByRecursion P (xs ++ ys) → AllByRecursion P xs
each_left P [] ys all = tt
each_left P (x ∷ xs) ys all = (all.0, each_left P xs ys all.1)

pub each_right : {X : Type 0} (P : X → Type 0) (xs ys : List X) → AllByRecursion P (xs ++ ys) → AllByRecursion P ys
each_right P [] ys all = all
each_right P (x ∷ xs) ys all = each_right P xs ys all.1

pub each_both : {X : Type 0} (P : X → Type 0) (xs ys : List X) → AllByRecursion P xs → AllByRecursion P ys → AllByRecursion P (xs ++ ys)
each_both P [] ys left right = right
each_both P (x ∷ xs) ys left right = (left.0, each_both P xs ys left.1 right)

-- the literals' terms
abbrev literal_terms : List Lit → List TermId
literal_terms clause = map (λ l. l.term) clause

-- where the numbers are the same, the lemma is
module _ (f g : TermId → TermId) where
  abbrev IsSame : TermId → Type 0
  IsSame t = f t ≡ g t

  clause_same : (ls : List Lit) → AllByRecursion IsSame (literal_terms ls) → map (renamed_literal f) ls ≡ map (renamed_literal g) ls
  clause_same [] all = refl
  clause_same (l ∷ ls) all =
      ap (λ (t : TermId). record { term = t; positive = l.positive } ∷ map (renamed_literal f) ls) all.0 ∙ ap (λ (ks : List Lit). renamed_literal g l ∷ ks) (clause_same ls all.1)

  pairs_same : (ps : List Pair) → AllByRecursion IsSame (flat_map pair_terms ps) → map (renamed_pair f) ps ≡ map (renamed_pair g) ps
  pairs_same [] all = refl
  pairs_same (p ∷ ps) all =
      let one : renamed_pair f p ≡ renamed_pair g p =
      ap (λ (t : TermId). record { left = t; right = f p.right; entries = p.entries }) all.0 ∙ ap (λ (t : TermId). record { left = g p.left; right = t; entries = p.entries }) all.1.0 in
      ap (λ (q : Pair). q ∷ map (renamed_pair f) ps) one ∙ ap (λ (qs : List Pair). renamed_pair g p ∷ qs) (pairs_same ps all.1.1)

  hops_same : (hs : List Hop) → AllByRecursion IsSame (map (λ h. h.con) hs) → map (renamed_hop f) hs ≡ map (renamed_hop g) hs
  hops_same [] all = refl
  hops_same (h ∷ hs) all =
      ap (λ (t : TermId). record { con = t; place = h.place; step = h.step } ∷ map (renamed_hop f) hs) all.0 ∙ ap (λ (ks : List Hop). renamed_hop g h ∷ ks) (hops_same hs all.1)

  step_same : (s : EqStep) → AllByRecursion IsSame (step_terms s) → renamed_step f s ≡ renamed_step g s
  step_same (Hyp l) all = ap (λ (t : TermId). Hyp (record { term = t; positive = l.positive })) all.0
  step_same (Refl t) all = ap Refl all.0
  step_same (Sym i) all = refl
  step_same (Trans i j) all = refl
  step_same (Cong t u steps) all = ap (λ (v : TermId). Cong v (f u) steps) all.0 ∙ ap (λ (v : TermId). Cong (g t) v steps) all.1.0
  step_same (Inject i k) all = refl
  step_same (Sel t i) all = ap (λ (v : TermId). Sel v i) all.0
  step_same (Test t i) all = ap (λ (v : TermId). Test v i) all.0
  step_same (Expand i c) all = ap (Expand i) all.0
  step_same (EqualIn t i) all = ap (λ (v : TermId). EqualIn v i) all.0
  step_same (EqualOut i) all = refl
  step_same (Neg t i) all = ap (λ (v : TermId). Neg v i) all.0
  step_same (Single t u) all = ap (λ (v : TermId). Single v (f u)) all.0 ∙ ap (Single (g t)) all.1.0
  step_same (Unique p pairs) all = ap (Unique p) (pairs_same pairs all)

  steps_same : (ss : List EqStep) → AllByRecursion IsSame (flat_map step_terms ss) → map (renamed_step f) ss ≡ map (renamed_step g) ss
  steps_same [] all = refl
  steps_same (s ∷ ss) all =
      ap (λ (r : EqStep). r ∷ map (renamed_step f) ss) (step_same s (each_left IsSame (step_terms s) (flat_map step_terms ss) all))
      ∙ ap (λ (rs : List EqStep). renamed_step g s ∷ rs) (steps_same ss (each_right IsSame (step_terms s) (flat_map step_terms ss) all))

  close_same : (c : Close) → AllByRecursion IsSame (close_terms c) → renamed_close f c ≡ renamed_close g c
  close_same (Clash i) all = refl
  close_same (Cycle hops) all = ap Cycle (hops_same hops all)

  pub lemma_same : (lemma : Lemma) → AllByRecursion IsSame (lemma_terms lemma) → renamed_lemma f lemma ≡ renamed_lemma g lemma
  lemma_same lemma all =
      let first = each_left IsSame (literal_terms lemma.clause) (flat_map step_terms lemma.steps ++ close_terms lemma.close) all in
      let later = each_right IsSame (literal_terms lemma.clause) (flat_map step_terms lemma.steps ++ close_terms lemma.close) all in
      let steps = each_left IsSame (flat_map step_terms lemma.steps) (close_terms lemma.close) later in
      let close = each_right IsSame (flat_map step_terms lemma.steps) (close_terms lemma.close) later in
      ap (λ (c : List Lit). record { clause = c; steps = map (renamed_step f) lemma.steps; close = renamed_close f lemma.close }) (clause_same lemma.clause first)
      ∙ (ap (λ (s : List EqStep). record { clause = map (renamed_literal g) lemma.clause; steps = s; close = renamed_close f lemma.close }) (steps_same lemma.steps steps)
      ∙ ap (λ (c : Close). record { clause = map (renamed_literal g) lemma.clause; steps = map (renamed_step g) lemma.steps; close = c }) (close_same lemma.close close))

-- what each new number has, the terms of the lemma over them have
module _ (P Q : TermId → Type 0) (f : TermId → TermId) (each : (t : TermId) → P t → Q (f t)) where
  clause_has : (ls : List Lit) → AllByRecursion P (literal_terms ls) → AllByRecursion Q (literal_terms (map (renamed_literal f) ls))
  clause_has [] all = tt
  clause_has (l ∷ ls) all = (each l.term all.0, clause_has ls all.1)

  pairs_have : (ps : List Pair) → AllByRecursion P (flat_map pair_terms ps) → AllByRecursion Q (flat_map pair_terms (map (renamed_pair f) ps))
  pairs_have [] all = tt
  pairs_have (p ∷ ps) all = (each p.left all.0, (each p.right all.1.0, pairs_have ps all.1.1))

  hops_have : (hs : List Hop) → AllByRecursion P (map (λ h. h.con) hs) → AllByRecursion Q (map (λ h. h.con) (map (renamed_hop f) hs))
  hops_have [] all = tt
  hops_have (h ∷ hs) all = (each h.con all.0, hops_have hs all.1)

  step_has : (s : EqStep) → AllByRecursion P (step_terms s) → AllByRecursion Q (step_terms (renamed_step f s))
  step_has (Hyp l) all = (each l.term all.0, tt)
  step_has (Refl t) all = (each t all.0, tt)
  step_has (Sym i) all = tt
  step_has (Trans i j) all = tt
  step_has (Cong t u steps) all = (each t all.0, (each u all.1.0, tt))
  step_has (Inject i k) all = tt
  step_has (Sel t i) all = (each t all.0, tt)
  step_has (Test t i) all = (each t all.0, tt)
  step_has (Expand i c) all = (each c all.0, tt)
  step_has (EqualIn t i) all = (each t all.0, tt)
  step_has (EqualOut i) all = tt
  step_has (Neg t i) all = (each t all.0, tt)
  step_has (Single t u) all = (each t all.0, (each u all.1.0, tt))
  step_has (Unique p pairs) all = pairs_have pairs all

  steps_have : (ss : List EqStep) → AllByRecursion P (flat_map step_terms ss) → AllByRecursion Q (flat_map step_terms (map (renamed_step f) ss))
  steps_have [] all = tt
  steps_have (s ∷ ss) all =
      each_both Q (step_terms (renamed_step f s)) (flat_map step_terms (map (renamed_step f) ss)) (step_has s (each_left P (step_terms s) (flat_map step_terms ss) all))
      (steps_have ss (each_right P (step_terms s) (flat_map step_terms ss) all))

  close_has : (c : Close) → AllByRecursion P (close_terms c) → AllByRecursion Q (close_terms (renamed_close f c))
  close_has (Clash i) all = tt
  close_has (Cycle hops) all = hops_have hops all

  pub lemma_has : (lemma : Lemma) → AllByRecursion P (lemma_terms lemma) → AllByRecursion Q (lemma_terms (renamed_lemma f lemma))
  lemma_has lemma all =
      let later = each_right P (literal_terms lemma.clause) (flat_map step_terms lemma.steps ++ close_terms lemma.close) all in
      each_both Q (literal_terms (map (renamed_literal f) lemma.clause)) (flat_map step_terms (map (renamed_step f) lemma.steps) ++ close_terms (renamed_close f lemma.close))
      (clause_has lemma.clause (each_left P (literal_terms lemma.clause) (flat_map step_terms lemma.steps ++ close_terms lemma.close) all))
      (each_both Q (flat_map step_terms (map (renamed_step f) lemma.steps)) (close_terms (renamed_close f lemma.close))
      (steps_have lemma.steps (each_left P (flat_map step_terms lemma.steps) (close_terms lemma.close) later))
      (close_has lemma.close (each_right P (flat_map step_terms lemma.steps) (close_terms lemma.close) later)))
