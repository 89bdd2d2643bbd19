-- Hops of a cycle that are explained one after the other.
use Rattle.std.proofs.Common.{◌≡◌, ℕ, List, [], ◌∷◌, ◌++◌, refl, sym, subst, ◌∙◌}
use Rattle.ct_terms.specs.declared.ids.TermId.{TermId}
use Rattle.ct_rules.specs.declared.equation.Equation.{Equation}
use Rattle.ct_rules.specs.Cycle.{LeadsTo, IsCycle}
use Rattle.ct_log.specs.declared.rules.Hop.{Hop}
use Rattle.ct_log.specs.declared.rules.EqStep.{EqStep}
use Rattle.ct_log.specs.Equations.{Gave}
use Rattle.ct_log.specs.Closing.{IsCycleBy}
use Rattle.ct_congr.specs.State.{State, AreEqual}
use Rattle.ct_theory.specs.Steps.{Adds, IsPath, IsPathBy, start_term, AreUnderWay}
use Rattle.ct_theory.proofs.StepLemmas.{Adds-via, Adds-none, Adds-then, IsChain-push, IsPathBy-lasts, IsCycle-path, IsCycleBy-path}

module _ (state : State) where
  -- a path begins where its first hop does
  start_of_path : (rest : List (TermId × ℕ)) (at end : TermId) → IsPath state.declarations state.terms (AreEqual state) rest at end → start_term rest end ≡ at
  start_of_path [] at end path = sym path
  start_of_path (hop ∷ rest) at end path = path.0

  -- no hop is explained yet
  pub AreUnderWay-start : (hops : List (TermId × ℕ)) (first end : TermId) → IsCycle state.declarations state.terms (AreEqual state) hops → first ≡ start_term hops end → AreUnderWay state hops hops [] [] first
  AreUnderWay-start [] first end cycle is = absurd cycle
  AreUnderWay-start (hop ∷ hops) first end cycle is = record {
    at = first;
    path = subst (λ (t : TermId). IsPath state.declarations state.terms (AreEqual state) (hop ∷ hops) t t) (sym is) (IsCycle-path state.declarations state.terms (AreEqual state) hop hops cycle);
    adds = Adds-none state (λ given. IsPathBy state.declarations state.terms given [] first first) (λ given. refl);
    some = λ none. refl;
  }

  module _ (hops : List (TermId × ℕ)) (hop : TermId × ℕ) (others : List (TermId × ℕ)) (explained : List Hop) (steps : List EqStep) (first : TermId) (under : AreUnderWay state hops (hop ∷ others) explained steps first) where
    -- the next hop leads to where the others begin
    pub next_leads : (next : TermId) → next ≡ start_term others first → LeadsTo state.declarations state.terms (AreEqual state) hop.0 hop.1 next
    next_leads next is =
        subst (LeadsTo state.declarations state.terms (AreEqual state) hop.0 hop.1) (sym (is ∙ start_of_path others under.path.1.0 first under.path.1.2)) under.path.1.1

    no_hops : (entry : Hop) (hs : List Hop) → hs ++ entry ∷ [] ≡ [] → others ≡ hops
    no_hops entry [] e = absurd cc
    no_hops entry (h ∷ hs) e = absurd cc

    -- one more is explained
    pub AreUnderWay-more : (next : TermId) (entry : Hop) (after : List EqStep) → next ≡ start_term others first → entry.con ≡ hop.0 → entry.place ≡ hop.1 → Adds state steps after (λ given. LeadsTo state.declarations state.terms (Gave given entry.step) hop.0 hop.1 next) → AreUnderWay state hops others (explained ++ entry ∷ []) after first
    AreUnderWay-more next entry after is con_is place_is new =
        let to = under.path.1.0 in
        let there : next ≡ to = is ∙ start_of_path others to first under.path.1.2 in
        record {
          at = to;
          path = under.path.1.2;
          adds = Adds-via state [] after (λ given. IsPathBy state.declarations state.terms given explained first under.at × LeadsTo state.declarations state.terms (Gave given entry.step) hop.0 hop.1 next)
              (λ given. IsPathBy state.declarations state.terms given (explained ++ entry ∷ []) first to) (push to there)
              (Adds-then state [] steps after (λ given. IsPathBy state.declarations state.terms given explained first under.at) (λ given. LeadsTo state.declarations state.terms (Gave given entry.step) hop.0 hop.1 next)
              (λ given further. IsPathBy-lasts state.declarations state.terms given further explained first under.at) under.adds new);
          some = no_hops entry explained;
        }
      where
        push : (to : TermId) → next ≡ to → (given : List Equation) → IsPathBy state.declarations state.terms given explained first under.at × LeadsTo state.declarations state.terms (Gave given entry.step) hop.0 hop.1 next → IsPathBy state.declarations state.terms given (explained ++ entry ∷ []) first to
        push to there given h =
            IsChain-push (λ (k : Hop). k.con) (λ (k : Hop). LeadsTo state.declarations state.terms (Gave given k.step) k.con k.place) explained entry first under.at to h.0 (con_is ∙ under.path.0)
            (subst (λ (t : TermId). LeadsTo state.declarations state.terms (Gave given entry.step) entry.con entry.place t) there
            (subst (λ p. LeadsTo state.declarations state.terms (Gave given entry.step) entry.con p next) (sym place_is)
            (subst (λ (t : TermId). LeadsTo state.declarations state.terms (Gave given entry.step) t hop.1 next) (sym con_is) h.1)))

  no_cycle_of_none : (hops : List (TermId × ℕ)) → [] ≡ hops → IsCycle state.declarations state.terms (AreEqual state) hops → ⊥
  no_cycle_of_none [] e cycle = cycle
  no_cycle_of_none (hop ∷ hops) e cycle = absurd cc

  -- all are explained
  pub AreUnderWay-end : (hops : List (TermId × ℕ)) (explained : List Hop) (steps : List EqStep) (first : TermId) → IsCycle state.declarations state.terms (AreEqual state) hops → AreUnderWay state hops [] explained steps first → Adds state [] steps (λ given. IsCycleBy state.declarations state.terms given explained)
  AreUnderWay-end hops explained steps first cycle under =
      Adds-via state [] steps (λ given. IsPathBy state.declarations state.terms given explained first under.at) (λ given. IsCycleBy state.declarations state.terms given explained)
      (λ given path. IsCycleBy-path state.declarations state.terms given explained first (λ none. no_cycle_of_none hops (under.some none) cycle)
      (subst (IsPathBy state.declarations state.terms given explained first) under.path path))
      under.adds
