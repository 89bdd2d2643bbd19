-- Steps of a line that are added to others, what they give, and the clause that they need.
use Rattle.std.specs.Prelude.{◌≡◌, ◌↔◌, ℕ, ◌+◌, ◌*◌, Bool, true, false, List, [], ◌∷◌, ◌++◌, Contains, Some, slice_get}
use Rattle.ct_sorts.specs.Declarations.{Declarations}
use Rattle.ct_terms.specs.declared.ids.TermId.{TermId}
use Rattle.ct_terms.specs.declared.ids.Lit.{Lit}
use Rattle.ct_terms.specs.Literal.{opposite}
use Rattle.ct_terms.specs.Clause.{Clause}
use Rattle.ct_terms.specs.Terms.{Terms}
use Rattle.ct_rules.specs.declared.equation.Equation.{Equation}
use Rattle.ct_rules.specs.Rules.{Equations}
use Rattle.ct_rules.specs.Cycle.{LeadsTo}
use Rattle.ct_log.specs.declared.rules.Hop.{Hop}
use Rattle.ct_log.specs.declared.rules.EqStep.{EqStep}
use Rattle.ct_log.specs.declared.rules.EqStep.TheVariants.{Hyp}
use Rattle.ct_log.specs.Equations.{Gave, GiveAll}
use Rattle.ct_congr.specs.State.{State, AreEqual}
use Rattle.ct_theory.specs.Entailment.{StandOnce}

-- the clause has the opposite of each literal that the steps name
abbrev pub Covers : Clause → List EqStep → Type 0
Covers clause steps = (l : Lit) → Contains steps (Hyp l) → Contains clause (opposite l)

-- steps were added that name hypotheses of the classes alone; in a line with the opposites of these they are accepted after
-- the old ones, and of the equations that all of them give this holds
pub record Adds (state : State) (old new : List EqStep) (gives : List Equation → Type 0) : Type 0 where
  pub more : List EqStep
  pub stays : new ≡ old ++ more
  pub named : (l : Lit) → Contains more (Hyp l) → Contains state.hypotheses l
  pub accepted : (clause : Clause) (given : List Equation)
      → GiveAll state.declarations state.terms clause old given
      → Covers clause more
      → (after : List Equation) × GiveAll state.declarations state.terms clause new (given ++ after) × gives (given ++ after)

-- from a term over the items, each of which begins at a term and leads to the one at which the next begins, to the end
abbrev pub IsChain : {A : Type 0} → (A → TermId) → (A → TermId → Type 0) → List A → TermId → TermId → Type 0
IsChain begins leads [] from end = from ≡ end
IsChain begins leads (item ∷ items) from end = (begins item ≡ from) × ((next : TermId) × leads item next × IsChain begins leads items next end)

-- a chain over constructor terms of datatypes and places of arguments, where these equations are known
abbrev pub IsPath : Declarations → Terms → Equations → List (TermId × ℕ) → TermId → TermId → Type 0
IsPath d terms known hops from end = IsChain (λ hop. hop.0) (λ hop. LeadsTo d terms known hop.0 hop.1) hops from end

-- the same where each link is known by the step beside it
abbrev pub IsPathBy : Declarations → Terms → List Equation → List Hop → TermId → TermId → Type 0
IsPathBy d terms given hops from end = IsChain (λ (hop : Hop). hop.con) (λ (hop : Hop). LeadsTo d terms (Gave given hop.step) hop.con hop.place) hops from end

-- the constructor term at which the hops begin; where there are none, the end
abbrev pub start_term : List (TermId × ℕ) → TermId → TermId
start_term [] end = end
start_term (hop ∷ hops) end = hop.0

-- some hops are explained, from the first to the one at which the rest begins, and the rest leads to the first
pub record AreUnderWay (state : State) (hops rest : List (TermId × ℕ)) (explained : List Hop) (steps : List EqStep) (first : TermId) : Type 0 where
  pub at : TermId
  pub path : IsPath state.declarations state.terms (AreEqual state) rest at first
  pub adds : Adds state [] steps (λ given. IsPathBy state.declarations state.terms given explained first at)
  pub some : explained ≡ [] → rest ≡ hops

-- where the stamp of a literal stands: two a term, the negative one first
abbrev pub sign_index : Bool → ℕ
sign_index true = 1
sign_index false = 0

abbrev pub stamp_index : Lit → ℕ
stamp_index l = l.term.0 * 2 + sign_index l.positive

-- the clause of these steps: the opposite of each literal that they name, once, and nothing else
pub record IsClauseOf (steps : List EqStep) (clause : Clause) : Type 0 where
  pub covers : Covers clause steps
  pub used : (l : Lit) → Contains clause l → Contains steps (Hyp (opposite l))
  pub once : StandOnce clause

-- stamped are the literals whose opposites stand in the clause
abbrev pub AreStamped : List Bool → Clause → Type 0
AreStamped stamps clause = (l : Lit) → (slice_get stamps (stamp_index l) ≡ Some true) ↔ Contains clause (opposite l)
