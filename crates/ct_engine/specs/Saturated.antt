-- When literals decide the assertions and all rules agree with them: a candidate for a model.
use Rattle.std.specs.Prelude.{◌≡◌, ◌↔◌, ℕ, Bool, true, List, Contains}
use Rattle.ct_sorts.specs.declared.ids.CtorId.{CtorId}
use Rattle.ct_sorts.specs.Declarations.{Declarations}
use Rattle.ct_terms.specs.declared.ids.TermId.{TermId}
use Rattle.ct_terms.specs.declared.ids.Lit.{Lit}
use Rattle.ct_terms.specs.declared.term.Core.TheVariants.{Con}
use Rattle.ct_terms.specs.Terms.{Terms, Has}
use Rattle.ct_terms.specs.Literal.{IsStripped, opposite}
use Rattle.ct_terms.specs.CoreTree.{CoreTree}
use Rattle.ct_rules.specs.Cycle.{IsCycle}
use Rattle.ct_rules.specs.Uniqueness.{IsBisimulation}
use Rattle.ct_closure.specs.Closed.{InClosure}
use Rattle.ct_closure.specs.ClosedTable.{HasTree, terms_at}
use Rattle.ct_log.specs.declared.line.Line.{Line}
use Rattle.ct_sat.specs.Up.{IsAssigned}
use Rattle.ct_clauses.specs.Initial.{IsInitialLine}
use Rattle.ct_theory.specs.Entailment.{Entails}

-- the literals are, for each variable of the table, exactly one of its two literals, and nothing else
pub record AreComplete (terms : Terms) (literals : List Lit) : Type 0 where
  pub each : (t : TermId) → IsStripped terms t → IsAssigned (Contains literals) t
  pub one : (l : Lit) → Contains literals l → Contains literals (opposite l) → ⊥
  pub only : (l : Lit) → Contains literals l → IsStripped terms l.term

-- no rule of equality contradicts what the literals entail: the classes have no two constructors, no cycle through constructor
-- terms of datatypes, and no bisimulation relates two of them
pub record AreUncontradicted (d : Declarations) (terms : Terms) (literals : List Lit) : Type 0 where
  pub one_constructor : (a b : TermId) (c e : CtorId) (xs ys : List TermId) → Entails d terms literals a b
      → Has terms (Con c xs) a.0 → Has terms (Con e ys) b.0 → c ≡ e
  pub acyclic : (hops : List (TermId × ℕ)) → IsCycle d terms (Entails d terms literals) hops → ⊥
  pub extensional : (related : TermId → TermId → Bool) → IsBisimulation terms (Entails d terms literals) related
      → (x y : TermId) → related x y ≡ true → Entails d terms literals x y

-- the literals decide the variables of the table, each initial line has one of them, and no rule of equality contradicts them
pub record AreDecided (d : Declarations) (terms : Terms) (asserts : List TermId) (literals : List Lit) : Type 0 where
  pub complete : AreComplete terms literals
  pub initial : (line : Line) → IsInitialLine d terms asserts line → (l : Lit) × Contains line.clause l × Contains literals l
  pub uncontradicted : AreUncontradicted d terms literals

-- the table holds exactly the closure of these roots, which have these numbers, and the literals decide it
pub record IsSaturated (d : Declarations) (roots : List CoreTree) (terms : Terms) (asserts : List TermId) (literals : List Lit) : Type 0 where
  pub closure : (t : CoreTree) → HasTree terms t ↔ InClosure d roots t
  pub asserted : terms_at terms asserts ≡ roots
  pub decided : AreDecided d terms asserts literals
