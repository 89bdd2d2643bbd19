-- How the equations that the steps of a line give contradict each other: two constructors clash, or constructor terms of
-- datatypes stand in a cycle (Reynolds and Blanchette 2015, section 4).
use Rattle.std.specs.Prelude.{◌≡◌, ℕ, List, [], ◌∷◌}
use Rattle.ct_sorts.specs.declared.ids.CtorId.{CtorId}
use Rattle.ct_sorts.specs.Declarations.{Declarations}
use Rattle.ct_terms.specs.declared.ids.TermId.{TermId}
use Rattle.ct_terms.specs.declared.term.Core.TheVariants as core
use Rattle.ct_terms.specs.Terms.{Terms, Has}
use Rattle.ct_rules.specs.declared.equation.Equation.{Equation}
use Rattle.ct_rules.specs.Cycle.{LeadsTo}
use Rattle.ct_log.specs.declared.rules.Hop.{Hop}
use Rattle.ct_log.specs.declared.rules.Close.{Close}
use Rattle.ct_log.specs.declared.rules.Close.TheVariants.{Clash, Cycle}
use Rattle.ct_log.specs.Equations.{Gave}

-- the step gave an equation of two constructor terms with different constructors
pub record IsClash (terms : Terms) (given : List Equation) (step : ℕ) : Type 0 where
  pub left : TermId
  pub right : TermId
  pub ctor : CtorId
  pub other : CtorId
  pub xs : List TermId
  pub ys : List TermId
  pub equal : Gave given step left right
  pub left_stands : Has terms (core.Con ctor xs) left.0
  pub right_stands : Has terms (core.Con other ys) right.0
  pub differ : ctor ≡ other → ⊥

-- each constructor term of a datatype leads to the next, by the step beside it, and the last to the end
abbrev pub LeadBackBy : Declarations → Terms → List Equation → List Hop → TermId → Type 0
LeadBackBy d terms given [] end = ⊥
LeadBackBy d terms given (hop ∷ []) end = LeadsTo d terms (Gave given hop.step) hop.con hop.place end
LeadBackBy d terms given (hop ∷ (next ∷ hops)) end = LeadsTo d terms (Gave given hop.step) hop.con hop.place next.con × LeadBackBy d terms given (next ∷ hops) end

-- the last leads to the first
abbrev pub IsCycleBy : Declarations → Terms → List Equation → List Hop → Type 0
IsCycleBy d terms given [] = ⊥
IsCycleBy d terms given (hop ∷ hops) = LeadBackBy d terms given (hop ∷ hops) hop.con

-- the closing rule holds of these equations
abbrev pub Closes : Declarations → Terms → List Equation → Close → Type 0
Closes d terms given (Clash i) = IsClash terms given i
Closes d terms given (Cycle hops) = IsCycleBy d terms given hops
