-- Unit propagation by hints, over a set of literals that are marked.
use Rattle.std.specs.Prelude.{ℕ, Bool, true, false, List}
use Rattle.ct_terms.specs.declared.ids.Lit.{Lit}
use Rattle.ct_terms.specs.Clause.{Clause}
use Rattle.ct_terms.specs.Propagation.{Propagates, IsUnit, IsNumbered, AreFalseIn}
use Rattle.ct_log.specs.Marks.{Marking, AreMarked}

-- the clause with this number has this literal as the one that is not false
abbrev pub IsUnitAt : List Clause → ℕ → List Lit → Lit → Type 0
IsUnitAt clauses number set l = (clause : Clause) × IsNumbered clauses number clause × IsUnit set clause l

-- all literals of the clause with this number are false
abbrev pub IsFalseAt : List Clause → ℕ → List Lit → Type 0
IsFalseAt clauses number set = (clause : Clause) × IsNumbered clauses number clause × AreFalseIn set clause

-- the hints propagate from the set, to one that is marked; or they do not
abbrev pub Settles : List Clause → List ℕ → List Lit → Marking → Bool → Type 0
Settles clauses hints before marks true = (after : List Lit) × Propagates clauses hints before after × AreMarked marks after
Settles clauses hints before marks false = (after : List Lit) → Propagates clauses hints before after → ⊥
