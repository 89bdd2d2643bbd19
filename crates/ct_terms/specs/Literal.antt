-- Literals: a term without the negations around it, and the sign that they leave.
use Rattle.std.specs.Prelude.{◌≡◌, ℕ, zero, suc, ◌<◌, true, not, List, length, Option, Some, None, slice_get}
use Rattle.ct_sorts.specs.declared.ids.SortId.{SortId}
use Rattle.ct_terms.specs.declared.ids.TermId.{TermId}
use Rattle.ct_terms.specs.declared.ids.Lit.{Lit}
use Rattle.ct_terms.specs.declared.term.Core.{Core}
use Rattle.ct_terms.specs.declared.term.Core.TheVariants.{Not}
use Rattle.ct_sorts.specs.Declarations.{bool_sort}
use Rattle.ct_terms.specs.Terms.{Terms, IsOfSort, Has}

-- the literal of the same term with the other sign
abbrev pub opposite : Lit → Lit
opposite l = record { term = l.term; positive = not l.positive }

-- one negation taken off, where the term is one
abbrev pub literal_step : (TermId → Lit) → TermId → Option (Core × SortId) → Lit
literal_step below t None = record { term = t; positive = true }
literal_step below t (Some (Not a, s)) = opposite (below a)
literal_step below t (Some (_, s)) = record { term = t; positive = true }

-- the literal of a term whose number is below the bound; the term under a negation has a smaller number
unfoldable pub literal_below : ℕ → Terms → TermId → Lit
literal_below zero table t = record { term = t; positive = true }
literal_below (suc n) table t = literal_step (literal_below n table) t (slice_get table t.0)

-- every negation around the term is taken off, and each turns the sign
abbrev pub literal_of : Terms → TermId → Lit
literal_of table t = literal_below (suc t.0) table t

-- what `literal_of` means: a term that is no negation is its own positive literal, and a negation has the
-- opposite of the literal of the term under it
abbrev pub IsLiteral : Terms → TermId → Option (Core × SortId) → Type 0
IsLiteral table t None = Unit {0}
IsLiteral table t (Some (Not a, s)) = literal_of table t ≡ opposite (literal_of table a)
IsLiteral table t (Some (_, s)) = literal_of table t ≡ record { term = t; positive = true }

-- a Boolean term of the table that is no negation
abbrev pub IsStripped : Terms → TermId → Type 0
IsStripped table t = IsOfSort table t bool_sort × ((a : TermId) → Has table (Not a) t.0 → ⊥)

-- the list has the literal of each term of the table, by its number
pub record AreLiterals (table : Terms) (literals : List Lit) : Type 0 where
  pub long : length literals ≡ length table
  pub each : (t : TermId) → t.0 < length table → slice_get literals t.0 ≡ Some (literal_of table t)
