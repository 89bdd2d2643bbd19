-- Clauses, and when an assignment of truth values makes one true.
use Rattle.std.specs.Prelude.{◌≡◌, ℕ, Bool, true, false, not, List, map, Contains}
use Rattle.ct_terms.specs.declared.ids.Lit.{Lit}
use Rattle.ct_terms.specs.Literal.{opposite}

-- a clause: the disjunction of its literals
abbrev pub Clause : Type 0
Clause = List Lit

-- the opposites of the literals, in their order
abbrev pub opposites : List Lit → List Lit
opposites literals = map opposite literals

-- what the literal is where its term has this truth value
abbrev pub with_value : Bool → Bool → Bool
with_value true value = value
with_value false value = not value

-- what the literal is where each term, by its number, has a truth value
abbrev pub literal_value : (ℕ → Bool) → Lit → Bool
literal_value value l = with_value l.positive (value l.term.0)

-- the assignment makes the clause true: some literal of it is true
abbrev pub HoldsUnder : (ℕ → Bool) → Clause → Type 0
HoldsUnder value clause = (l : Lit) × Contains clause l × (literal_value value l ≡ true)
