-- The propositional variables of a table: its Boolean terms other than `true`, `false` and negations.
use Rattle.std.specs.Prelude.{ℕ, Bool, true, false, not, ◌&&◌, ◌==◌}
use Rattle.std.specs.List.{count_by}
use Rattle.ct_sorts.specs.declared.ids.SortId.{SortId}
use Rattle.ct_terms.specs.declared.term.Core.{Core}
use Rattle.ct_terms.specs.declared.term.Core.TheVariants.{Con, Not}
use Rattle.ct_terms.specs.Terms.{Terms}

-- a Boolean term is no variable where it is `true`, `false`, which are the constructor terms of Bool, or a negation
abbrev pub is_settled : Core → Bool
is_settled (Con c args) = true
is_settled (Not t) = true
is_settled core = false

-- the term, which stands beside its sort, is a variable
abbrev pub is_variable : Core × SortId → Bool
is_variable (core, sort) = (sort.0 == 0) && not (is_settled core)

-- how many of the terms are variables
abbrev pub variable_count : Terms → ℕ
variable_count table = count_by is_variable table
