-- A quantifier once its variables are read, and once its body is.
use Rattle.std.specs.Prelude.{◌≡◌, ℕ, nat_le, List, length, Option, Ok}
use Rattle.ct_sorts.specs.declared.ids.SortId.{SortId}
use Rattle.ct_sorts.specs.Consistent.{IsConsistent}
use Rattle.ct_sorts.specs.Declarations.{Declarations, bool_sort}
use Rattle.ct_sorts.specs.Grown.{Extends}
use Rattle.ct_formulas.specs.declared.tree.Quantifier.{Quantifier}
use Rattle.ct_formulas.specs.Formula as formula
use Rattle.ct_formulas.specs.Formula.{bind}
use Rattle.ct_formulas.specs.Choices.{choices_of, most_choices}
use Rattle.ct_finite.specs.Counts.{AreCounts}
use Rattle.ct_names.specs.Refusals.{too_many_values}
use Rattle.ct_names.specs.Outcome.{Elaborated, Sorted, and_then, unless_halted, of_sort}
use Rattle.ct_names.specs.Parts.{Part, Parts}
use Rattle.ct_names.specs.Variables.{Variable, variables}
use Rattle.ct_names.specs.Elaboration.{listable_sorts, meaning_of_part}

-- the sorts of variables, where there are at most 4,096 lists of values for them
abbrev pub few_listable_sorts : Declarations → Parts → Elaborated (List SortId)
few_listable_sorts d bindings = and_then (listable_sorts d bindings) (λ sorts. unless_halted (nat_le (length (choices_of d sorts)) most_choices) too_many_values (Ok sorts))

-- the quantifier with a body, where this is Boolean
abbrev pub quantified_with : Quantifier → List SortId → Sorted → Elaborated Sorted
quantified_with q sorts t = and_then (of_sort bool_sort (Ok t)) (λ u. Ok (formula.Quantified q sorts u, bool_sort))

-- the quantifier over variables of these names
abbrev pub quantified_of_names : Declarations → List Variable → Quantifier → List (Option (List ℕ)) → Parts → Part → Elaborated Sorted
quantified_of_names d scope q names bindings body = and_then (few_listable_sorts d bindings) (λ sorts. and_then (meaning_of_part d (bind (variables names sorts) scope) body) (quantified_with q sorts))

-- The counts are those of earlier declarations that have the sorts of these. Which of their sorts are listable, and how many values
-- they have, does not change with more declarations.
pub record AreKnown (d : Declarations) (counts : List ℕ) : Type 0 where
  pub earlier : Declarations
  pub consistent : IsConsistent earlier
  pub extends : Extends d earlier
  pub as_many : length earlier.sorts ≡ length d.sorts
  pub right : AreCounts earlier counts
