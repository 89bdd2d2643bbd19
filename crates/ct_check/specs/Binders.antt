-- What bindings come to once their names were looked at.
use Rattle.std.specs.Prelude.{ℕ, not, ◌&&◌, ◌==◌, List, Option, Ok}
use Rattle.ct_sorts.specs.Declarations.{Declarations}
use Rattle.ct_formulas.specs.Formula as formula
use Rattle.ct_formulas.specs.Formula.{bind}
use Rattle.ct_names.specs.Refusals.{repeated_variable, out_of_scope}
use Rattle.ct_names.specs.Outcome.{Elaborated, Sorted, and_then, unless_halted}
use Rattle.ct_names.specs.Forms.{are_bindings, bound_names}
use Rattle.ct_names.specs.Variables.{Variable, variables, present_names, has_repeated}
use Rattle.ct_names.specs.Parts.{Part, Parts, count}
use Rattle.ct_names.specs.Elaboration.{meaning_of_part, bound_terms, without_sorts, sorts_of}

-- what follows from the names of bindings: there is one or more, and none stands twice
abbrev pub with_names : Parts → (List (Option (List ℕ)) → Elaborated Sorted) → Elaborated Sorted
with_names bindings next =
    unless_halted (are_bindings bindings && not (count bindings == 0)) out_of_scope
    (unless_halted (not (has_repeated (present_names (bound_names bindings)))) repeated_variable (next (bound_names bindings)))

-- bindings of these names, and a body
abbrev pub let_of_names : Declarations → List Variable → List (Option (List ℕ)) → Parts → Part → Elaborated Sorted
let_of_names d scope names bindings body =
    and_then (bound_terms d scope bindings) (λ ts.
    and_then (meaning_of_part d (bind (variables names (sorts_of ts)) scope) body) (λ u.
    Ok (formula.Let (without_sorts ts) u.0, u.1)))
