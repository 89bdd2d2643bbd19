-- Parameters as variables in scope, and the sort of what elaboration comes to.
use Rattle.std.proofs.Common.{◌≡◌, List, [], ◌∷◌, map, All, Ok}
use Rattle.std.proofs.lemmas.List.Elements.{recursion_from_All}
use Rattle.std.specs.List.{AllByRecursion}
use Rattle.ct_sexpr.specs.Expression.{Expression as Sexpr}
use Rattle.ct_sorts.specs.Consistent.{IsConsistent}
use Rattle.ct_sorts.specs.Declarations.{Declarations, IsSort}
use Rattle.ct_names.specs.declared.variables.Param.{Param}
use Rattle.ct_names.specs.Bounds.{variable_of_param, parameter_variables}
use Rattle.ct_names.specs.Needs.{Reaches}
use Rattle.ct_names.specs.Outcome.{Sorted}
use Rattle.ct_names.specs.Variables.{Variable, ScopeIn}
use Rattle.ct_names.specs.Elaboration.{elaborated}
use Rattle.ct_names.proofs.NeedLemmas.{grows_itself, reaches_grows}
use Rattle.ct_names.proofs.LastingLemmas.{scope_declared}
use Rattle.ct_names.proofs.StayLemmas.{ScopeIn-bind}
use Rattle.ct_names.proofs.StayTerms.{elaborated_stays}

params_inside : (d : Declarations) (params : List Param) → AllByRecursion (λ (p : Param). IsSort d p.sort) params → ScopeIn d (map variable_of_param params)
params_inside d [] all = tt
params_inside d (p ∷ params) all = (all.0, params_inside d params all.1)

pub parameters_inside : (d : Declarations) (params : List Param) → All (λ (p : Param). IsSort d p.sort) params → ScopeIn d (parameter_variables params)
parameters_inside d params all = ScopeIn-bind d (map variable_of_param params) [] (params_inside d params (recursion_from_All (λ (p : Param). IsSort d p.sort) params all)) tt

-- the sort of what elaboration comes to is there
pub sort_inside : (d later : Declarations) (scope : List Variable) (e : Sexpr) (t : Sorted) → IsConsistent d → IsConsistent later → ScopeIn d scope → Reaches (λ n. elaborated n scope e) d later → elaborated later scope e ≡ Ok t → IsSort later t.1
sort_inside d later scope e t c cl inside reaches is =
    (elaborated_stays later later (grows_itself later) cl scope (scope_declared later d (reaches_grows (λ n. elaborated n scope e) d later reaches) c scope inside) e t is).1
