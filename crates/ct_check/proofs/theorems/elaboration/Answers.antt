use Rattle.std.proofs.Common.{◌≡◌, suc, List, [], ◌∷◌, map, All, Ok, refl, sym, ◌∙◌, ap, subst, arith}
use Rattle.std.specs.List.{AllByRecursion}
use Rattle.std.proofs.lemmas.List.Elements.{All-nil, All-cons, recursion_from_All}
use Rattle.ct_sexpr.specs.Expression.{Expression}
use Rattle.ct_sorts.specs.Consistent.{IsConsistent}
use Rattle.ct_sorts.specs.Declarations.{Declarations, IsSort}
use Rattle.ct_sorts.specs.declared.ids.SortId.{SortId}
use Rattle.ct_formulas.specs.Formula.{Formula, bind}
use Rattle.ct_formulas.specs.FormulaSorts.{IsSorted}
use Rattle.ct_names.specs.declared.variables.Param.{Param}
use Rattle.ct_names.specs.Bounds.{parameter_variables, variable_of_param}
use Rattle.ct_names.specs.Elaboration.{elaborated}
use Rattle.ct_names.specs.Variables.{Variable, ScopeIn, variable_sorts}
use Rattle.ct_check.proofs.SymbolSorts.{Theorems}
use Rattle.ct_check.proofs.SoundForms.{map-bind}
use Rattle.ct_check.proofs.SoundExpressions.{elaborated_sound}
use Rattle.ct_check.proofs.theorems.elaboration.Goals as goal

-- what holds of consistent declarations
theorems : goal.After-formulas → (d : Declarations) → IsConsistent d → Theorems d
theorems c d h = record {
  own_constructors = c.structure.ensures.own_constructors d h;
  of_their_sorts = c.structure.ensures.of_their_sorts d h;
  own_selectors = c.structure.ensures.own_selectors d h;
  of_their_constructors = c.structure.ensures.of_their_constructors d h;
  consistent = h;
  made = λ s i e t at shaped. c.shapes.ensures.constructors d s i e t h at shaped;
}

-- the sorts of parameters
parameter_sorts : (params : List Param) → map (λ (v : Variable). v.sort) (map variable_of_param params) ≡ map (λ (p : Param). p.sort) params
parameter_sorts [] = refl
parameter_sorts (p ∷ params) = ap (λ (sorts : List SortId). p.sort ∷ sorts) (parameter_sorts params)

under : (params : List Param) → variable_sorts (parameter_variables params) ≡ bind (map (λ (p : Param). p.sort) params) []
under params =
    map-bind (λ (v : Variable). v.sort) (map variable_of_param params) []
    ∙ ap (λ (sorts : List SortId). bind sorts []) (parameter_sorts params)

-- the sorts of variables that are there
scope_in : (d : Declarations) (scope : List Variable) → AllByRecursion (IsSort d) (variable_sorts scope) → ScopeIn d scope
scope_in d [] all = tt
scope_in d (v ∷ scope) all = (all.0, scope_in d scope all.1)

sorted : goal.After-formulas → (d : Declarations) (scope : List Variable) (e : Expression) (t : Formula) (sort : SortId) → IsConsistent d → All (IsSort d) (variable_sorts scope) → elaborated d scope e ≡ Ok (t, sort) → IsSorted d (variable_sorts scope) t sort
sorted c d scope e t sort h all is = elaborated_sound d (theorems c d h) scope (scope_in d scope (recursion_from_All (IsSort d) (variable_sorts scope) all)) e (t, sort) is

-- parameters whose sorts are there, the last one innermost
parameters_in : (d : Declarations) (params : List Param) → All (λ (p : Param). IsSort d p.sort) params → All (IsSort d) (variable_sorts (parameter_variables params))
parameters_in d params all =
    subst (All (IsSort d)) (sym (under params))
    (bind_all (map (λ (p : Param). p.sort) params) [] (mapped params (recursion_from_All (λ (p : Param). IsSort d p.sort) params all)) (All-nil (IsSort d)))
  where
    mapped : (ps : List Param) → AllByRecursion (λ (p : Param). IsSort d p.sort) ps → All (IsSort d) (map (λ (p : Param). p.sort) ps)
    mapped [] each = All-nil (IsSort d)
    mapped (p ∷ ps) each = All-cons (IsSort d) p.sort (map (λ (q : Param). q.sort) ps) each.0 (mapped ps each.1)

    bind_all : (sorts env : List SortId) → All (IsSort d) sorts → All (IsSort d) env → All (IsSort d) (bind sorts env)
    bind_all [] env each rest = rest
    bind_all (s ∷ sorts) env each rest = bind_all sorts (s ∷ env) (λ k x h. each (suc k) x (omega (arith, h))) (All-cons (IsSort d) s env (each 0 s (omega arith)) rest)

pub returns : goal.returns
unfolding sorted
returns c = record {
  sorted = sorted c;
  mentions = λ d scope e t sort h all is. c.formulas.ensures.mentions d (variable_sorts scope) t sort (sorted c d scope e t sort h all is);
  body = λ d params e t sort h all is. subst (λ (env : List SortId). IsSorted d env t sort) (under params) (sorted c d (parameter_variables params) e t sort h (parameters_in d params all) is);
}
