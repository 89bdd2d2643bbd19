-- The definition that a label makes.
use Rattle.std.proofs.Common.{◌≡◌, ◌∙◌, ◌≤◌, ℕ, List, [], ◌∷◌, ◌++◌, length, Some, refl, sym, ap, subst}
use Rattle.std.specs.Global.{Vec}
use Rattle.ct_lemmas.proofs.Lists.{slice_get-last}
use Rattle.ct_sorts.specs.Availability.{IsUnavailable}
use Rattle.ct_sorts.specs.declared.ids.SortId.{SortId}
use Rattle.ct_sorts.specs.declared.ids.FunId.{FunId}
use Rattle.ct_sorts.specs.declared.ids.DefId.{DefId}
use Rattle.ct_sorts.specs.Declarations.{Declarations, Function, bool_sort, symbol_names, most_definitions, with_definition}
use Rattle.ct_sorts.specs.Refusals.{IsFirstCause, IsNone, symbol_taken, too_many}
use Rattle.ct_formulas.specs.declared.tree.Pattern.{Pattern}
use Rattle.ct_formulas.specs.declared.tree.Tree.{Tree}
use Rattle.ct_formulas.specs.declared.tree.Tree.TheFolds.{fold-roll-Tree}
use Rattle.ct_formulas.specs.declared.tree.Tree.TheOpen.{Tree-F}
use Rattle.ct_formulas.specs.declared.tree.Tree.TheVariants as tree
use Rattle.ct_formulas.specs.declared.tree.Tree.TheVariants.{rolls-Apply, rolls-Def}
use Rattle.ct_formulas.specs.Formula.{Formula, Apply, Def, no_formulas}
use Rattle.ct_formulas.specs.FormulaSorts.{IsSorted}
use Rattle.ct_formulas.specs.TreeFormula.{formula_layer, case_layer, formula_of, formulas_of_trees}
use Rattle.ct_stack.specs.Stack.{Context, named_truth, context_with}

module _ (name own : List ℕ) (args : List SortId) (same : own ≡ name) (none : args ≡ []) where
  truth_is : record { name = own; args = args; result = bool_sort } ≡ named_truth name
  truth_is =
      ap (λ (n : List ℕ). record { name = n; args = args; result = bool_sort }) same
      ∙ ap (λ (sorts : List SortId). record { name = name; args = sorts; result = bool_sort }) none

  -- the context with the definition is the one to which the label leads
  pub labelled_context : (c now : Context) (t : Formula) → now.declarations ≡ with_definition c.declarations (record { name = own; args = args; result = bool_sort }) → now.bodies ≡ c.bodies ++ t ∷ [] → now ≡ context_with c (Some name) t
  labelled_context c now t sig bodies =
      ap (λ (d : Declarations). record { declarations = d; bodies = now.bodies }) sig
      ∙ ap (λ (bs : List Formula). record { declarations = with_definition c.declarations (record { name = own; args = args; result = bool_sort }); bodies = bs }) bodies
      ∙ ap (λ (f : Function). record { declarations = with_definition c.declarations f; bodies = c.bodies ++ t ∷ [] }) truth_is

  -- the definition is Boolean
  pub label_sorted : (d later : Declarations) (k : ℕ) (u : Formula) → later ≡ with_definition d (record { name = own; args = args; result = bool_sort }) → k ≡ length d.definitions → u ≡ Def (record { 0 = k }) no_formulas → IsSorted later [] u bool_sort
  label_sorted d later k u sig number is =
      subst (λ (n : Declarations). IsSorted n [] u bool_sort) (sym (sig ∙ ap (with_definition d) truth_is))
      (subst (λ (x : Formula). IsSorted (with_definition d (named_truth name)) [] x bool_sort) (sym (is ∙ ap (λ (n : ℕ). Def (record { 0 = n }) no_formulas) number))
      (named_truth name, slice_get-last d.definitions (named_truth name), tt, refl))

-- what refuses a label of this name refuses it where it is kept
pub own_refusal : (d : Declarations) (name own : List ℕ) (n : ℕ) → own ≡ name → IsFirstCause symbol_taken (IsUnavailable (symbol_names d) own) (IsFirstCause too_many (most_definitions ≤ length d.definitions) IsNone) n → IsFirstCause symbol_taken (IsUnavailable (symbol_names d) name) (IsFirstCause too_many (most_definitions ≤ length d.definitions) IsNone) n
own_refusal d name own n same h =
    subst (λ (m : List ℕ). IsFirstCause symbol_taken (IsUnavailable (symbol_names d) m) (IsFirstCause too_many (most_definitions ≤ length d.definitions) IsNone) n) same h

-- a call without arguments
pub lone_definition : (k : DefId) (ts : Vec Tree) → ts.items ≡ [] → formula_of (tree.Def k ts) ≡ Def k no_formulas
lone_definition k ts none =
    ap formula_of (sym (rolls-Def k ts))
    ∙ fold-roll-Tree Formula (Pattern × Formula) formula_layer case_layer (Tree-F.Def k ts)
    ∙ ap (λ (xs : List Tree). Def k (formulas_of_trees xs)) none

pub lone_function : (f : FunId) (ts : Vec Tree) → ts.items ≡ [] → formula_of (tree.Apply f ts) ≡ Apply f no_formulas
lone_function f ts none =
    ap formula_of (sym (rolls-Apply f ts))
    ∙ fold-roll-Tree Formula (Pattern × Formula) formula_layer case_layer (Tree-F.Apply f ts)
    ∙ ap (λ (xs : List Tree). Apply f (formulas_of_trees xs)) none
