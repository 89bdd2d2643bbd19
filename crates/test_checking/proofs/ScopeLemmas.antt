-- Scopes with one more definition.
use Rattle.std.proofs.Common.{◌≡◌, ◌∙◌, List, [], ◌∷◌, ◌++◌, length, map, sym, ap, subst}
use Rattle.std.proofs.lemmas.List.{map-append}
use Rattle.std.proofs.lemmas.Option.{none-some}
use Rattle.ct_sorts.specs.Declarations.{Declarations, Function, with_definition}
use Rattle.ct_formulas.specs.declared.tree.Tree.{Tree}
use Rattle.ct_formulas.specs.Formula.{Formula, bind}
use Rattle.ct_formulas.specs.FormulaSorts.{IsSorted, AreSound}
use Rattle.ct_formulas.specs.TreeFormula.{formula_of}
use Rattle.ct_scope.specs.declared.scope.Scope.{Scope}
use Rattle.test_checking.specs.Scopes.{IsSound}

-- a scope stays sound with one more definition, whose body is of its sort
pub sound_with_body : ((d : Declarations) (f : Function) (bodies : List Formula) (body : Formula) → AreSound d bodies → IsSorted d (bind f.args []) body f.result → AreSound (with_definition d f) (bodies ++ body ∷ [])) → (old new : Scope) (f : Function) (body : Tree) → IsSound old → IsSorted old.sig (bind f.args []) (formula_of body) f.result → new.sig ≡ with_definition old.sig f → new.bodies ≡ old.bodies ++ body ∷ [] → IsSound new
sound_with_body sound_with old new f body sound sorted sig bodies =
    let formulas : map formula_of new.bodies ≡ map formula_of old.bodies ++ formula_of body ∷ [] =
    ap (map formula_of) bodies ∙ map-append formula_of old.bodies (body ∷ [])
    in
    subst (λ (d : Declarations). AreSound d (map formula_of new.bodies)) (sym sig)
    (subst (AreSound (with_definition old.sig f)) (sym formulas) (sound_with old.sig f (map formula_of old.bodies) (formula_of body) sound sorted))

-- a scope without definitions and bodies is sound
no_definitions : (d : Declarations) → length d.definitions ≡ 0 → AreSound d []
no_definitions d none =
    record {
      one_each = sym none;
      sorted = λ k definition body at_definition at. absurd (none-some body at);
      earlier = λ k body at. absurd (none-some body at);
    }

pub sound_without_definitions : (scope : Scope) → length scope.sig.definitions ≡ 0 → scope.bodies ≡ [] → IsSound scope
sound_without_definitions scope none bodies = subst (AreSound scope.sig) (sym (ap (map formula_of) bodies)) (no_definitions scope.sig none)
