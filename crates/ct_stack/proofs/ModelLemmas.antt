-- The values in a model of terms that were asked for: more terms beside those that have their values.
use Rattle.std.proofs.Common.{List, ◌++◌, Result, Ok, Err, OnOk}
use Rattle.std.proofs.lemmas.List.Elements.{Contains-append_right}
use Rattle.ct_sorts.specs.Declarations.{Declarations}
use Rattle.ct_terms.specs.Terms.{Terms, AreSorted}
use Rattle.ct_terms.specs.CoreTree.{CoreTree}
use Rattle.ct_compile.specs.Effect.{IsPrefix}
use Rattle.ct_eval.specs.declared.interp.Interp.{Interp}
use Rattle.ct_stack.specs.declared.model_values.ModelValues.{ModelValues}
use Rattle.ct_stack.specs.ModelValues.{AreModelValues}
use Rattle.ct_stack.specs.Refusal.{HasManyTerms}
use Rattle.ct_stack.proofs.GrowingLemmas.{many_more, prefix_of_prefix}

-- more terms have no values yet
pub with_more : (d : Declarations) (i : Interp) (v : ModelValues) (table : Terms) → AreModelValues d i v → IsPrefix v.table table → AreSorted d table → AreModelValues d i (record v { table = table })
with_more d i v table values grown sorted =
    record { sorted = sorted; valued = values.valued; first = prefix_of_prefix values.valued v.table table values.first grown; found = values.found }

-- beside other roots there are no fewer terms
pub many_beside : (roots trees : List CoreTree) → HasManyTerms trees → HasManyTerms (roots ++ trees)
many_beside roots trees = many_more trees (roots ++ trees) (λ t h. Contains-append_right roots trees t h)

-- what holds in any case holds where there is no error
pub in_any_case : {T E : Type 0} (r : Result T E) (P : Type 0) → P → OnOk r P
in_any_case (Ok x) P p = p
in_any_case (Err e) P p = tt
