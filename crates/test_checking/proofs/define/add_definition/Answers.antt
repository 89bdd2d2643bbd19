use Rattle.std.proofs.Common.{◌∙◌, List, [], All, subst, sym}
use Rattle.std.proofs.lemmas.List.Elements.{All-map}
use Rattle.ct_sorts.specs.declared.ids.SortId.{SortId}
use Rattle.ct_sorts.specs.Declarations.{IsSort}
use Rattle.ct_formulas.specs.Formula.{bind}
use Rattle.ct_formulas.specs.FormulaSorts.{IsSorted}
use Rattle.ct_formulas.specs.TreeFormula.{formula_of}
use Rattle.ct_names.specs.declared.variables.Param.{Param}
use Rattle.test_checking.proofs.ScopeLemmas.{sound_with_body}
use Rattle.test_checking.proofs.define.add_definition.Goals as goal

pub add_def-requires-clause-args : goal.add_def-requires-clause-args
add_def-requires-clause-args c =
    subst (All (IsSort c.args.scope.now.sig)) (sym c.in_ok-sorts.ensures.value)
    (All-map (IsSort c.args.scope.now.sig) (λ (p : Param). p.sort) c.args.params.now c.requires.params)

pub returns : goal.returns
returns c =
    let sorted =
    subst (λ (sorts : List SortId). IsSorted c.args.scope.now.sig (bind sorts []) (formula_of c.args.body) c.args.sort)
    (sym c.in_ok-sorts.ensures.value) c.requires.body
    in
    record {
      sound =
          sound_with_body c.scopes.ensures.sound_with c.args.scope.now c.push_body.new.scope
          (record { name = c.args.name; args = c.in_ok-sorts.sorts.items; result = c.args.sort })
          c.args.body c.requires.before sorted (c.in_ok-push_body.ensures.sig ∙ c.in_ok-add_def.ensures.ok.1) c.in_ok-push_body.ensures.bodies;
    }
