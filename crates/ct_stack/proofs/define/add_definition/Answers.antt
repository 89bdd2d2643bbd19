use Rattle.std.proofs.Common.{◌≡◌, [], ◌∷◌, map, sym, ap, ◌∙◌, subst}
use Rattle.std.proofs.lemmas.Result.{err_from_is_err_and}
use Rattle.std.proofs.lemmas.List.{map-append}
use Rattle.ct_sorts.specs.Declarations.{Declarations, Function, with_definition}
use Rattle.ct_sorts.specs.Grown.{Extends}
use Rattle.ct_sorts.specs.Lengths.{Lengths}
use Rattle.ct_sorts.specs.Marks.{cut}
use Rattle.ct_formulas.specs.TreeFormula.{formula_of}
use Rattle.ct_stack.proofs.define.add_definition.Goals as goal

pub returns-in_err-declare_definition-clause-refused : goal.returns-in_err-declare_definition-clause-refused
returns-in_err-declare_definition-clause-refused c =
    let p = err_from_is_err_and c.from_residual.result c.from_residual.ensures.1 in
    rw (p.1, p.2) c.in_err-declare_definition.ensures.refused

pub returns-in-Ok-clause-ok : goal.returns-in-Ok-clause-ok
returns-in-Ok-clause-ok c =
    (c.in_ok-declare_definition.ensures.ok, ap (map formula_of) c.in-Ok.ensures.ok ∙ map-append formula_of c.args.scope.now.bodies (c.args.definition.body ∷ []))

grown : (later old : Declarations) (f : Function) → later ≡ with_definition old f → Extends (with_definition old f) old → Extends later old
grown later old f e more = subst (λ (d : Declarations). Extends d old) (sym e) more

pub cut_to-requires : goal.cut_to-requires
cut_to-requires c = record { can_cut = c.mark-before.ensures.lasting c.declare_definition.new.sig (grown c.declare_definition.new.sig c.args.scope.now.sig (record { name = c.args.name; args = c.args.definition.args.items; result = c.args.definition.result }) c.in_ok-declare_definition.ensures.ok (c.growth.ensures.definition c.args.scope.now.sig (record { name = c.args.name; args = c.args.definition.args.items; result = c.args.definition.result }))) }

pub returns-in-Err-clause-unchanged : goal.returns-in-Err-clause-unchanged
returns-in-Err-clause-unchanged c =
    (c.cut_to.ensures.cut ∙ ap (λ (m : Lengths). cut c.declare_definition.new.sig m) c.mark-before.ensures.lengths ∙ c.growth.ensures.cut c.declare_definition.new.sig c.args.scope.now.sig (grown c.declare_definition.new.sig c.args.scope.now.sig (record { name = c.args.name; args = c.args.definition.args.items; result = c.args.definition.result }) c.in_ok-declare_definition.ensures.ok (c.growth.ensures.definition c.args.scope.now.sig (record { name = c.args.name; args = c.args.definition.args.items; result = c.args.definition.result }))), c.in-Err.ensures.unchanged)
