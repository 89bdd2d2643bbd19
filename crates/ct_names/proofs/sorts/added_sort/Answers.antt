use Rattle.std.proofs.Common.{◌≡◌, [], ◌∷◌, Err, sym, ◌∙◌, ap, subst}
use Rattle.ct_generics.specs.Expression.{Expression}
use Rattle.ct_sorts.specs.Declarations.{Declarations}
use Rattle.ct_sorts.specs.Instances.{HasNoRoom}
use Rattle.ct_names.specs.Needs.{Reaches, as_they_are}
use Rattle.ct_names.specs.Outcome.{missing}
use Rattle.ct_names.specs.Sorts.{sort_there}
use Rattle.ct_names.proofs.AddLemmas.{instance_value, instance_reaches, instance_missing, origin_inside}
use Rattle.ct_names.proofs.sorts.added_sort.Goals as goal

pub returns-in-Ok-clause-value : goal.returns-in-Ok-clause-value
returns-in-Ok-clause-value c = λ e is. instance_value c.args.sig.now c.instance.new.self c.args.written.now c.in-Ok.sort e c.sorts-in-Ok.ensures.consistent c.in-Ok.ensures.ok is

pub returns-in-Ok-clause-reaches : goal.returns-in-Ok-clause-reaches
returns-in-Ok-clause-reaches c = λ e is. instance_reaches c.args.sig.now c.instance.new.self c.args.written.now c.in-Ok.sort e c.additions.ensures.same c.sorts.ensures.consistent c.in-Ok.ensures.ok is

pub returns-in-Ok-clause-inside : goal.returns-in-Ok-clause-inside
returns-in-Ok-clause-inside c =
    let ok = c.in-Ok.ensures.ok in
    origin_inside c.instance.new.self c.sorts-in-Ok.ensures.consistent c.in-Ok.sort ok.0 ok.3

-- a refusal changes nothing
pub returns-in-Err-Refused-clause-value : goal.returns-in-Err-Refused-clause-value
returns-in-Err-Refused-clause-value c = λ e is.
    let d = c.args.sig.now in
    let full = c.instance.ensures.refused c.in-Err-Refused.field-0-0 (c.in-Err-Refused.is ∙ ap Err c.in-Err-Refused.field-0-is) in
    let found = instance_missing d c.args.written.now c.in-Err-Refused.field-0-0 e full is in
    subst (λ (x : Declarations). (f : Expression) × HasNoRoom x (f ∷ []) × (sort_there x e ≡ Err (missing f))) (sym c.in-Err-Refused.ensures.unchanged) (e, found.0, found.1)

pub returns-in-Err-Refused-clause-reaches : goal.returns-in-Err-Refused-clause-reaches
returns-in-Err-Refused-clause-reaches c = λ e is. subst (Reaches (λ (x : Declarations). sort_there x e) c.args.sig.now) (sym c.in-Err-Refused.ensures.unchanged) (as_they_are c.args.sig.now)

pub returns-in-Err-NoMemory-clause-reaches : goal.returns-in-Err-NoMemory-clause-reaches
returns-in-Err-NoMemory-clause-reaches c = λ e is. subst (Reaches (λ (x : Declarations). sort_there x e) c.args.sig.now) (sym c.in-Err-NoMemory.ensures.unchanged) (as_they_are c.args.sig.now)
