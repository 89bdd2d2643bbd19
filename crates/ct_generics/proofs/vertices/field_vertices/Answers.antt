use Rattle.std.proofs.Common.{◌≡◌, ◌⊎◌, Bool, List, [], map, Some, slice_get, if◌then◌else◌, sym, ap, subst, ◌∙◌}
use Rattle.std.specs.List.{AllZip}
use Rattle.ct_lemmas.proofs.Options.{IfOk-map}
use Rattle.ct_generics.specs.declared.kind.Kind.{Kind}
use Rattle.ct_generics.specs.Expression.{Expression, substitute}
use Rattle.ct_generics.specs.Nodes.{Stands}
use Rattle.ct_generics.specs.Reach.{StandsIn, fields_by_kind}
use Rattle.ct_generics.specs.Reached.{StandsAt}
use Rattle.ct_generics.proofs.vertices.field_vertices.Goals as goal

pub returns-then-has_fields-clause-fields : goal.returns-then-has_fields-clause-fields
returns-then-has_fields-clause-fields c =
    let kind = c.args.stored.now.kind in
    let has : (rows : List (List Expression)) → fields_by_kind kind rows ≡ rows = λ rows. c.has_fields.ensures.fields rows ∙ ap (λ (b : Bool). if b then rows else []) c.if-has_fields.true in
    IfOk-map c.image_vertices.result _ _ (λ ctors known head es stored stand.
    let rows = map (map (substitute es)) head.ctors in
    subst (λ (all : List (List Expression)). AllZip (AllZip (StandsAt c.image_vertices.new.table c.image_vertices.new.ids)) ctors all) (sym (ap (λ (k : Kind). fields_by_kind k rows) stored.kind_is ∙ has rows)) (known head es stored stand)) c.image_vertices.ensures.fields

pub returns-then-has_fields-clause-only : goal.returns-then-has_fields-clause-only
returns-then-has_fields-clause-only c =
    let kind = c.args.stored.now.kind in
    let has : (rows : List (List Expression)) → fields_by_kind kind rows ≡ rows = λ rows. c.has_fields.ensures.fields rows ∙ ap (λ (b : Bool). if b then rows else []) c.if-has_fields.true in
    IfOk-map c.image_vertices.result _ _ (λ ctors known head es i id stored stand at.
    let rows = map (map (substitute es)) head.ctors in
    subst (λ (all : List (List Expression)). (slice_get c.args.ids.now i ≡ Some id) ⊎ ((f : Expression) × Stands c.image_vertices.new.table id.0 f × StandsIn all f)) (sym (ap (λ (k : Kind). fields_by_kind k rows) stored.kind_is ∙ has rows)) (known head es i id stored stand at)) c.image_vertices.ensures.only
