use Rattle.std.proofs.Common.{◌≡◌, Bool, List, [], map, if◌then◌else◌, sym, ap, subst, ◌∙◌}
use Rattle.std.specs.List.{AllZip}
use Rattle.ct_lemmas.proofs.Options.{IfOk-map}
use Rattle.ct_generics.specs.declared.kind.Kind.{Kind}
use Rattle.ct_generics.specs.Expression.{Expression, substitute}
use Rattle.ct_generics.specs.Nodes.{StandFor}
use Rattle.ct_generics.specs.Reach.{fields_by_kind}
use Rattle.ct_generics.proofs.rows.rows_with.Goals as goal

pub returns-then-has_fields-clause-rows : goal.returns-then-has_fields-clause-rows
returns-then-has_fields-clause-rows c =
    let kind = c.args.stored.now.kind in
    let has : (rows : List (List Expression)) → fields_by_kind kind rows ≡ rows = λ rows. c.has_fields.ensures.fields rows ∙ ap (λ (b : Bool). if b then rows else []) c.if-has_fields.true in
    IfOk-map c.image_rows.result _ _ (λ all known head es stored stand.
    let rows = map (map (substitute es)) head.ctors in
    subst (λ (wanted : List (List Expression)). AllZip (StandFor c.image_rows.new.table) all wanted) (sym (ap (λ (k : Kind). fields_by_kind k rows) stored.kind_is ∙ has rows)) (known head es stored stand)) c.image_rows.ensures.rows
