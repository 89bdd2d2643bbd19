use Rattle.std.proofs.Common.{◌≡◌, ℕ, ◌+◌, ◌<◌, ◌≤◌, ◌++◌, List, [], ◌∷◌, length, take, refl, sym, ◌∙◌, ap, ap₂, subst, subst₂, arith}
use Rattle.std.specs.List.{flat_map}
use Rattle.std.proofs.lemmas.List.{append_assoc, append-nil, take_all}
use Rattle.ct_generics.specs.declared.nodes.ExprId.{ExprId}
use Rattle.ct_generics.specs.Denoted.{declared_of}
use Rattle.ct_generics.specs.Nodes.{StandFor}
use Rattle.ct_generics.specs.Reach.{fields_of}
use Rattle.ct_generics.specs.Add.{field_sorts}
use Rattle.ct_sorts.proofs.AdmitLemmas.{flat_map-take_more}
use Rattle.ct_sorts.proofs.OwnPushLemmas.{rows_stand}
use Rattle.ct_sorts.proofs.block.push_rows.Goals as goal

pub field_rows-requires-clause-declared : goal.field_rows-requires-clause-declared
field_rows-requires-clause-declared c = (declared_of c.args.generics.now, c.requires.declared)

pub loop-row-init : goal.loop-row-init
loop-row-init c = sym (append-nil c.args.fields.now.items)

pub loop-row-preserved : goal.loop-row-preserved
loop-row-preserved c =
    c.in_ok-extend_from_slice-in-Ok.ensures.items
    ∙ ap₂ (λ (xs ys : List ExprId). xs ++ ys) c.loop-row.invariant c.as_slice.ensures.value
    ∙ append_assoc c.args.fields.now.items (flat_map (λ (r : List ExprId). r) (take c.loop-row.row-index c.as_slice-row-items.result.now)) c.row-item.result
    ∙ ap (λ (xs : List ExprId). c.args.fields.now.items ++ xs) (sym (flat_map-take_more (λ (r : List ExprId). r) c.as_slice-row-items.result.now c.loop-row.row-index c.row-item.result c.loop-row-test.true c.row-item.is))

pub returns-after-loop-row-clause-ok : goal.returns-after-loop-row-clause-ok
returns-after-loop-row-clause-ok c = λ e stands.
    let whole = ap (λ (xs : List (List ExprId)). c.args.fields.now.items ++ flat_map (λ (r : List ExprId). r) xs) (take_all c.loop-row.row-index c.as_slice-row-items.result.now c.loop-row-test.false ∙ c.as_slice-row-items.ensures.value) in
    (flat_map (λ (r : List ExprId). r) c.in-Ok.rows, c.loop-row.invariant ∙ whole, rows_stand c.field_rows.new.table c.in-Ok.rows (fields_of (declared_of c.args.generics.now).heads e) (c.in-Ok.ensures.rows (declared_of c.args.generics.now) e c.requires.declared stands))
