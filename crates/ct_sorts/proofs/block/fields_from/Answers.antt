use Rattle.std.proofs.Common.{◌≡◌, ℕ, ◌+◌, ◌<◌, ◌≤◌, List, length, ◌∙◌, ap, arith}
use Rattle.ct_generics.specs.declared.nodes.ExprId.{ExprId}
use Rattle.ct_generics.specs.Denoted.{declared_of}
use Rattle.ct_sorts.proofs.OwnPushLemmas.{fields_all, fields_more, fields_none, next_within}
use Rattle.ct_sorts.proofs.block.fields_from.Goals as goal

pub loop-i-init : goal.loop-i-init
loop-i-init c = fields_none (declared_of c.args.generics.now).heads c.args.table.now c.args.first c.new-fields.result.items c.new-fields.ensures.items

pub get-id-requires : goal.get-id-requires
get-id-requires c = record { within = omega (arith, c.loop-i-test.true, c.len-i-end.ensures.len, ap (λ (xs : List ExprId). length xs) c.loop-i.invariant.sorts_same) }

pub push_rows-requires-clause-declared : goal.push_rows-requires-clause-declared
push_rows-requires-clause-declared c = c.requires.declared

pub push_rows-requires-clause-within : goal.push_rows-requires-clause-within
push_rows-requires-clause-within c = next_within (declared_of c.args.generics.now).heads c.args.table.now c.loop-i.table c.args.first c.loop-i.i c.loop-i.fields.items c.get-id.result c.loop-i.invariant c.requires.stand c.get-id.ensures.value

pub returns-in_err-push_rows-clause-sorts : goal.returns-in_err-push_rows-clause-sorts
returns-in_err-push_rows-clause-sorts c = c.loop-i.invariant.sorts_same

pub returns-in_err-push_rows-clause-counts : goal.returns-in_err-push_rows-clause-counts
returns-in_err-push_rows-clause-counts c = c.loop-i.invariant.counts_same

pub returns-in_err-push_rows-clause-stay : goal.returns-in_err-push_rows-clause-stay
returns-in_err-push_rows-clause-stay c = λ n x at. c.push_rows.ensures.stay n x (c.loop-i.invariant.stay n x at)

pub loop-i-preserved : goal.loop-i-preserved
loop-i-preserved c =
    fields_more (declared_of c.args.generics.now).heads c.args.table.now c.loop-i.table c.push_rows.new.expressions c.args.first c.loop-i.i c.loop-i.fields.items c.push_rows.new.fields.items c.get-id.result c.loop-i.invariant c.get-id.ensures.value
    c.in_ok-push_rows.ensures.ok c.push_rows.ensures.stay

pub returns-clause-ok : goal.returns-clause-ok
returns-clause-ok c = λ sorts stand. fields_all (declared_of c.args.generics.now).heads c.args.table.now c.loop-i.table c.args.first c.loop-i.i c.loop-i.fields.items c.loop-i.invariant (omega (arith, c.loop-i-test.false, c.len-i-end.ensures.len)) sorts stand

pub returns-clause-sorts : goal.returns-clause-sorts
returns-clause-sorts c = c.loop-i.invariant.sorts_same

pub returns-clause-counts : goal.returns-clause-counts
returns-clause-counts c = c.loop-i.invariant.counts_same

pub returns-clause-stay : goal.returns-clause-stay
returns-clause-stay c = c.loop-i.invariant.stay
