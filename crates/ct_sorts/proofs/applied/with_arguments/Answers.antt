use Rattle.std.proofs.Common.{◌≡◌, ℕ, ◌<◌, ◌≤◌, ◌+◌, List, length, take, sym, ◌∙◌, ap, arith}
use Rattle.ct_generics.specs.declared.sort_table.SortTable.{SortTable}
use Rattle.ct_generics.specs.Denoted.{sorts_of}
use Rattle.ct_sorts.proofs.AppliedLemmas.{argument_below, argument_within, at_none, under_way_more, whole_row}
use Rattle.ct_sorts.proofs.applied.with_arguments.Goals as goal

pub returns-in_err-id-clause-others : goal.returns-in_err-id-clause-others
returns-in_err-id-clause-others c = c.without_arguments.ensures.others

pub returns-in_err-id-clause-stay : goal.returns-in_err-id-clause-stay
returns-in_err-id-clause-stay c = c.without_arguments.ensures.stay

pub loop-arg-init : goal.loop-arg-init
loop-arg-init c = record {
  others = c.without_arguments.ensures.others;
  stay = c.without_arguments.ensures.stay;
  within = c.in_ok-id.ensures.within;
  stands = at_none (sorts_of c.args.table.now) c.without_arguments.new.table.expressions c.args.g.0 c.in_ok-id.id c.in_ok-id.ensures.ok;
}

pub get-arg-requires : goal.get-arg-requires
get-arg-requires c = record { within = argument_within c.args.table.now c.loop-arg.table c.args.g.0 c.args.args.now c.loop-arg.id c.loop-arg.arg-index c.loop-arg.invariant _ c.loop-arg-test.true c.requires.sorts }

pub with_argument-requires-clause-function : goal.with_argument-requires-clause-function
with_argument-requires-clause-function c = c.loop-arg.invariant.within

pub with_argument-requires-clause-argument : goal.with_argument-requires-clause-argument
with_argument-requires-clause-argument c =
    argument_below c.args.table.now c.loop-arg.table c.args.g.0 c.args.args.now c.loop-arg.id c.loop-arg.arg-index c.loop-arg.invariant _ c.loop-arg-test.true c.requires.standing c.get-arg.result c.get-arg.ensures.value

pub returns-in_err-id-2-clause-others : goal.returns-in_err-id-2-clause-others
returns-in_err-id-2-clause-others c = c.with_argument.ensures.others ∙ ap (λ (x : SortTable). record x { expressions = c.with_argument.new.table.expressions }) c.loop-arg.invariant.others

pub returns-in_err-id-2-clause-stay : goal.returns-in_err-id-2-clause-stay
returns-in_err-id-2-clause-stay c = λ n node at. c.with_argument.ensures.stay n node (c.loop-arg.invariant.stay n node at)

pub loop-arg-preserved : goal.loop-arg-preserved
loop-arg-preserved c =
    under_way_more c.args.table.now c.loop-arg.table c.args.g.0 c.args.args.now c.loop-arg.id c.loop-arg.arg-index c.loop-arg.invariant _ c.loop-arg-test.true c.requires.standing c.get-arg.result c.get-arg.ensures.value
    c.with_argument.new.table c.in_ok-id-2.id c.with_argument.ensures.others c.with_argument.ensures.stay c.in_ok-id-2.ensures.within c.in_ok-id-2.ensures.ok

pub returns-clause-ok : goal.returns-clause-ok
returns-clause-ok c =
    whole_row (sorts_of c.args.table.now) c.loop-arg.table.expressions c.args.g.0 c.args.args.now c.loop-arg.arg-index c.loop-arg.id (omega (arith, c.loop-arg-test.false)) c.loop-arg.invariant.stands

pub returns-clause-others : goal.returns-clause-others
returns-clause-others c = c.loop-arg.invariant.others

pub returns-clause-stay : goal.returns-clause-stay
returns-clause-stay c = c.loop-arg.invariant.stay
