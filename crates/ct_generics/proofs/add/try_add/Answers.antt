use Rattle.std.proofs.Common.{List, [], ◌++◌, Option, sym, ap, subst, ◌∙◌}
use Rattle.std.proofs.lemmas.List.{append-nil, append_assoc}
use Rattle.std.proofs.lemmas.Result.{err_from_is_err_and}
use Rattle.ct_generics.specs.declared.error.GenericError.TheVariants.{Refused}
use Rattle.ct_generics.specs.declared.nodes.ExprId.{ExprId}
use Rattle.ct_generics.specs.Tasks.{IsNext}
use Rattle.ct_generics.proofs.NodeLemmas.{Stay-trans}
use Rattle.ct_generics.proofs.OutcomeLemmas.{err_cast}
use Rattle.ct_generics.proofs.AddingLemmas.{under_way-start, under_way-next, under_way-made, under_way-refused, under_way-end}
use Rattle.ct_generics.proofs.add.try_add.Goals as goal

pub loop-tasks-init : goal.loop-tasks-init
loop-tasks-init c =
    let table = c.args.table.now in
    record {
      under_way = λ hs before es stored sorts stand. under_way-start hs c.args.room es before table.expressions table.sorts c.args.roots.now c.new-tasks.result.items c.push_sorts.new.tasks.items c.new-tasks.ensures.items c.in_ok-push_sorts.ensures.pushed sorts stand;
      begun = ([], sym (append-nil table.sorts));
      stay = λ n x at. at;
      counted = c.requires.counted;
    }

pub next_made-requires-clause-sorts : goal.next_made-requires-clause-sorts
next_made-requires-clause-sorts c =
    let way = c.loop-tasks.invariant.under_way c.requires.stored.0 c.requires.sorts.0 c.requires.sorts.1 c.requires.stored.1 c.requires.sorts.2 c.requires.sorts.3 in
    (c.requires.sorts.0 ++ way.added, way.sorts)

pub next_made-requires-clause-tasks : goal.next_made-requires-clause-tasks
next_made-requires-clause-tasks c =
    let way = c.loop-tasks.invariant.under_way c.requires.stored.0 c.requires.sorts.0 c.requires.sorts.1 c.requires.stored.1 c.requires.sorts.2 c.requires.sorts.3 in
    (way.todo, way.tasks)

pub make-requires-clause-sort : goal.make-requires-clause-sort
make-requires-clause-sort c =
    let before = c.requires.sorts.0 in
    let table = c.loop-tasks.table in
    let stack = c.loop-tasks.tasks.items in
    let under = c.next_made.new.tasks.items in
    let way = c.loop-tasks.invariant.under_way c.requires.stored.0 before c.requires.sorts.1 c.requires.stored.1 c.requires.sorts.2 c.requires.sorts.3 in
    let next = subst (λ (o : Option ExprId). IsNext table.expressions table.sorts stack o under) c.in-Some.is c.in_ok-next.ensures.next in
    let is = under_way-next c.requires.stored.0 c.args.room c.requires.sorts.1 before table.expressions table.sorts stack c.loop-tasks.left way c.in-Some.next under next in
    (before ++ way.added, is.sort, way.sorts, is.stands, is.absent)

pub returns-in_err-left-clause-refused : goal.returns-in_err-left-clause-refused
returns-in_err-left-clause-refused c =
    let p = err_from_is_err_and c.from_residual-in_err-left.result c.from_residual-in_err-left.ensures.1 in
    let table = c.loop-tasks.table in
    let stack = c.loop-tasks.tasks.items in
    let under = c.next_made.new.tasks.items in
    let next = subst (λ (o : Option ExprId). IsNext table.expressions table.sorts stack o under) c.in-Some.is c.in_ok-next.ensures.next in
    rw (p.1, p.2) (λ n hs before es added err stored sorts stand.
    let way = c.loop-tasks.invariant.under_way hs before es stored sorts stand in
    let is = under_way-next hs c.args.room es before table.expressions table.sorts stack c.loop-tasks.left way c.in-Some.next under next in (
      (c.in_err-left.ensures.refused n hs is.sort (err_cast _ (Refused n) err) stored is.stands).0,
      under_way-refused hs c.args.room es before table.expressions table.sorts stack c.loop-tasks.left way c.in-Some.next under next (λ e stands. (c.in_err-left.ensures.refused n hs e (err_cast _ (Refused n) err) stored stands).1) added,
    ))

pub loop-tasks-preserved : goal.loop-tasks-preserved
loop-tasks-preserved c =
    let table = c.loop-tasks.table in
    let new = c.make.new.table in
    let stack = c.loop-tasks.tasks.items in
    let under = c.next_made.new.tasks.items in
    let next = subst (λ (o : Option ExprId). IsNext table.expressions table.sorts stack o under) c.in-Some.is c.in_ok-next.ensures.next in
    let first = c.loop-tasks.invariant.begun in
    let second = c.make.ensures.begun in
    record {
      under_way = λ hs before es stored sorts stand.
          let way = c.loop-tasks.invariant.under_way hs before es stored sorts stand in
          under_way-made hs c.args.room es before table.expressions table.sorts stack c.loop-tasks.left way c.in-Some.next under c.make.new.tasks.items new.expressions new.sorts c.in_ok-left.left next (λ e later stands are. c.in_ok-left.ensures.made hs (before ++ way.added) e later stored way.sorts stands are);
      begun = (first.0 ++ second.0, second.1 ∙ ap (λ (ids : List ExprId). ids ++ second.0) first.1 ∙ append_assoc c.args.table.now.sorts first.0 second.0);
      stay = Stay-trans c.args.table.now.expressions table.expressions new.expressions c.loop-tasks.invariant.stay c.make.ensures.stay;
      counted = c.make.ensures.counted;
    }

pub returns-clause-ok : goal.returns-clause-ok
returns-clause-ok c hs before es stored sorts stand =
    let table = c.loop-tasks.table in
    let stack = c.loop-tasks.tasks.items in
    let under = c.next_made.new.tasks.items in
    let way = c.loop-tasks.invariant.under_way hs before es stored sorts stand in
    let next = subst (λ (o : Option ExprId). IsNext table.expressions table.sorts stack o under) c.in_default.is c.in_ok-next.ensures.next in
    under_way-end hs c.args.room es before table.expressions table.sorts stack c.loop-tasks.left way under next
