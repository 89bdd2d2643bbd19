use Rattle.std.proofs.Common.{Some, Ok, Err, slice_get, sym, subst, arith}
use Rattle.ct_sexpr.specs.View.{expression_of, expressions_of}
use Rattle.ct_readback.specs.ItemRead.{IsItemRead}
use Rattle.ct_readback.specs.ModelReads.{items_of, departs, IsRefusedAt}
use Rattle.ct_readback.proofs.DueLemmas.{due_by}
use Rattle.ct_readback.proofs.OutcomeLemmas.{form_parts, item_at, missing_refused, item_refused}
use Rattle.ct_readback.proofs.model.table_at.Goals as goal

pub returns-then-place-items-clause-refused : goal.returns-then-place-items-clause-refused
returns-then-place-items-clause-refused c = λ at code is.
    let d = c.args.sig.now in
    let items = c.args.items.now in
    let place = c.args.place in
    let due = due_by c.args.off c.args.name.now c.args.args.now c.args.s in
    let parts = form_parts place departs at code is in (
      parts.0,
      subst (λ k. IsRefusedAt d (Some (Some due)) (slice_get (items_of (expressions_of items)) place) k) (sym parts.1) (missing_refused d due items place (omega (arith, c.if-place-items.true))),
    )

pub returns-in-Ok-Ok-clause-read : goal.returns-in-Ok-Ok-clause-read
returns-in-Ok-Ok-clause-read c =
    let d = c.args.sig.now in
    let g = c.read_item.new.graph in
    let items = c.args.items.now in
    let place = c.args.place in
    let due = due_by c.args.off c.args.name.now c.args.args.now c.args.s in
    let x = c.index-items-place.result in
    let read : IsItemRead d g due (expression_of x) (Ok c.in-Ok-Ok.table) = rw c.in-Ok-Ok.field-0-is at c.in-Ok-Ok.ensures.read in
    (expression_of x, read.0, item_at items place x (omega (arith, c.if-place-items.false)) c.index-items-place.is, read.1, read.2)

pub returns-in-Ok-Err-clause-refused : goal.returns-in-Ok-Err-clause-refused
returns-in-Ok-Err-clause-refused c = λ at code is.
    let d = c.args.sig.now in
    let g = c.read_item.new.graph in
    let items = c.args.items.now in
    let place = c.args.place in
    let due = due_by c.args.off c.args.name.now c.args.args.now c.args.s in
    let x = c.index-items-place.result in
    let parts = form_parts place c.in-Ok-Err.code at code is in
    let read : IsItemRead d g due (expression_of x) (Err c.in-Ok-Err.code) = rw c.in-Ok-Err.field-0-is at c.in-Ok-Err.ensures.read in (
      parts.0,
      subst (λ k. IsRefusedAt d (Some (Some due)) (slice_get (items_of (expressions_of items)) place) k) (sym parts.1)
          (item_refused d g due items place x c.in-Ok-Err.code (omega (arith, c.if-place-items.false)) c.index-items-place.is read),
    )
