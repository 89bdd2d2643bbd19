use Rattle.std.proofs.Common.{Ok, sym, subst, ◌∙◌}
use Rattle.std.proofs.lemmas.Result.{err_from_is_err_and}
use Rattle.ct_scope.specs.Values.{MakesValue}
use Rattle.ct_scope.specs.declared.values.ListedValue.{ListedValue}
use Rattle.ct_scope.specs.Awaiting.{IsNextField}
use Rattle.ct_scope.proofs.ValueLemmas.{of_value, value_known}
use Rattle.ct_scope.proofs.AwaitLemmas.{out_of_memory, next_fits, next_there, under_way_argued, under_way_more}
use Rattle.ct_scope.proofs.open_value.go_on.Goals as goal

pub next_field-requires-clause-declared : goal.next_field-requires-clause-declared
next_field-requires-clause-declared c = c.requires.under_way.2.1.declared

pub next_field-requires-clause-entries : goal.next_field-requires-clause-entries
next_field-requires-clause-entries c = let built = c.requires.under_way.2.1.built in (built.0, built.2)

pub returns-in_default-clause-step : goal.returns-in_default-clause-step
returns-in_default-clause-step c = λ old whole h. c.make_open.ensures.step old whole h

pub returns-in_err-next-clause-step : goal.returns-in_err-next-clause-step
returns-in_err-next-clause-step c = λ old whole h.
    let p = err_from_is_err_and c.from_residual.result c.from_residual.ensures.1 in
    rw (p.1, p.2) (out_of_memory c.args.sig.now old whole c.args.table.now c.args.below.now.items c.args.top _ c.in_err-next.ensures.err c.requires.kept h)

pub returns-in-Some-known_value-clause-step : goal.returns-in-Some-known_value-clause-step
returns-in-Some-known_value-clause-step c = λ old whole h.
    let d = c.args.sig.now in
    let table = c.args.table.now in
    let field = c.in-Some.field in
    let term = c.in-Some-known_value.term in
    let known = c.requires.right field term (sym c.known_value.ensures.value ∙ c.in-Some-known_value.is) in
    rw c.in_ok-next.ensures.added
    (under_way_argued d old whole table c.args.below.now.items c.args.top field term h c.in-Some.ensures.next
    (of_value d field.sort field.number (λ v. MakesValue d table table v (Ok term)) known.0 known.1 (value_known d table term known.0 c.requires.kept known.2)))

pub open_value-requires-clause-listable : goal.open_value-requires-clause-listable
open_value-requires-clause-listable c =
    let h = c.requires.under_way.2 in
    (next_fits c.args.sig.now h.0 c.args.table.now c.args.top c.in-Some.field h.1 c.in-Some.ensures.next).0

pub open_value-requires-clause-few : goal.open_value-requires-clause-few
open_value-requires-clause-few c =
    let h = c.requires.under_way.2 in
    (next_fits c.args.sig.now h.0 c.args.table.now c.args.top c.in-Some.field h.1 c.in-Some.ensures.next).1

pub open_value-requires-clause-there : goal.open_value-requires-clause-there
open_value-requires-clause-there c =
    let h = c.requires.under_way.2 in
    next_there c.args.sig.now h.0 c.args.table.now c.args.top c.in-Some.field h.1 c.in-Some.ensures.next

pub returns-in_err-next-2-clause-step : goal.returns-in_err-next-2-clause-step
returns-in_err-next-2-clause-step c = λ old whole h.
    let p = err_from_is_err_and c.from_residual-in_err-next-2.result c.from_residual-in_err-next-2.ensures.1 in
    rw (p.1, p.2) (out_of_memory c.args.sig.now old whole c.args.table.now c.args.below.now.items c.args.top _ c.in_err-next-2.ensures.err c.requires.kept h)

pub returns-in_err-push-clause-step : goal.returns-in_err-push-clause-step
returns-in_err-push-clause-step c = λ old whole h.
    let p = err_from_is_err_and c.from_residual-in_err-push.result c.from_residual-in_err-push.ensures.1 in
    rw p.1 (out_of_memory c.args.sig.now old whole c.args.table.now c.args.below.now.items c.args.top p.0 p.2 c.requires.kept h)

pub returns-clause-step : goal.returns-clause-step
returns-clause-step c = λ old whole h.
    let d = c.args.sig.now in
    let table = c.args.table.now in
    let next = c.in_ok-next-2.next in
    let opened = c.in_ok-next-2.ensures.opened table in
    under_way_more d old whole table c.args.below.now.items c.push.new.self.items c.args.top next c.in_ok-push.ensures.items h
    (subst (λ (x : ListedValue). IsNextField d c.args.top x) (sym opened.0) c.in-Some.ensures.next) opened.1
