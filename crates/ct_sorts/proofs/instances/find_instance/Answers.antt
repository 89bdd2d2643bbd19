use Rattle.std.proofs.Common.{◌≡◌, ◌↔◌, ℕ, List, Ok, Err, Result, Some, slice_get, sym, ◌∙◌, ap, subst}
use Rattle.ct_generics.specs.declared.nodes.ExprId.{ExprId}
use Rattle.ct_generics.specs.Denoted.{declared_of, sorts_of}
use Rattle.ct_generics.specs.Expression.{Expression}
use Rattle.ct_generics.specs.Nodes.{Stands}
use Rattle.ct_sorts.proofs.InstanceLemmas.{ok_not_err, one_ok, origin_at}
use Rattle.ct_sorts.proofs.ListedLemmas.{listed, number_of}
use Rattle.ct_sorts.proofs.ResultLemmas.{if_some, if_none, of_none, of_some}
use Rattle.ct_sorts.proofs.instances.find_instance.Goals as goal

pub resolve-requires : goal.resolve-requires
resolve-requires c = record { declared = (declared_of c.args.tables.now.generics, c.requires.tabled.declared) }

pub returns-in-Err-Refused-clause-none : goal.returns-in-Err-Refused-clause-none
returns-in-Err-Refused-clause-none c = λ e s is at. ok_not_err e c.in-Err-Refused.field-0-0 (sym is ∙ c.in-Err-Refused.ensures.refused c.in-Err-Refused.field-0-0 (declared_of c.args.tables.now.generics) (ap Err c.in-Err-Refused.field-0-is) c.requires.tabled.declared)

pub returns-in-Err-clause-err : goal.returns-in-Err-clause-err
returns-in-Err-clause-err c = c.sig_error.ensures.memory.1 c.in-Err.ensures.err

pub returns-in-Ok-None-clause-none : goal.returns-in-Ok-None-clause-none
returns-in-Ok-None-clause-none c =
    let t = c.args.tables.now in
    let own = c.in-Ok.ensures.ok (declared_of t.generics) c.requires.tabled.declared in
    λ e s is at.
    let stands = subst (Stands c.resolve.new.table c.in-Ok.id.0) (one_ok own.0 e (sym own.1 ∙ is)) own.2 in
    let there = number_of t.table.expressions c.len.ensures.single t.table.sorts (sorts_of t.table) s e c.requires.tabled.stand at in
    of_none c.in-Ok-None.field-0 c.in-Ok-None.field-0-is c.in-Ok-None.ensures.none there.0.0 e stands there.2

pub returns-clause-found : goal.returns-clause-found
returns-clause-found c =
    let t = c.args.tables.now in
    let own = c.in-Ok.ensures.ok (declared_of t.generics) c.requires.tabled.declared in
    if_some c.number_among.result (λ s at. (own.0, own.1, origin_at t s.0 c.in-Ok-Some.id own.0 c.requires.tabled.stand at (of_some (λ (n : ExprId). (e : Expression) → Stands c.resolve.new.table c.in-Ok.id.0 e → Stands t.table.expressions n.0 e) c.in-Ok-Some.field-0 c.in-Ok-Some.id c.in-Ok-Some.field-0-is c.in-Ok-Some.ensures.found own.0 own.2))) c.number_among.ensures.some

pub returns-clause-none : goal.returns-clause-none
returns-clause-none c =
    let t = c.args.tables.now in
    let own = c.in-Ok.ensures.ok (declared_of t.generics) c.requires.tabled.declared in
    if_none c.number_among.result (λ absent e s is at.
    let stands = subst (Stands c.resolve.new.table c.in-Ok.id.0) (one_ok own.0 e (sym own.1 ∙ is)) own.2 in
    absent s (listed t.table.expressions c.len.ensures.single t.table.sorts (sorts_of t.table) s c.in-Ok-Some.id e c.requires.tabled.stand at (of_some (λ (n : ExprId). (e : Expression) → Stands c.resolve.new.table c.in-Ok.id.0 e → Stands t.table.expressions n.0 e) c.in-Ok-Some.field-0 c.in-Ok-Some.id c.in-Ok-Some.field-0-is c.in-Ok-Some.ensures.found e stands))) c.number_among.ensures.none
