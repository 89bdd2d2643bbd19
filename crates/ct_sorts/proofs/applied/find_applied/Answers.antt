use Rattle.std.proofs.Common.{◌≡◌, ℕ, List, Some, slice_get, sym, ◌∙◌}
use Rattle.ct_generics.specs.Denoted.{sorts_of}
use Rattle.ct_generics.specs.Expression.{named, with_args}
use Rattle.ct_sorts.proofs.InstanceLemmas.{origin_at}
use Rattle.ct_sorts.proofs.ListedLemmas.{listed, number_of}
use Rattle.ct_sorts.proofs.ResultLemmas.{if_some, if_none}
use Rattle.ct_sorts.proofs.applied.find_applied.Goals as goal

pub returns-in-Some-clause-some : goal.returns-in-Some-clause-some
returns-in-Some-clause-some c =
    let t = c.args.tables.now in
    if_some c.number_among.result (λ s at es zipped. origin_at t s.0 c.in-Some.id (with_args (named c.args.g.0) es) c.requires.standing at (c.in-Some.ensures.some es zipped)) c.number_among.ensures.some

pub returns-in-Some-clause-none : goal.returns-in-Some-clause-none
returns-in-Some-clause-none c =
    let t = c.args.tables.now in
    if_none c.number_among.result (λ absent es s zipped at. absent s (listed t.table.expressions c.len.ensures.single t.table.sorts (sorts_of t.table) s c.in-Some.id (with_args (named c.args.g.0) es) c.requires.standing at (c.in-Some.ensures.some es zipped))) c.number_among.ensures.none

pub returns-in-None-clause-none : goal.returns-in-None-clause-none
returns-in-None-clause-none c =
    let t = c.args.tables.now in
    λ es s zipped at.
    let own = number_of t.table.expressions c.len.ensures.single t.table.sorts (sorts_of t.table) s (with_args (named c.args.g.0) es) c.requires.standing at in
    c.in-None.ensures.none es own.0.0 zipped own.2
