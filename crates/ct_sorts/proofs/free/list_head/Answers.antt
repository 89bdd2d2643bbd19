use Rattle.std.proofs.Common.{◌≡◌, List, [], ◌∷◌, ◌++◌, slice_get, ◌∙◌, ap}
use Rattle.ct_generics.specs.declared.nodes.Node.{Node}
use Rattle.ct_generics.specs.Denoted.{sorts_of}
use Rattle.ct_sorts.specs.Block.{plain_from}
use Rattle.ct_sorts.proofs.StepLemmas.{grown_with, standing_with}
use Rattle.ct_sorts.proofs.free.list_head.Goals as goal

pub push_head-listed-requires-clause-fresh : goal.push_head-listed-requires-clause-fresh
push_head-listed-requires-clause-fresh c = (sorts_of c.args.tables.now.table, c.requires.standing.stand, c.requires.fresh)

pub returns-in-Ok-clause-ok : goal.returns-in-Ok-clause-ok
returns-in-Ok-clause-ok c =
    let t = c.args.tables.now in
    let plain = plain_from c.args.head (c.args.params ∷ []) in
    c.facts.ensures.all.sorts c.forget_counts.new.self (sorts_of t.table ++ plain)
    (c.facts.ensures.all.stay c.push_head-listed.new.table c.forget_counts.new.self (sorts_of t.table ++ plain) (c.in-Ok.ensures.sorts (sorts_of t.table) c.requires.standing.stand) c.forget_counts.ensures.sorts (λ n x at. ap (λ (nodes : List Node). slice_get nodes n) c.forget_counts.ensures.expressions ∙ at))

pub returns-in-Ok-clause-grown : goal.returns-in-Ok-clause-grown
returns-in-Ok-clause-grown c =
    let t = c.args.tables.now in
    let more = c.push_head-listed.ensures.begun (sorts_of t.table) c.requires.standing.stand in
    let stand = c.facts.ensures.all.stay c.push_head-listed.new.table c.forget_counts.new.self (sorts_of t.table ++ more.0) more.1 c.forget_counts.ensures.sorts (λ n x at. ap (λ (nodes : List Node). slice_get nodes n) c.forget_counts.ensures.expressions ∙ at) in
    grown_with c.facts.ensures.all t c.forget_counts.new.self more.0 stand

pub returns-in-Ok-clause-standing : goal.returns-in-Ok-clause-standing
returns-in-Ok-clause-standing c =
    let t = c.args.tables.now in
    let more = c.push_head-listed.ensures.begun (sorts_of t.table) c.requires.standing.stand in
    let stand = c.facts.ensures.all.stay c.push_head-listed.new.table c.forget_counts.new.self (sorts_of t.table ++ more.0) more.1 c.forget_counts.ensures.sorts (λ n x at. ap (λ (nodes : List Node). slice_get nodes n) c.forget_counts.ensures.expressions ∙ at) in
    standing_with c.facts.ensures.all t c.forget_counts.new.self (sorts_of t.table ++ more.0) c.requires.standing stand

pub returns-in-Ok-clause-counted : goal.returns-in-Ok-clause-counted
returns-in-Ok-clause-counted c = c.forget_counts.ensures.counted c.args.tables.now.generics

pub returns-in-Err-clause-grown : goal.returns-in-Err-clause-grown
returns-in-Err-clause-grown c =
    let t = c.args.tables.now in
    let more = c.push_head-listed.ensures.begun (sorts_of t.table) c.requires.standing.stand in
    let stand = c.facts.ensures.all.stay c.push_head-listed.new.table c.forget_counts.new.self (sorts_of t.table ++ more.0) more.1 c.forget_counts.ensures.sorts (λ n x at. ap (λ (nodes : List Node). slice_get nodes n) c.forget_counts.ensures.expressions ∙ at) in
    grown_with c.facts.ensures.all t c.forget_counts.new.self more.0 stand

pub returns-in-Err-clause-standing : goal.returns-in-Err-clause-standing
returns-in-Err-clause-standing c =
    let t = c.args.tables.now in
    let more = c.push_head-listed.ensures.begun (sorts_of t.table) c.requires.standing.stand in
    let stand = c.facts.ensures.all.stay c.push_head-listed.new.table c.forget_counts.new.self (sorts_of t.table ++ more.0) more.1 c.forget_counts.ensures.sorts (λ n x at. ap (λ (nodes : List Node). slice_get nodes n) c.forget_counts.ensures.expressions ∙ at) in
    standing_with c.facts.ensures.all t c.forget_counts.new.self (sorts_of t.table ++ more.0) c.requires.standing stand

pub returns-in-Err-clause-counted : goal.returns-in-Err-clause-counted
returns-in-Err-clause-counted c = c.forget_counts.ensures.counted c.args.tables.now.generics
