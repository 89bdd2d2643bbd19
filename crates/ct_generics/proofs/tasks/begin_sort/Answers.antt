use Rattle.std.proofs.Common.{sym, ◌∙◌}
use Rattle.std.proofs.lemmas.Bool.{true≢false}
use Rattle.ct_generics.proofs.TaskLemmas.{begun-there, begun-new}
use Rattle.ct_generics.proofs.tasks.begin_sort.Goals as goal

pub returns-then-contains-clause-begun : goal.returns-then-contains-clause-begun
returns-then-contains-clause-begun c = begun-there c.args.table.now c.args.sorts.now c.args.id c.args.tasks.now.items (c.contains.ensures.among.0 c.if-contains.true)

pub returns-clause-begun : goal.returns-clause-begun
returns-clause-begun c =
    begun-new c.args.table.now c.args.sorts.now c.args.id c.args.tasks.now.items c.push.new.self.items c.push-2.new.self.items c.len-single.ensures.single (λ i at. true≢false (sym (c.contains.ensures.among.1 (i, at)) ∙ c.if-contains.false)) c.in_ok-push.ensures.items c.in_ok-push-2.ensures.items
