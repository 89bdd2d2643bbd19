use Rattle.std.proofs.Common.{sym, ◌∙◌}
use Rattle.std.proofs.lemmas.Bool.{true≢false}
use Rattle.ct_generics.proofs.TaskLemmas.{begun-given, begun-missing}
use Rattle.ct_generics.proofs.tasks.if_missing.Goals as goal

pub returns-then-contains : goal.returns-then-contains
returns-then-contains c = record { begun = λ stack. begun-given c.args.table.now c.args.sorts.now c.args.id stack (c.contains.ensures.among.0 c.if-contains.true) }

pub returns : goal.returns
returns c =
    record { begun = λ stack. begun-missing c.args.table.now c.args.sorts.now c.args.id stack c.len-single.ensures.single (λ i at. true≢false (sym (c.contains.ensures.among.1 (i, at)) ∙ c.if-contains.false)) }
