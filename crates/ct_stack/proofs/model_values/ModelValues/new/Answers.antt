use Rattle.std.proofs.Common.{[], sym}
use Rattle.std.proofs.lemmas.List.{append-nil}
use Rattle.ct_stack.proofs.HeldLemmas.{nothing_made}
use Rattle.ct_stack.proofs.model_values.ModelValues.new.Goals as goal

pub returns-clause-values : goal.returns-clause-values
returns-clause-values c =
    record {
      sorted = c.in-Ok.ensures.sorted c.args.sig.now (c.stack_theorems.ensures.hold.from_start c.args.sig.now c.sorts.ensures.consistent);
      valued = c.in-Ok.table;
      first = ([], sym (append-nil c.in-Ok.table));
      found = c.in-Ok-new.ensures.begun c.in-Ok.table;
    }

pub returns-clause-none : goal.returns-clause-none
returns-clause-none c =
    nothing_made c.stack_theorems.ensures.hold c.args.sig.now c.in-Ok.table c.in-Ok.ensures.ok c.len.ensures.ordered
    (c.in-Ok.ensures.sorted c.args.sig.now (c.stack_theorems.ensures.hold.from_start c.args.sig.now c.sorts.ensures.consistent))
