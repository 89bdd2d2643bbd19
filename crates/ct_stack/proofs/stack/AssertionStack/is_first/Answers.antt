use Rattle.std.proofs.Common.{sym, subst}
use Rattle.ct_stack.specs.Levels.{IsBeside}
use Rattle.ct_stack.proofs.MarkLemmas.{first_from, first_to}
use Rattle.ct_stack.proofs.stack.AssertionStack.is_first.Goals as goal

pub is_start-requires : goal.is_start-requires
is_start-requires c =
    let s = c.self.inside in
    let now = c.sorts.ensures.consistent in
    let start = c.self.invariant.first_consistent in
    record {
      declared = subst IsBeside (sym c.mark-declared.ensures.lengths) (now.origins.one_each, now.heads.one_each);
      first = subst IsBeside (sym c.self.invariant.first_is) (start.origins.one_each, start.heads.one_each);
    }

pub returns : goal.returns
returns c =
    let s = c.self.inside in
    record {
      first = (
        λ yes. first_from c.stack_theorems.ensures.hold s.scope s.asserts.items s.table s.numbers.items s.levels.items s.first c.sorts.ensures.consistent c.self.invariant c.args.self.now c.self.view_is c.mark-declared.result c.mark-declared.ensures.lengths (rw (c.as_slice-levels.ensures.value, c.as_slice-asserts.ensures.value) at c.is_start.ensures.start.0 yes),
        λ e. c.is_start.ensures.start.1 (rw (c.as_slice-levels.ensures.value, c.as_slice-asserts.ensures.value) (first_to c.stack_theorems.ensures.hold s.scope s.asserts.items s.table s.numbers.items s.levels.items s.first c.sorts.ensures.consistent c.self.invariant c.args.self.now c.self.view_is c.mark-declared.result c.mark-declared.ensures.lengths e)),
      );
    }
