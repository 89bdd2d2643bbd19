use Rattle.std.proofs.Common.{arith}
use Rattle.ct_readback.proofs.NestingLemmas.{nests_item, nests_rest, nests_list}
use Rattle.ct_readback.proofs.FormLemmas.{short_application}
use Rattle.ct_readback.proofs.trees.+is_tree.Goals as goal

pub is_tree-is_application-requires : goal.is_tree-is_application-requires
is_tree-is_application-requires t c = (omega (arith, nests_list c.args.expr.now c.in-List.items c.as_slice.result.now c.in-List.is c.as_slice.ensures.value, c.decreases), tt)

pub is_application-are_trees-requires : goal.is_application-are_trees-requires
is_application-are_trees-requires t c = (omega (arith, nests_rest c.args.items.now (omega (arith, c.in-len1-up.len_at_least)), c.decreases), tt)

pub are_trees-is_tree-requires : goal.are_trees-is_tree-requires
are_trees-is_tree-requires t c = (omega (arith, nests_item c.args.exprs.now c.loop-expr.expr-index c.expr-item.result c.loop-expr-test.true c.expr-item.is, c.decreases), tt)

pub is_application-returns-in-empty : goal.is_application-returns-in-empty
is_application-returns-in-empty t c = record { value = short_application c.args.items.now (omega (arith, c.in-empty.len_below)) }
