use Rattle.std.proofs.Common.{arith}
use Rattle.ct_log_lines.proofs.NestingLemmas.{nests_item, nests_rest, nests_list, short_sort}
use Rattle.ct_log_lines.proofs.form.+sort_form.Goals as goal

pub is_sort_form-is_sort_list-requires : goal.is_sort_form-is_sort_list-requires
is_sort_form-is_sort_list-requires t c = (omega (arith, nests_list c.args.expr.now c.in-List.items c.as_slice.result.now c.in-List.is c.as_slice.ensures.value, c.decreases), tt)

pub is_sort_list-are_sort_forms-requires : goal.is_sort_list-are_sort_forms-requires
is_sort_list-are_sort_forms-requires t c = (omega (arith, nests_rest c.args.items.now (omega (arith, c.in-len1-up.len_at_least)), c.decreases), tt)

pub are_sort_forms-is_sort_form-requires : goal.are_sort_forms-is_sort_form-requires
are_sort_forms-is_sort_form-requires t c = (omega (arith, nests_item c.args.exprs.now c.loop-expr.expr-index c.expr-item.result c.loop-expr-test.true c.expr-item.is, c.decreases), tt)

pub is_sort_list-returns-in-empty : goal.is_sort_list-returns-in-empty
is_sort_list-returns-in-empty t c = record { value = short_sort c.args.items.now (omega (arith, c.in-empty.len_below)) }
