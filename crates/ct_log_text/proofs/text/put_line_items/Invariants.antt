use Rattle.std.proofs.Common.{◌≡◌, ◌+◌, ◌++◌, length}
use Rattle.ct_sexpr.specs.Expression.{Expressions}
use Rattle.ct_log_text.specs.Written.{line_items, item_lines}
use Rattle.ct_log_text.proofs.text.put_line_items.Given as goal

abbrev pub invariant-loop-rest : goal.invariant-loop-rest
invariant-loop-rest l = record {
  written : (after : Expressions) → l.out.items ++ item_lines (line_items l.n l.rest after) ≡ l.fn.out.items ++ item_lines (line_items 1 l.lines after);
  count : l.n + length l.rest ≡ 1 + length l.lines;
}

abbrev pub decreases-loop-rest : goal.decreases-loop-rest
decreases-loop-rest l = length l.rest
