use Rattle.std.proofs.Common.{◌≡◌, ◌++◌, drop}
use Rattle.ct_sexpr.specs.Expression.{Expressions}
use Rattle.ct_log_text.specs.Written.{term_items, item_lines}
use Rattle.ct_log_text.proofs.text.put_term_items.Given as goal

abbrev pub invariant-loop-n : goal.invariant-loop-n
invariant-loop-n l = (after : Expressions) → l.out.items ++ item_lines (term_items l.sig l.n (drop l.n l.table) after) ≡ l.fn.out.items ++ item_lines (term_items l.sig 0 l.table after)
