use Rattle.std.proofs.Common.{◌≡◌, ◌+◌, [], length}
use Rattle.ct_sexpr.specs.View.{expressions_of}
use Rattle.ct_log_text.specs.Reading.{read_lines}
use Rattle.ct_log_text.proofs.read.read_lines.Given as goal

abbrev pub invariant-loop-rest : goal.invariant-loop-rest
invariant-loop-rest l = record {
  reads : read_lines l.place l.table l.lines.items (expressions_of l.rest) ≡ read_lines l.fn.place l.table [] (expressions_of l.items);
  place : l.place + length l.rest ≡ l.fn.place + length l.items;
}

abbrev pub decreases-loop-rest : goal.decreases-loop-rest
decreases-loop-rest l = length l.rest
