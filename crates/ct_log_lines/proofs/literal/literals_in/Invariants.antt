use Rattle.std.proofs.Common.{◌≡◌, length}
use Rattle.ct_sexpr.specs.View.{expressions_of}
use Rattle.ct_log_lines.specs.Equalities.{literal_in}
use Rattle.ct_log_lines.specs.Forms.{each}
use Rattle.ct_log_lines.proofs.Each.{each_from}
use Rattle.ct_log_lines.proofs.literal.literals_in.Given as goal

abbrev pub invariant-loop-rest : goal.invariant-loop-rest
invariant-loop-rest l = each_from literal_in l.literals.items (expressions_of l.rest) ≡ each literal_in (expressions_of l.items)

abbrev pub decreases-loop-rest : goal.decreases-loop-rest
decreases-loop-rest l = length l.rest
