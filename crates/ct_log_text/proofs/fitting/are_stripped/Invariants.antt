use Rattle.std.proofs.Common.{◌≡◌, length}
use Rattle.std.specs.List.{list_all}
use Rattle.ct_log_text.specs.Fitting.{is_stripped}
use Rattle.ct_log_text.proofs.fitting.are_stripped.Given as goal

abbrev pub invariant-loop-rest : goal.invariant-loop-rest
invariant-loop-rest l = list_all (is_stripped l.table) l.rest ≡ list_all (is_stripped l.table) l.clause

abbrev pub decreases-loop-rest : goal.decreases-loop-rest
decreases-loop-rest l = length l.rest
