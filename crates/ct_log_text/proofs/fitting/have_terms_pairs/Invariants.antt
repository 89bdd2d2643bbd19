use Rattle.std.proofs.Common.{◌≡◌, length}
use Rattle.std.specs.List.{list_all}
use Rattle.ct_log_text.specs.Fitting.{has_terms_pair}
use Rattle.ct_log_text.proofs.fitting.have_terms_pairs.Given as goal

abbrev pub invariant-loop-rest : goal.invariant-loop-rest
invariant-loop-rest l = list_all (has_terms_pair l.n) l.rest ≡ list_all (has_terms_pair l.n) l.pairs

abbrev pub decreases-loop-rest : goal.decreases-loop-rest
decreases-loop-rest l = length l.rest
