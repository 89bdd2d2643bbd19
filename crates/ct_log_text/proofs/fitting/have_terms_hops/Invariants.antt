use Rattle.std.proofs.Common.{◌≡◌, length}
use Rattle.std.specs.List.{list_all}
use Rattle.ct_log_text.specs.Fitting.{is_term}
use Rattle.ct_log_text.proofs.fitting.have_terms_hops.Given as goal

abbrev pub invariant-loop-rest : goal.invariant-loop-rest
invariant-loop-rest l = list_all (λ x. is_term l.n x.con) l.rest ≡ list_all (λ x. is_term l.n x.con) l.hops

abbrev pub decreases-loop-rest : goal.decreases-loop-rest
decreases-loop-rest l = length l.rest
