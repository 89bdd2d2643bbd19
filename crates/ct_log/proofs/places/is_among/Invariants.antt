use Rattle.std.proofs.Common.{◌≡◌, take, All}
use Rattle.ct_log.proofs.places.is_among.Given as goal

abbrev pub invariant-loop-u : goal.invariant-loop-u
invariant-loop-u l = All (λ x. x ≡ l.t → ⊥) (take l.u-index l.terms)
