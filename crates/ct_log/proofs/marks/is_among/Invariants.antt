use Rattle.std.proofs.Common.{◌≡◌, take, All}
use Rattle.ct_log.proofs.marks.is_among.Given as goal

abbrev pub invariant-loop-k : goal.invariant-loop-k
invariant-loop-k l = All (λ x. x ≡ l.l → ⊥) (take l.k-index l.literals)
