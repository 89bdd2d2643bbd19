use Rattle.std.proofs.Common.{◌≡◌, ◌++◌, map, take}
use Rattle.ct_log.specs.declared.rules.Hop.{Hop}
use Rattle.ct_kept.proofs.terms.push_hops.Given as goal

abbrev pub invariant-loop-hop : goal.invariant-loop-hop
invariant-loop-hop l = l.terms.items ≡ l.initial.terms.items ++ map (λ (h : Hop). h.con) (take l.hop-index l.hops)
