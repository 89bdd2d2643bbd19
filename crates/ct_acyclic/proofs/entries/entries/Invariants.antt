use Rattle.std.proofs.Common.{take}
use Rattle.std.specs.List.{AllZip}
use Rattle.ct_acyclic.specs.Edges.{IsEntry}
use Rattle.ct_acyclic.proofs.entries.entries.Given as goal

abbrev pub invariant-loop-hop : goal.invariant-loop-hop
invariant-loop-hop l = AllZip (IsEntry l.classes) (take l.hop-index l.hops) l.list.items
