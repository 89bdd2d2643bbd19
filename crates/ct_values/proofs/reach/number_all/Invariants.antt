use Rattle.std.proofs.Common.{length, map, take}
use Rattle.ct_values.specs.Numbering.{CountsUp}
use Rattle.ct_values.specs.Renumbering.{IsNumbering, Stay, StandFor}
use Rattle.ct_values.proofs.reach.number_all.Given as goal

abbrev pub invariant-loop-n : goal.invariant-loop-n
invariant-loop-n l =
    IsNumbering (length l.g) l.ids
    × Stay l.initial.ids.keys l.ids.keys
    × StandFor l.ids.keys l.indices.items (take l.n-index l.nodes)
    × CountsUp (length l.initial.ids.keys) (map (λ index. index.0) l.indices.items) (length l.ids.keys)
