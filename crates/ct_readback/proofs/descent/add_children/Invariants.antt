use Rattle.std.proofs.Common.{map, take}
use Rattle.ct_names.specs.Symbols.{field_sort_id}
use Rattle.ct_readback.specs.Descent.{Adds, AreAsked, pairs_of}
use Rattle.ct_readback.proofs.descent.add_children.Given as goal

abbrev pub invariant-loop-k : goal.invariant-loop-k
invariant-loop-k l =
    Adds l.initial.pairs.keys l.pairs.keys (pairs_of l.children (map (field_sort_id l.sig) l.fields))
    × AreAsked l.known l.pairs.keys (take l.k l.children) (take l.k (map (field_sort_id l.sig) l.fields))
