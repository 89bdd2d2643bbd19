use Rattle.std.proofs.Common.{map, take}
use Rattle.ct_names.specs.Symbols.{field_sort_id}
use Rattle.ct_readback.specs.Descent.{Extends, HaveSorts, pairs_of}
use Rattle.ct_readback.proofs.descent.meet_children.Given as goal

abbrev pub invariant-loop-k : goal.invariant-loop-k
invariant-loop-k l =
    Extends l.initial.descent l.descent (pairs_of l.children (map (field_sort_id l.sig) l.fields))
    × HaveSorts l.descent.sorts.items (take l.k l.children) (take l.k (map (field_sort_id l.sig) l.fields))
