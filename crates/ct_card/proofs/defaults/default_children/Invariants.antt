use Rattle.std.proofs.Common.{◌≡◌, take, map}
use Rattle.ct_card.specs.Fields.{field_sort}
use Rattle.ct_card.specs.Defaults.{node_of_sort}
use Rattle.ct_card.proofs.defaults.default_children.Given as goal

abbrev pub invariant-loop-sel : goal.invariant-loop-sel
invariant-loop-sel l = l.ids.items ≡ map (node_of_sort l.base l.ranks) (map (field_sort l.sig) (take l.sel-index l.sel-items))
