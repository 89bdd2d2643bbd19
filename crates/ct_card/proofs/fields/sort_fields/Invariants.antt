use Rattle.std.proofs.Common.{◌≡◌, take}
use Rattle.std.specs.List.{flat_map}
use Rattle.ct_card.specs.Fields.{ctor_fields}
use Rattle.ct_card.proofs.fields.sort_fields.Given as goal

abbrev pub invariant-loop-c : goal.invariant-loop-c
invariant-loop-c l = l.fields.items ≡ flat_map (ctor_fields l.sig) (take l.c-index l.c-items)
