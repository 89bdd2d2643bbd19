use Rattle.std.proofs.Common.{◌≡◌, length, take}
use Rattle.std.specs.List.{flat_map}
use Rattle.ct_sorts.specs.declared.spelling.Spelling.{Spelling}
use Rattle.ct_sorts.proofs.limits.field_count.Given as goal

abbrev pub invariant-loop-ctor : goal.invariant-loop-ctor
invariant-loop-ctor l = l.count ≡ length (flat_map (λ (c : Spelling). c.fields) (take l.ctor-index l.ctors))
