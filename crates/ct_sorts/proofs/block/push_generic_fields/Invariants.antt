use Rattle.std.proofs.Common.{◌≡◌, ◌+◌, ◌++◌, List, drop}
use Rattle.ct_sorts.specs.Grown.{Begins}
use Rattle.ct_sorts.proofs.PushLemmas.{generic_fields}
use Rattle.ct_sorts.proofs.block.push_generic_fields.Given as goal

abbrev pub invariant-loop-field : goal.invariant-loop-field
invariant-loop-field l = (l.place ≡ l.field-index) × Begins l.fn.symbols l.symbols × (l.symbols ++ generic_fields l.g l.index l.place (drop l.field-index l.fields) ≡ l.fn.symbols ++ generic_fields l.g l.index 0 l.fields)
