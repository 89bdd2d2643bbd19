use Rattle.std.proofs.Common.{◌≡◌, ◌+◌, ◌++◌, List, drop}
use Rattle.ct_sorts.specs.Grown.{Begins}
use Rattle.ct_sorts.proofs.PushLemmas.{plain_fields}
use Rattle.ct_sorts.proofs.block.push_plain_fields.Given as goal

abbrev pub invariant-loop-field : goal.invariant-loop-field
invariant-loop-field l = (l.sel ≡ l.first + l.field-index) × Begins l.fn.symbols l.symbols × (l.symbols ++ plain_fields l.sel (drop l.field-index l.fields) ≡ l.fn.symbols ++ plain_fields l.first l.fields)
