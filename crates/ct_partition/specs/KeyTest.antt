-- The derived test of two keys.
use Rattle.std.specs.Prelude.{Bool}
use Rattle.ct_partition.specs.declared.key.Key.{Key}
use Rattle.ct_partition.specs.contracts.key.KeyPartialEq.TheImpl as derived

-- the keys are the same
abbrev pub same_key : Key → Key → Bool
same_key = derived.eq-value.it
