use Rattle.std.proofs.Common.{◌≡◌, ◌++◌, take}
use Rattle.ct_value_text.specs.ValueText.{without_bars}
use Rattle.ct_value_text.proofs.text.push_without_bars.Given as goal

abbrev pub invariant-loop-byte : goal.invariant-loop-byte
invariant-loop-byte l = l.out.items ≡ l.fn.out.items ++ without_bars (take l.byte-index l.text)
