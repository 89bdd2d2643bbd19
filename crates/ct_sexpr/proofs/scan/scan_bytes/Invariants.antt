use Rattle.std.proofs.Common.{◌+◌, ◌<◌, ◌^◌, ◌++◌, ℕ, List, length, drop}
use Rattle.ct_sexpr.specs.Scanning.{Reached}
use Rattle.ct_sexpr.proofs.scan.scan_bytes.Given as goal

abbrev pub invariant-loop-index : goal.invariant-loop-index
invariant-loop-index l =
    (l.scanner.line_feeds + length l.bytes < 2 ^ 64 + l.index)
    × ((whole more : List ℕ) → Reached l.fn.scanner whole (l.bytes ++ more) → Reached l.scanner whole (drop l.index l.bytes ++ more))
