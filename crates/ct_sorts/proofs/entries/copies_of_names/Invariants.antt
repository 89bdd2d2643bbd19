use Rattle.std.proofs.Common.{◌≡◌, ◌+◌, ◌++◌, List, map, take, drop, length}
use Rattle.ct_sorts.proofs.entries.copies_of_names.Given as goal

abbrev pub invariant-loop-name : goal.invariant-loop-name
invariant-loop-name l = l.copied.items ≡ take l.name-index l.names
