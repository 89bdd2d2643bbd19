use Rattle.std.proofs.Common.{◌≡◌, ◌++◌, take}
use Rattle.ct_sexpr.specs.View.{expressions_of}
use Rattle.ct_sexpr.specs.Written.{written_after}
use Rattle.ct_sexpr.proofs.write.+write.Given as goal

abbrev pub invariant-write_items-loop-item : goal.invariant-write_items-loop-item
invariant-write_items-loop-item l = l.out.items ≡ l.initial.out.items ++ written_after (expressions_of (take l.item-index l.others))
