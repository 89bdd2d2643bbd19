use Rattle.std.proofs.Common.{◌≡◌, ◌++◌, take, codes}
use Rattle.ct_sexpr.specs.Written.{written_items}
use Rattle.ct_value_text.specs.ValueText.{node_texts}
use Rattle.ct_value_text.proofs.graph_text.graph_text.Given as goal

abbrev pub invariant-loop-n : goal.invariant-loop-n
invariant-loop-n l = l.out.items ≡ codes "(@graph (" ++ written_items (node_texts l.sig 0 (take l.n l.g))
