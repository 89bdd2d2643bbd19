use Rattle.std.specs.List.{range_with_len}
use Rattle.ct_model.specs.Listed.{joined}
use Rattle.ct_model.specs.PairsText.{IsPairAt}
use Rattle.ct_model.proofs.ListLemmas.{AreWritten}
use Rattle.ct_model.proofs.pairs.value_pairs_text.Given as goal

abbrev pub invariant-loop-index : goal.invariant-loop-index
invariant-loop-index l = AreWritten (IsPairAt l.sig l.graph l.exprs l.nodes) joined (range_with_len 0 l.index) l.initial.out.items l.out.items
