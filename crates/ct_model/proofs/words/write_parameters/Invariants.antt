use Rattle.std.proofs.Common.{◌≡◌, ◌∷◌, ◌++◌, take}
use Rattle.ct_model.specs.Listed.{joined}
use Rattle.ct_model.specs.TableText.{parameters}
use Rattle.ct_model.proofs.words.write_parameters.Given as goal

abbrev pub invariant-loop-index : goal.invariant-loop-index
invariant-loop-index l = l.out.items ≡ l.fn.out.items ++ 40 ∷ joined (parameters l.sig 0 (take l.index l.sorts))
