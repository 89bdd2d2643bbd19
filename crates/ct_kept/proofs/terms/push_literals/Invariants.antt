use Rattle.std.proofs.Common.{◌≡◌, ◌++◌, map, take}
use Rattle.ct_terms.specs.declared.ids.Lit.{Lit}
use Rattle.ct_kept.proofs.terms.push_literals.Given as goal

abbrev pub invariant-loop-literal : goal.invariant-loop-literal
invariant-loop-literal l = l.terms.items ≡ l.initial.terms.items ++ map (λ (k : Lit). k.term) (take l.literal-index l.clause)
