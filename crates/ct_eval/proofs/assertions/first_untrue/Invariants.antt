use Rattle.std.proofs.Common.{take}
use Rattle.ct_sorts.specs.Declarations.{Declarations}
use Rattle.ct_terms.specs.Terms.{Terms}
use Rattle.ct_eval.specs.declared.interp.Interp.{Interp}
use Rattle.ct_eval.specs.Truth.{Holds}
use Rattle.ct_eval.specs.Valued.{IsValuation}
use Rattle.ct_eval.proofs.assertions.first_untrue.Given as goal

-- the assertions so far are true
abbrev pub invariant-loop-position : goal.invariant-loop-position
invariant-loop-position l = (d : Declarations) (i : Interp) (terms : Terms) → IsValuation d i terms l.valuation → Holds d i terms (take l.position l.asserts)
