use Rattle.std.proofs.Common.{take, All}
use Rattle.ct_sorts.specs.Declarations.{Declarations}
use Rattle.ct_terms.specs.Terms.{Terms, IsBoolean}
use Rattle.ct_eval.specs.declared.interp.Interp.{Interp}
use Rattle.ct_eval.specs.Truth.{Holds}
use Rattle.ct_trial.specs.Trial.{IsTrial}
use Rattle.ct_trial.proofs.trial.Trial.are_true.Given as goal

abbrev pub invariant-loop-t : goal.invariant-loop-t
invariant-loop-t l = (d : Declarations) (table : Terms) (i : Interp) → All (IsBoolean table) l.terms → IsTrial d table i l.self → Holds d i table (take l.t-index l.terms)
