-- Terms with one head over terms that are related pairwise.
use Rattle.std.specs.Prelude.{◌≡◌}
use Rattle.std.specs.List.{AllZip}
use Rattle.ct_values.specs.Agreement.{point, AgreeAlways}
use Rattle.ct_values.specs.Value.{Value}
use Rattle.ct_terms.specs.declared.ids.TermId.{TermId}
use Rattle.ct_terms.specs.declared.term.Core.{Core}
use Rattle.ct_terms.specs.Children.{core_head, core_children}
use Rattle.ct_eval.specs.declared.interp.Interp.{Interp}

-- the terms have one head, and as many terms under them, related one for one
abbrev pub AreCongruent : (TermId → TermId → Type 0) → Core → Core → Type 0
AreCongruent R core other = (core_head core ≡ core_head other) × AllZip R (core_children core) (core_children other)

-- the terms have values that are the same, each by its own valuation
abbrev pub HaveOneValue : Interp → (TermId → Value) → (TermId → Value) → TermId → TermId → Type 0
HaveOneValue i value other t u = AgreeAlways (point i.graph (value t)) (point i.graph (other u))
