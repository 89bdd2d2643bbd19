-- Terms whose arguments are representatives: congruent terms have one such term (Downey, Sethi and Tarjan 1980).
use Rattle.std.specs.Prelude.{◌≡◌, List, Some, slice_get}
use Rattle.std.specs.List.{AllZip}
use Rattle.ct_terms.specs.declared.ids.TermId.{TermId}
use Rattle.ct_terms.specs.declared.term.Core.{Core}
use Rattle.ct_terms.specs.Children.{core_head, core_children}

-- the second is the representative of the first
abbrev pub IsRepresented : List TermId → TermId → TermId → Type 0
IsRepresented reps x r = slice_get reps x.0 ≡ Some r

-- the second term is the first one with the representatives put in for its arguments
pub record IsNormal (reps : List TermId) (core key : Core) : Type 0 where
  pub head : core_head core ≡ core_head key
  pub arguments : AllZip (IsRepresented reps) (core_children core) (core_children key)
