-- What is worked out of definitions.
use Rattle.std.specs.Prelude.{List, length}
use Rattle.ct_sorts.specs.declared.ids.DefId.{DefId}
use Rattle.ct_sorts.specs.Declarations.{Declarations}
use Rattle.ct_formulas.specs.Formula.{Formula}
use Rattle.ct_formulas.specs.Occurrence.{uses_below}
use Rattle.ct_occurrence.specs.Marks.{Rows, IsKnown, HaveRows}
use Rattle.ct_occurrence.specs.Noted.{HaveNotes}

-- all of it is right
pub record AreRight (d : Declarations) (bodies : List Formula) (rows : Rows) : Type 0 where
  pub have : HaveRows d (uses_below d bodies (length bodies)) (length bodies) rows
  pub notes : HaveNotes d bodies rows

-- what was worked out still is
abbrev pub StayKnown : Rows → Rows → Type 0
StayKnown old new = (k : DefId) → IsKnown old k → IsKnown new k
