-- Before the first decision: a search to which lines may be added, and the room in which these are judged.
use Rattle.std.specs.Prelude.{◌≡◌, ℕ, ◌*◌, ◌≤◌, [], length}
use Rattle.ct_sorts.specs.Declarations.{Declarations}
use Rattle.ct_card.specs.Sizes.{Table, AreSizes}
use Rattle.ct_log.specs.Rooms.{Space}
use Rattle.ct_engine.specs.declared.course.Course.{Course}
use Rattle.ct_engine.specs.Progress.{IsUnderWay}

-- a search under way, over these declarations with these sizes, in which no decision stands
pub record IsBeforeDecisions (d : Declarations) (sizes : Table) (course : Course) : Type 0 where
  pub under_way : IsUnderWay course
  pub start : course.search.decided ≡ []
  pub declarations : course.derivation.declarations ≡ d
  pub sized : AreSizes d sizes

-- so many steps a line that is proposed may have
abbrev pub most_steps : ℕ
most_steps = 1024

-- the same, with room for two literals a term, and for the steps of a line that is proposed
pub record IsOpening (d : Declarations) (sizes : Table) (course : Course) (room : Space) : Type 0 where
  pub before : IsBeforeDecisions d sizes course
  pub literals : length course.derivation.rec.terms * 2 ≤ room.literals
  pub equations : most_steps ≤ room.equations
