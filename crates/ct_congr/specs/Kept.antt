-- What closing keeps of classes beside their soundness.
use Rattle.std.specs.Prelude.{◌≡◌, Bool, true, List}
use Rattle.ct_sorts.specs.Declarations.{Declarations}
use Rattle.ct_terms.specs.Terms.{Terms}
use Rattle.ct_equivalence.specs.Grouping.{Groupings}
use Rattle.ct_equivalence.specs.Over.{AreGroupingsOf}
use Rattle.ct_congr.specs.declared.merge.Merge.{Merge}
use Rattle.ct_congr.specs.Joined.{AreJoined, AreWaiting}
use Rattle.ct_congr.specs.Covered.{Keys, AreKeys, IsCovered}

-- the groupings are of the terms of the table, and the signatures are theirs; as long as it is said to be so, the merges that
-- wait follow by rules and cover the rules
pub record IsKept (d : Declarations) (terms : Terms) (parts : Groupings) (keys : Keys) (waiting : List Merge) (fast : Bool) : Type 0 where
  pub groupings : AreGroupingsOf terms parts
  pub keyed : AreKeys parts.now.reps keys
  pub waits : fast ≡ true → AreWaiting d terms parts.now.reps waiting
  pub covered : fast ≡ true → IsCovered d terms parts.now.reps parts.now.cons keys (AreJoined parts.now.reps waiting)
