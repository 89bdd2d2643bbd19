use Rattle.std.specs.List.{Contains}
use Rattle.ct_sorts.specs.Declarations.{Declarations}
use Rattle.ct_terms.specs.declared.term.Core.{Core}
use Rattle.ct_terms.specs.Terms.{Has}
use Rattle.ct_congr.specs.declared.merge.Merge.{Merge}
use Rattle.ct_congr.specs.Joined.{AreJoined, WaitsOn}
use Rattle.ct_congr.specs.Meeting.{IsSearched}
use Rattle.ct_congr.proofs.meeting.match_rows.Given as goal

abbrev pub invariant-loop-row : goal.invariant-loop-row
invariant-loop-row l = record {
  still : (m : Merge) → Contains l.initial.waiting.items m → Contains l.waiting.items m;
  waits : (d : Declarations) → WaitsOn d l.table l.reps l.initial.waiting.items l.waiting.items;
  searched : (core : Core) → Has l.table core l.t.0 → IsSearched l.table l.reps l.keys l.digest (AreJoined l.reps l.waiting.items) l.t core l.end l.found;
}

abbrev pub decreases-loop-row : goal.decreases-loop-row
decreases-loop-row l = l.end
