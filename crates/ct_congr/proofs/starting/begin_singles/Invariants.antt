use Rattle.std.proofs.Common.{◌≡◌, length}
use Rattle.ct_sorts.specs.Declarations.{Declarations}
use Rattle.ct_congr.specs.Joined.{AreJoined, WaitsOn}
use Rattle.ct_congr.specs.Rules.{AreSingleSorts}
use Rattle.ct_congr.proofs.SingleLemmas.{AreFirsts, AreSingled}
use Rattle.ct_congr.proofs.starting.begin_singles.Given as goal

abbrev pub invariant-loop-t : goal.invariant-loop-t
invariant-loop-t l = record {
  long : length l.firsts.items ≡ length l.single;
  firsts : AreFirsts l.table l.single l.firsts.items;
  singled : AreSingled l.table l.single (AreJoined l.reps l.waiting.items) l.firsts.items l.t;
  waits : (d : Declarations) → AreSingleSorts d l.single → WaitsOn d l.table l.reps l.initial.waiting.items l.waiting.items;
}
