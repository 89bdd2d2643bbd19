use Rattle.std.proofs.Common.{◌≡◌, ◌<◌, ◌++◌}
use Rattle.ct_sorts.specs.Declarations.{Declarations}
use Rattle.ct_terms.specs.declared.ids.TermId.{TermId}
use Rattle.ct_terms.specs.declared.term.Core.{Core}
use Rattle.ct_terms.specs.Terms.{Has}
use Rattle.ct_congr.specs.Joined.{AreJoined, WaitsOn}
use Rattle.ct_congr.specs.Covered.{Keys, AreKeys, IsMet}
use Rattle.ct_congr.proofs.marking.meet_all.Given as goal

abbrev pub invariant-loop-t : goal.invariant-loop-t
invariant-loop-t l = record {
  more : (more : Keys) × (l.keys ≡ l.initial.keys ++ more);
  keys : AreKeys l.reps l.keys;
  waits : (d : Declarations) → WaitsOn d l.table l.reps l.initial.waiting.items l.waiting.items;
  met : (t : TermId) (core : Core) → t.0 < l.t → Has l.table core t.0 → IsMet l.table l.reps l.keys (AreJoined l.reps l.waiting.items) t core;
}
