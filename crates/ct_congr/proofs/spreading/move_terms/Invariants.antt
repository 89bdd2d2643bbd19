use Rattle.std.proofs.Common.{◌≡◌, ◌++◌, take}
use Rattle.std.specs.List.{Contains}
use Rattle.ct_terms.specs.declared.ids.TermId.{TermId}
use Rattle.ct_terms.specs.declared.term.Core.{Core}
use Rattle.ct_terms.specs.Terms.{Has}
use Rattle.ct_congr.specs.Partition.{InOneClass}
use Rattle.ct_congr.specs.Joined.{AreJoined, WaitsOn}
use Rattle.ct_congr.specs.Covered.{HasCon, IsCoveredAt, Keys, AreKeys, IsMet}
use Rattle.ct_congr.proofs.spreading.move_terms.Given as goal

abbrev pub invariant-loop-t : goal.invariant-loop-t
invariant-loop-t l = record {
  more : (more : Keys) × (l.keys ≡ l.initial.keys ++ more);
  keys : AreKeys l.reps l.keys;
  waits : WaitsOn l.sig l.table l.reps l.initial.waiting.items l.waiting.items;
  covered : (t : TermId) → Contains (take l.t-index l.terms) t → IsCoveredAt l.sig l.table (InOneClass l.reps) (HasCon l.reps l.cons) (AreJoined l.reps l.waiting.items) t;
  met : (t : TermId) (core : Core) → Contains (take l.t-index l.terms) t → Has l.table core t.0 → IsMet l.table l.reps l.keys (AreJoined l.reps l.waiting.items) t core;
}
