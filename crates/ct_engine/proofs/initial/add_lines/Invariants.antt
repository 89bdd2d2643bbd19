use Rattle.std.proofs.Common.{◌≡◌, take}
use Rattle.ct_log.specs.Acceptance.{clauses_of}
use Rattle.ct_sat.specs.State.{clauses_of as clauses_in}
use Rattle.ct_sat.specs.Learning.{StandAtSteps}
use Rattle.ct_engine.proofs.initial.add_lines.Given as goal

abbrev pub invariant-loop-index : goal.invariant-loop-index
invariant-loop-index l = record {
  clauses : clauses_in l.search.clauses ≡ clauses_of (take l.index l.lines);
  numbered : StandAtSteps l.search.clauses (clauses_of (take l.index l.lines));
  same : l.search ≡ record l.fn.search { clauses = l.search.clauses; propagated = l.search.propagated };
}
