use Rattle.std.proofs.Common.{◌≡◌}
use Rattle.ct_core.specs.Sweep.{IsCopied}
use Rattle.ct_core.proofs.unsat_core.copy_lines.Given as goal

abbrev pub invariant-loop-index : goal.invariant-loop-index
invariant-loop-index l = record {
  copied : IsCopied l.index l.marks l.places.items l.lines l.derivation.rec.lines;
  others : l.derivation ≡ record l.initial.derivation { rec = record l.initial.derivation.rec { lines = l.derivation.rec.lines } };
}
