use Rattle.std.proofs.Common.{◌≡◌}
use Rattle.ct_sorts.proofs.SelLemmas.{ArePushed}
use Rattle.ct_sorts.proofs.grow.push_sels.Given as goal

abbrev pub invariant-loop-field : goal.invariant-loop-field
invariant-loop-field l = (l.place ≡ l.field-index) × ArePushed l.sorts l.row l.home l.ctor l.fn.sels l.sels l.field-index
