use Rattle.std.proofs.Common.{refl}
use Rattle.ct_sexpr.proofs.Buffers.{buffered-new}
use Rattle.ct_sexpr.proofs.reader.Reader.new.Goals as goal

pub invariant_of-result : goal.invariant_of-result
invariant_of-result c = rw c.new.ensures.items (buffered-new c.new-2.result c.new-2.ensures.fresh c.new-2.ensures.lines, λ h. refl)
