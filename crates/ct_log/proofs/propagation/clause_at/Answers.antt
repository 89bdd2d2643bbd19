use Rattle.std.proofs.Common.{◌-◌, get_or, arith}
use Rattle.std.proofs.lemmas.Option.{slice_get-get_or}
use Rattle.ct_log.proofs.PropagatedLemmas.{IsNumbered-line}
use Rattle.ct_log.proofs.propagation.clause_at.Goals as goal

pub returns : goal.returns
returns c =
    let line = get_or c.args.lines.now (c.args.hint - 1) c.index-lines-hint.result in
    let at = slice_get-get_or c.args.lines.now (c.args.hint - 1) c.index-lines-hint.result (omega (arith, c.requires.above, c.requires.within)) in
    record { numbered = rw c.as_slice.ensures.value (IsNumbered-line c.args.lines.now c.args.hint (c.args.hint - 1) line (omega (arith, c.requires.above)) at) }
