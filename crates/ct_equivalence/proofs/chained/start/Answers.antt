use Rattle.std.proofs.Common.{◌%◌, length, get_or, sym, subst, mod-lt}
use Rattle.std.proofs.lemmas.Option.{slice_get-get_or}
use Rattle.ct_equivalence.specs.Chains.{IsEntry}
use Rattle.ct_equivalence.proofs.ChainLemmas.{IsEntry-top, IsEntry-row}
use Rattle.ct_equivalence.proofs.chained.start.Goals as goal

pub returns-in-Some : goal.returns-in-Some
returns-in-Some c =
    let h = c.in-Some.ensures.found in
    record { entry = subst (IsEntry c.args.rows.now (length c.args.tops.now) c.args.digest c.args.end) (sym h.3) (IsEntry-row c.args.rows.now c.args.tops.now c.requires.chained c.args.digest c.args.end h.0 h.1 h.2) }

pub returns-in-None : goal.returns-in-None
returns-in-None c =
    let tops = c.args.tops.now in
    let chain = c.args.digest % length tops in
    record { entry = IsEntry-top c.args.rows.now tops c.requires.chained c.args.digest c.args.end (get_or tops chain 0) (slice_get-get_or tops chain 0 (mod-lt c.args.digest c.requires.chained.some)) }
