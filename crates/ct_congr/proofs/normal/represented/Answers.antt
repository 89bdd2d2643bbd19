use Rattle.std.proofs.Common.{take, get_or, length}
use Rattle.std.proofs.lemmas.List.{take_more}
use Rattle.std.proofs.lemmas.Option.{slice_get-get_or}
use Rattle.ct_lemmas.proofs.Pairs.{AllZip-push}
use Rattle.ct_terms.specs.declared.ids.TermId.{TermId}
use Rattle.ct_congr.specs.Normal.{IsRepresented}
use Rattle.ct_congr.proofs.TermLemmas.{argument_below}
use Rattle.ct_congr.proofs.normal.represented.Goals as goal

abbrev zeroth : TermId
zeroth = record { 0 = 0 }

pub loop-t-preserved : goal.loop-t-preserved
loop-t-preserved c =
    let terms = c.args.terms.now in
    let t = get_or terms c.loop-t.t-index zeroth in
    rw (take_more terms c.loop-t.t-index zeroth c.loop-t-test.true, c.in_ok-push.ensures.ok)
    (AllZip-push (IsRepresented c.args.reps.now) (take c.loop-t.t-index terms) c.loop-t.args t (get_or c.args.reps.now t.0 zeroth) c.loop-t.invariant
    (slice_get-get_or c.args.reps.now t.0 zeroth (argument_below (length c.args.reps.now) terms c.loop-t.t-index t c.requires.inside (slice_get-get_or terms c.loop-t.t-index zeroth c.loop-t-test.true))))
