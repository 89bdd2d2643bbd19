use Rattle.std.proofs.Common.{◌<◌, ◌≡◌, None, Some, length, slice_get, refl, sym, ap, ◌∙◌, arith}
use Rattle.std.proofs.lemmas.Option.{slice_get-get_or}
use Rattle.ct_ordering.proofs.ListLemmas.{slice_set-here}
use Rattle.ct_readback.proofs.DescentLemmas.{extends_got}
use Rattle.ct_readback.proofs.descent.meet.Goals as goal

pub returns-clause-extends : goal.returns-clause-extends
returns-clause-extends c =
    let sorts = c.args.descent.now.sorts.items in
    let within : c.args.n.0 < length sorts = omega (arith, c.if-n-len.false, c.len.ensures, c.args.descent.now.sorts.ok.0) in
    let free : slice_get sorts c.args.n.0 ≡ Some None = slice_get-get_or sorts c.args.n.0 c.index.result.now within ∙ ap Some (sym c.index.ensures ∙ c.in_default.is) in
    extends_got c.args.descent.now _ c.args.n.0 c.args.s within free refl c.in_ok-push.ensures.items

pub returns-clause-met : goal.returns-clause-met
returns-clause-met c =
    let sorts = c.args.descent.now.sorts.items in
    slice_set-here sorts c.args.n.0 (Some c.args.s) (omega (arith, c.if-n-len.false, c.len.ensures, c.args.descent.now.sorts.ok.0))
