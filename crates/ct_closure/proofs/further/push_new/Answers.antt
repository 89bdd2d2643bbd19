use Rattle.std.proofs.Common.{◌<◌, length, get_or, arith}
use Rattle.std.proofs.lemmas.Option.{slice_get-get_or}
use Rattle.ct_terms.specs.declared.ids.TermId.{TermId}
use Rattle.ct_closure.proofs.FurtherLemmas.{pushed_none, pushed_more, pushed_all}
use Rattle.ct_closure.proofs.GrowthLemmas.{Begins-itself, Begins-further}
use Rattle.ct_closure.proofs.further.push_new.Goals as goal

pub loop-t-init : goal.loop-t-init
loop-t-init c = record { grown = Begins-itself c.args.list.now.items; pushed = pushed_none c.args.before.now c.args.terms.now c.args.list.now.items }

pub loop-t-preserved : goal.loop-t-preserved
loop-t-preserved c =
    let t : TermId = get_or c.args.terms.now c.loop-t.t-index (record { 0 = 0 }) in
    let within : c.loop-t.t-index < length c.args.terms.now = omega arith in
    let at = slice_get-get_or c.args.terms.now c.loop-t.t-index (record { 0 = 0 }) within in
    record {
      grown = Begins-further c.args.list.now.items c.loop-t.list.items c.push_fresh.new.list.items c.loop-t.invariant.grown c.push_fresh.ensures.grown;
      pushed = pushed_more c.args.before.now c.args.terms.now c.args.list.now.items c.loop-t.list.items c.push_fresh.new.list.items c.loop-t.t-index t at c.in_ok-push_fresh.ensures.pushed c.loop-t.invariant.pushed;
    }

pub returns-in_err-push_fresh-clause-grown : goal.returns-in_err-push_fresh-clause-grown
returns-in_err-push_fresh-clause-grown c = Begins-further c.args.list.now.items c.loop-t.list.items c.push_fresh.new.list.items c.loop-t.invariant.grown c.push_fresh.ensures.grown

pub returns-clause-pushed : goal.returns-clause-pushed
returns-clause-pushed c = pushed_all c.args.before.now c.args.terms.now c.args.list.now.items c.loop-t.list.items c.loop-t.t-index (omega arith) c.loop-t.invariant.pushed
