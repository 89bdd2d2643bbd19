use Rattle.std.proofs.Common.{take, get_or}
use Rattle.std.proofs.lemmas.List.{take_more}
use Rattle.std.proofs.lemmas.Option.{slice_get-get_or}
use Rattle.ct_lemmas.proofs.Pairs.{AllZip-push}
use Rattle.ct_ordering.specs.declared.hop.Hop.{Hop}
use Rattle.ct_acyclic.specs.Edges.{IsEntry}
use Rattle.ct_acyclic.proofs.entries.entries.Goals as goal

abbrev nowhere : Hop
nowhere = record { point = 0; place = 0 }

pub entry-requires-clause-leads : goal.entry-requires-clause-leads
entry-requires-clause-leads c =
    let hops = c.args.hops.now in
    c.requires.leads c.loop-hop.hop-index (get_or hops c.loop-hop.hop-index nowhere) (slice_get-get_or hops c.loop-hop.hop-index nowhere c.loop-hop-test.true)

pub entry-requires-clause-within : goal.entry-requires-clause-within
entry-requires-clause-within c =
    let hops = c.args.hops.now in
    c.requires.within c.loop-hop.hop-index (get_or hops c.loop-hop.hop-index nowhere) (slice_get-get_or hops c.loop-hop.hop-index nowhere c.loop-hop-test.true)

pub loop-hop-preserved : goal.loop-hop-preserved
loop-hop-preserved c =
    let hops = c.args.hops.now in
    rw (take_more hops c.loop-hop.hop-index nowhere c.loop-hop-test.true, c.in_ok-push.ensures.items)
    (AllZip-push (IsEntry c.args.classes.now) (take c.loop-hop.hop-index hops) c.loop-hop.list.items (get_or hops c.loop-hop.hop-index nowhere) c.entry.result c.loop-hop.invariant c.entry.ensures.entry)
