use Rattle.std.proofs.Common.{◌≡◌, ◌+◌, List, length, slice_get, Some, sym, ap, ◌∙◌, subst, refl, arith}
use Rattle.std.proofs.lemmas.Option.{slice_get_read, slice_get_within}
use Rattle.ct_values.specs.declared.node.NodeId.{NodeId}
use Rattle.ct_build.proofs.ValueLemmas.{AreFirstNumbered, numbered_more, numbered_all}
use Rattle.ct_build.proofs.numbering.numbered.Goals as goal

pub loop-t-preserved : goal.loop-t-preserved
loop-t-preserved c =
    let state = c.args.classes.now in
    let reserved = c.reserve.new.nodes.items in
    let rep = c.rep-rep.result in
    let n = c.index.result.now in
    let many : length reserved ≡ length state.terms = c.reserve.ensures.long ∙ ap length c.in_ok-reserved.ensures.items ∙ c.requires.long in
    let at_n : slice_get reserved rep.0 ≡ Some n = slice_get_read reserved (length reserved) rep.0 n refl (omega (arith, many, c.facts.ensures.long, slice_get_within state.reps rep.0 rep c.rep-rep.ensures.own)) c.index.ensures in
    subst (λ (l : List NodeId). AreFirstNumbered state reserved (c.loop-t.t + 1) l) (sym c.in_ok-push.ensures.items)
    (numbered_more state reserved c.loop-t.nodes.items c.loop-t.t rep n c.rep-rep.ensures.value at_n c.loop-t.invariant)

pub returns : goal.returns
returns c =
    let count : c.loop-t.t ≡ length c.args.classes.now.terms = omega (arith, c.len-t-end.ensures.count, ap length c.table.ensures.value, c.loop-t-test.false) in
    record { numbered = numbered_all c.args.classes.now c.args.list.now c.args.base c.loop-t.t c.reserve.new.nodes.items c.loop-t.nodes.items count c.facts.ensures.long c.reserve.ensures.reserved c.loop-t.invariant }
