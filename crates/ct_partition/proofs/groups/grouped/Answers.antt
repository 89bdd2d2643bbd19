use Rattle.std.proofs.Common.{◌≡◌, ℕ, List, [], length, take, sym, subst, arith}
use Rattle.std.proofs.lemmas.List.{take_all}
use Rattle.ct_partition.specs.Points.{points}
use Rattle.ct_partition.proofs.PointLemmas.{closed}
use Rattle.ct_partition.proofs.GroupLemmas.{AreGrouped, AreGrouped-none, AreGrouped-more, AreGrouped-within, AreGrouped-saturated, next_group}
use Rattle.ct_partition.proofs.groups.grouped.Goals as goal

pub put-requires : goal.put-requires
put-requires c =
    let p = points c.args.labels.now c.args.starts.now c.args.children.now in
    let groups = c.loop-i.groups.items in
    let count : c.len.result ≡ length groups = omega (arith, c.len.ensures, c.loop-i.groups.ok.0) in
    let found = c.in_ok-group.ensures in
    record {
      next = next_group p c.args.blocks.now (take c.loop-i.i-index c.args.waiting.now) c.loop-i.known c.number_of.new.known groups c.len.result c.in_ok-key.key c.in_ok-group.group count c.loop-i.invariant found.found found.only;
    }

pub loop-i-init : goal.loop-i-init
loop-i-init c =
    let p = points c.args.labels.now c.args.starts.now c.args.children.now in
    subst (λ (groups : List (List ℕ)). AreGrouped p c.args.blocks.now [] c.new-known.result groups) (sym c.new-groups.ensures.items) (AreGrouped-none p c.args.blocks.now c.new-known.result c.new-known.ensures.empty)

pub loop-i-preserved : goal.loop-i-preserved
loop-i-preserved c =
    let p = points c.args.labels.now c.args.starts.now c.args.children.now in
    let groups = c.loop-i.groups.items in
    let count : c.len.result ≡ length groups = omega (arith, c.len.ensures, c.loop-i.groups.ok.0) in
    let found = c.in_ok-group.ensures in
    let put = c.in_ok-put.ensures in
    AreGrouped-more p c.args.blocks.now c.args.waiting.now c.loop-i.i-index 0 c.loop-i.known c.number_of.new.known groups c.put.new.groups.items c.len.result c.in_ok-key.key c.in_ok-group.group c.loop-i-test.true count c.loop-i.invariant c.in_ok-key.ensures.value found.found found.stay found.only put.room put.more put.put

pub returns : goal.returns
returns c =
    let labels = c.args.labels.now in
    let starts = c.args.starts.now in
    let children = c.args.children.now in
    let p = points labels starts children in
    let blocks = c.args.blocks.now in
    let waiting = c.args.waiting.now in
    let groups = c.loop-i.groups.items in
    let all = take_all c.loop-i.i-index waiting c.loop-i-test.false in
    let grouped : AreGrouped p blocks waiting c.loop-i.known groups = subst (λ (xs : List ℕ). AreGrouped p blocks xs c.loop-i.known groups) all c.loop-i.invariant in
    record {
      within = AreGrouped-within p blocks waiting (length labels) c.loop-i.known groups grouped c.requires.within;
      saturated = AreGrouped-saturated p blocks waiting c.loop-i.known groups (closed labels starts children c.requires.formed) c.requires.together c.requires.saturated grouped;
    }
