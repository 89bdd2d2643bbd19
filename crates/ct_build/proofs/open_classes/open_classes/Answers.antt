use Rattle.std.proofs.Common.{rules, ◌≡◌, length, replicate, ◌∙◌, ap, arith}
use Rattle.std.proofs.lemmas.List.{length-replicate}
use Rattle.ct_sorts.specs.Declarations.{Declarations}
use Rattle.ct_build.proofs.ListedLemmas.{counts_none, first_open_none, all_open, all_own}
use Rattle.ct_build.proofs.open_classes.open_classes.Goals as goal

pub loop-t-init : goal.loop-t-init
loop-t-init c =
    let none : c.in_ok-counts.counts.items ≡ replicate c.sorts.result 0 = c.in_ok-counts.ensures.items_if_clones_equal (search rules) in
    record {
      many = ap length none ∙ length-replicate c.sorts.result 0 ∙ c.sorts.ensures.count ∙ ap (λ (d : Declarations). length d.sorts) c.signature.ensures.value;
      counts = counts_none c.args.classes.now _ _ c.sorts.result c.new-list.ensures.items none;
      first = first_open_none c.args.classes.now _ c.new-list.ensures.items;
    }

pub returns : goal.returns
returns c =
    let count : c.loop-t.t ≡ length c.args.classes.now.reps = omega (arith, c.len-t-end.ensures.count, ap length c.table.ensures.value, c.loop-t-test.false, c.facts.ensures.long) in
    record {
      classes = all_open c.args.classes.now c.loop-t.t c.loop-t.list.items count c.loop-t.invariant.first;
      own = all_own c.args.classes.now c.loop-t.t c.loop-t.list.items count c.loop-t.invariant.first;
    }
