use Rattle.std.proofs.Common.{◌≡◌, ◌≤◌, length, sym, ◌∙◌, ap, subst, arith}
use Rattle.ct_card.specs.Extended.{IsLater, AreCut}
use Rattle.ct_card.specs.Sizes.{Table, AreSizes}
use Rattle.ct_card.proofs.CutLemmas.{first_of_list}
use Rattle.ct_card.proofs.GrownLemmas.{all_cut, none_gone}
use Rattle.ct_card.proofs.StayLemmas.{fewer_sorts}
use Rattle.ct_card.proofs.sizes.Sizes.cut_to.Goals as goal

pub returns-then-count-len : goal.returns-then-count-len
returns-then-count-len c = record {
  sizes = λ d e consistent extends same before.
      let later : IsLater d e = record { extends = extends; own_ctors = c.structure.ensures.own_constructors e consistent; own_sels = c.structure.ensures.own_selectors e consistent; fields = consistent.fields } in
      let s = c.structure.ensures in
      let few : length e.sorts ≤ length d.sorts = fewer_sorts d e later in
      let all : length e.sorts ≡ length d.sorts = omega (arith, few, c.if-count-len.true, c.len.ensures, c.self.inside.sizes.ok.0, ap (λ (t : Table). length t.sizes) c.self.view_is, before.long, same) in
      none_gone d e later consistent (s.own_constructors e consistent) (s.own_selectors e consistent) (s.of_their_sorts e consistent) (s.of_their_constructors e consistent) c.args.self.now before all;
}

pub returns : goal.returns
returns c = record {
  sizes = λ d e consistent extends same before.
      let later : IsLater d e = record { extends = extends; own_ctors = c.structure.ensures.own_constructors e consistent; own_sels = c.structure.ensures.own_selectors e consistent; fields = consistent.fields } in
      let s = c.structure.ensures in
      let few : length e.sorts ≤ length d.sorts = fewer_sorts d e later in
      let i = c.self.inside in
      let whole : Table = record { sizes = i.sizes.items; several = i.several.items; queue = i.queue.items; ranks = i.ranks.items; order = i.order.items; ctors = i.ctors.items; seconds = i.seconds.items; layers = i.layers.items; small = i.small.items; settled = i.settled.items } in
      let all : AreSizes d whole = subst (λ (t : Table). AreSizes d t) (sym c.self.view_is) before in
      let cut : Table = record { sizes = c.truncate.new.self.items; several = c.keep_below.new.ranks.items; queue = c.keep_below.new.order.items; ranks = c.keep_below-2.new.ranks.items; order = c.keep_below-2.new.order.items; ctors = c.truncate-2.new.self.items; seconds = c.truncate-3.new.self.items; layers = c.truncate-4.new.self.items; small = c.keep_below-3.new.ranks.items; settled = c.keep_below-3.new.order.items } in
      let sizes = first_of_list c.args.sorts c.self.inside.sizes.items c.truncate.new.self.items c.truncate.ensures.items (omega (arith, few, same, all.long)) in
      let ctors = first_of_list c.args.sorts c.self.inside.ctors.items c.truncate-2.new.self.items c.truncate-2.ensures.items (omega (arith, few, same, all.plan.chosen.long)) in
      let seconds = first_of_list c.args.sorts c.self.inside.seconds.items c.truncate-3.new.self.items c.truncate-3.ensures.items (omega (arith, few, same, all.departures.long)) in
      let layers = first_of_list c.args.sorts c.self.inside.layers.items c.truncate-4.new.self.items c.truncate-4.ensures.items (omega (arith, few, same, all.layered.long)) in
      let in_several : c.args.sorts ≤ length i.several.items = omega (arith, few, same, all.several.long) in
      let in_ranks : c.args.sorts ≤ length i.ranks.items = omega (arith, few, same, all.plan.founded.long) in
      let in_small : c.args.sorts ≤ length i.small.items = omega (arith, few, same, all.small.long) in
      all_cut d e later consistent (s.own_constructors e consistent) (s.own_selectors e consistent) (s.of_their_sorts e consistent) (s.of_their_constructors e consistent) whole cut all
      (subst (λ n. AreCut i.several.items c.keep_below.new.ranks.items n) same (c.keep_below.ensures.cut in_several all.queued))
      (subst (λ n. AreCut i.ranks.items c.keep_below-2.new.ranks.items n) same (c.keep_below-2.ensures.cut in_ranks all.plan.founded.ordered))
      (subst (λ n. AreCut i.small.items c.keep_below-3.new.ranks.items n) same (c.keep_below-3.ensures.cut in_small all.settled))
      (c.keep_below.ensures.order in_several all.queued) (c.keep_below-2.ensures.order in_ranks all.plan.founded.ordered) (c.keep_below-3.ensures.order in_small all.settled)
      (sizes.0 ∙ same) sizes.1 (ctors.0 ∙ same) ctors.1 (seconds.0 ∙ same) seconds.1 (layers.0 ∙ same) layers.1;
}
