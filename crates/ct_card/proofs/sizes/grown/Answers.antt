use Rattle.std.proofs.Common.{ℕ, List, length, sym, ◌∙◌, ap, subst}
use Rattle.ct_sorts.specs.declared.ids.CtorId.{CtorId}
use Rattle.ct_card.specs.Defaults.{AreChosen}
use Rattle.ct_card.specs.Extended.{AreGrownBy, IsChosen, IsSecond, IsLayerOf}
use Rattle.ct_card.specs.Ranked.{AreSmall}
use Rattle.ct_card.specs.Sizes.{Table, AreSizes, IsSizeBy}
use Rattle.ct_card.proofs.GrownLemmas.{all_grown, chosen_grown}
use Rattle.ct_card.proofs.sizes.grown.Goals as goal

pub push_seconds-requires-clause-chosen : goal.push_seconds-requires-clause-chosen
push_seconds-requires-clause-chosen c =
    let d = c.args.sig.now in
    let s = c.structure.ensures in
    let k = c.sorts.ensures.consistent in
    let (e, later, before) = c.requires.earlier in
    let i = c.all.inside in
    let old : Table = record { sizes = i.sizes.items; several = i.several.items; queue = i.queue.items; ranks = i.ranks.items; order = i.order.items; ctors = i.ctors.items; seconds = i.seconds.items; layers = i.layers.items; small = i.small.items; settled = i.settled.items } in
    let was : AreSizes e old = subst (λ (t : Table). AreSizes e t) (sym c.all.view_is) before in
    let new : Table = record old { ranks = c.founding.new.ranks.items; ctors = c.push_choices.new.ctors.items } in
    let ctors = c.push_choices.new.ctors.items in
    let grown = subst (λ (l : List ℕ). AreGrownBy (IsChosen d l) i.ctors.items ctors) c.deref-4.ensures.value c.in_ok-push_choices.ensures.chosen in (
      c.founding.new.ranks.items,
      subst (λ (l : List CtorId). AreChosen d c.founding.new.ranks.items l) (sym c.deref-6.ensures.value)
          (chosen_grown d e later k (s.own_constructors d k) (s.own_selectors d k) (s.of_their_sorts d k) (s.of_their_constructors d k) old new was c.in_ok-founding.ensures.stayed c.in_ok-push_choices.ensures.long grown),
    )

pub returns : goal.returns
returns c =
    let d = c.args.sig.now in
    let s = c.structure.ensures in
    let k = c.sorts.ensures.consistent in
    let (e, later, before) = c.requires.earlier in
    let i = c.all.inside in
    let old : Table = record { sizes = i.sizes.items; several = i.several.items; queue = i.queue.items; ranks = i.ranks.items; order = i.order.items; ctors = i.ctors.items; seconds = i.seconds.items; layers = i.layers.items; small = i.small.items; settled = i.settled.items } in
    let was : AreSizes e old = subst (λ (t : Table). AreSizes e t) (sym c.all.view_is) before in
    let several = c.several_ranks.new.ranks.items in
    let small = c.small_ranks.new.ranks.items in
    let ranks = c.founding.new.ranks.items in
    let ctors = c.push_choices.new.ctors.items in
    let new : Table = record { sizes = c.push_sizes.new.sizes.items; several = several; queue = c.several_ranks.new.order.items; ranks = ranks; order = c.founding.new.order.items; ctors = ctors; seconds = c.push_seconds.new.all.items; layers = c.push_layers.new.all.items; small = small; settled = c.small_ranks.new.order.items } in
    let small_is : AreSmall d several small = subst (λ (l : List ℕ). AreSmall d l small) c.deref.ensures.value c.in_ok-small_ranks.ensures.small in
    let sizes = subst (λ (l : List ℕ). AreGrownBy (IsSizeBy l small) i.sizes.items c.push_sizes.new.sizes.items) c.deref-2.ensures.value
    (subst (λ (l : List ℕ). AreGrownBy (IsSizeBy c.deref-2.result.now l) i.sizes.items c.push_sizes.new.sizes.items) c.deref-3.ensures.value c.in_ok-push_sizes.ensures.sizes) in
    let sizes_long = c.in_ok-push_sizes.ensures.long ∙ ap (λ (l : List ℕ). length l) c.deref-2.ensures.value ∙ c.in_ok-several_ranks.ensures.several.long in
    let chosen = subst (λ (l : List ℕ). AreGrownBy (IsChosen d l) i.ctors.items ctors) c.deref-4.ensures.value c.in_ok-push_choices.ensures.chosen in
    let seconds = subst (λ (l : List ℕ). AreGrownBy (IsSecond d l ctors) i.seconds.items c.push_seconds.new.all.items) c.deref-5.ensures.value
    (subst (λ (l : List CtorId). AreGrownBy (IsSecond d c.deref-5.result.now l) i.seconds.items c.push_seconds.new.all.items) c.deref-6.ensures.value c.in_ok-push_seconds.ensures.seconds) in
    let layers = subst (λ (l : List ℕ). AreGrownBy (IsLayerOf d l) i.layers.items c.push_layers.new.all.items) c.deref-7.ensures.value c.in_ok-push_layers.ensures.layers in
    record {
      sizes = all_grown d e later k (s.own_constructors d k) (s.own_selectors d k) (s.of_their_sorts d k) (s.of_their_constructors d k) old new was c.in_ok-several_ranks.ensures.stayed c.in_ok-founding.ensures.stayed c.in_ok-several_ranks.ensures.several c.in_ok-several_ranks.ensures.order small_is c.in_ok-small_ranks.ensures.order c.in_ok-founding.ensures.founded
          sizes_long sizes c.in_ok-push_choices.ensures.long chosen c.in_ok-push_seconds.ensures.long seconds c.in_ok-push_layers.ensures.long layers;
    }
