use Rattle.std.proofs.Common.{◌≡◌, ◌<◌, false, length, get_or, slice_get, Some, None, sym, ◌∙◌, subst, arith}
use Rattle.std.proofs.lemmas.Option.{slice_get-get_or}
use Rattle.ct_card.specs.declared.departure.Layer.{Layer}
use Rattle.ct_card.specs.declared.departure.Departure.TheVariants.{Nowhere}
use Rattle.ct_card.specs.Defaults.{is_free_sort}
use Rattle.ct_card.specs.Descent.{LeadsTo}
use Rattle.ct_card.proofs.DefaultLemmas.{free_kind_at}
use Rattle.ct_card.proofs.BuiltLemmas.{own_within, field_within}
use Rattle.ct_card.proofs.DescentLemmas.{step_down}
use Rattle.ct_card.proofs.descent.go_down.Goals as goal

pub returns-clause-further : goal.returns-clause-further
returns-clause-further c = λ _.
    let d = c.args.sig.now in
    let e = c.structure.ensures in
    let k = c.sorts.ensures.consistent in
    let layers = c.args.layers.now in
    let wanted = c.args.down.now.wanted in
    let below = c.in-Some.below in
    let none : Layer = record { step = record { ctor = record { 0 = 0 }; place = 0; next = 0 }; departure = Nowhere; digit = None } in
    let layer : Layer = get_or layers wanted.sort none in
    let stored : slice_get layers wanted.sort ≡ Some layer = slice_get-get_or layers wanted.sort none (omega (arith, c.requires.layered.long, c.requires.inside)) in
    let other : is_free_sort d wanted.sort ≡ false = free_kind_at d k (e.own_constructors d k) (e.own_selectors d k) (e.of_their_sorts d k) (e.of_their_constructors d k) wanted.sort c.kind.result c.kind.ensures.value ∙ sym c.is_free.ensures.value ∙ c.if-is_free.false in
    let is = c.requires.layered.each wanted.sort layer stored c.requires.infinite other in
    let within = own_within d k (e.own_constructors d k) (e.own_selectors d k) (e.of_their_sorts d k) (e.of_their_constructors d k) wanted.sort is.index layer.step.ctor c.requires.inside is.listed in
    let leads : LeadsTo layer wanted below.wanted below.set = c.wanted_below.ensures.leads below c.in-Some.is in
    let inside : below.wanted.sort < length d.sorts = subst (λ u. u < length d.sorts) leads.next (field_within d k (e.own_constructors d k) (e.own_selectors d k) (e.of_their_sorts d k) (e.of_their_constructors d k) layer.step.ctor layer.step.place layer.step.next within is.field) in
    step_down d c.args.several.now layers c.args.down.now.way.items wanted c.push.new.self.items below.wanted layer below.set is stored other leads c.in_ok-push.ensures.items inside
