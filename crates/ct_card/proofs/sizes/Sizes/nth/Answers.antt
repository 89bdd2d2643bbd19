use Rattle.std.proofs.Common.{◌≡◌, List, ℕ, sym, ◌∙◌, ap, subst}
use Rattle.std.proofs.lemmas.Option.{none-some}
use Rattle.ct_sorts.specs.declared.ids.CtorId.{CtorId}
use Rattle.ct_values.specs.Agreement.{node_point}
use Rattle.ct_card.specs.declared.departure.Departure.{Departure}
use Rattle.ct_card.specs.declared.departure.Layer.{Layer}
use Rattle.ct_card.specs.Departures.{AreSeconds}
use Rattle.ct_card.specs.Sizes.{Table}
use Rattle.ct_card.specs.Nth.{IsNthIn}
use Rattle.ct_card.proofs.sizes.Sizes.nth.Goals as goal

pub append_nth-requires-clause-sorted : goal.append_nth-requires-clause-sorted
append_nth-requires-clause-sorted c = c.in_ok-second.ensures.defaults.sorted

pub append_nth-requires-clause-seconds : goal.append_nth-requires-clause-seconds
append_nth-requires-clause-seconds c = λ t derived. (c.in_ok-second.ensures.seconds t derived).sorted

pub returns-clause-nth : goal.returns-clause-nth
returns-clause-nth c =
    let d = c.args.sig.now in
    let table = c.args.self.now in
    let several = c.as_slice-several.result.now in
    let layers = c.as_slice-layers.result.now in
    let ctors = c.deref-4.result.now in
    let seconds = c.deref-5.result.now in
    let same_several : several ≡ table.several = c.as_slice-several.ensures.value ∙ ap (λ (t : Table). t.several) c.self.view_is in
    let same_layers : layers ≡ table.layers = c.as_slice-layers.ensures.value ∙ ap (λ (t : Table). t.layers) c.self.view_is in
    let same_ctors : ctors ≡ table.ctors = c.deref-4.ensures.value ∙ ap (λ (t : Table). t.ctors) c.self.view_is in
    let same_seconds : seconds ≡ table.seconds = c.deref-5.ensures.value ∙ ap (λ (t : Table). t.seconds) c.self.view_is in
    let are : AreSeconds d several ctors seconds =
    subst (λ (l : List ℕ). AreSeconds d l ctors seconds) (sym same_several)
    (subst (λ (l : List CtorId). AreSeconds d table.several l seconds) (sym same_ctors)
    (subst (λ (l : List Departure). AreSeconds d table.several table.ctors l) (sym same_seconds) c.requires.sizes.departures)) in
    let p = node_point c.append_nth.new.g c.in_ok-k.k in
    let nth : IsNthIn d ctors seconds layers c.args.s.0 c.args.n p = c.in_ok-k.ensures.nth ctors seconds are c.in_ok-second.ensures.defaults c.in_ok-second.ensures.seconds (λ s n k made. absurd (none-some _ made.1)) in
    subst (λ (l : List CtorId). IsNthIn d l table.seconds table.layers c.args.s.0 c.args.n p) same_ctors
    (subst (λ (l : List Departure). IsNthIn d ctors l table.layers c.args.s.0 c.args.n p) same_seconds
    (subst (λ (l : List Layer). IsNthIn d ctors seconds l c.args.s.0 c.args.n p) same_layers nth))
