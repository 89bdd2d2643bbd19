use Rattle.std.proofs.Common.{◌≡◌, ◌∷◌, [], List, false, refl, sym, subst, arith}
use Rattle.std.proofs.lemmas.List.{nil_from_length}
use Rattle.std.proofs.lemmas.Option.{slice_get_within}
use Rattle.ct_sorts.specs.Grown.{Begins}
use Rattle.ct_values.specs.Graph.{Nodes}
use Rattle.ct_values.specs.Agreement.{node_point}
use Rattle.ct_values.specs.Fitting.{HasNodeSort}
use Rattle.ct_values.specs.WellFormed.{IsWellFormedGraph}
use Rattle.ct_card.specs.declared.descent.Wanted.{Wanted}
use Rattle.ct_card.specs.declared.descent.Passed.{Passed}
use Rattle.ct_card.specs.Defaults.{node_of_sort}
use Rattle.ct_card.specs.Built.{node_of_layer}
use Rattle.ct_card.specs.Signs.{HasAllDefaults, HasAllSeconds}
use Rattle.ct_card.specs.Descent.{IsWanted, LeadsDown}
use Rattle.ct_card.proofs.ListLemmas.{begins_pushed}
use Rattle.ct_card.proofs.WellFormedLemmas.{well_formed_pushed, longer_sort}
use Rattle.ct_card.proofs.PathLemmas.{Agrees}
use Rattle.ct_card.proofs.SignLemmas.{longer_defaults, longer_second}
use Rattle.ct_card.proofs.LayerLemmas.{layer_nth, popped, can_set, layer_sort}
use Rattle.ct_card.proofs.nth.append_nth.Goals as goal

pub loop-passed-init : goal.loop-passed-init
loop-passed-init c =
    let d = c.args.sig.now in
    let ranks = c.args.ranks.now in
    let base = c.args.base in
    let several = c.args.several.now in
    let second = c.args.second in
    let down = c.in_ok-down.down in
    let step = c.in_ok-top.ensures in
    let (more, is) = step.grown in
    record {
      grown = step.grown;
      formed = step.well_formed;
      sorted = λ t within. subst (λ (x : Nodes). HasNodeSort d x (node_of_sort base ranks t) (record { 0 = t })) (sym is) (longer_sort d c.args.g.now more (node_of_sort base ranks t) (record { 0 = t }) (c.requires.sorted t within));
      seconds = λ t derived. subst (λ (x : Nodes). HasNodeSort d x (node_of_sort second several t) (record { 0 = t })) (sym is) (longer_sort d c.args.g.now more (node_of_sort second several t) (record { 0 = t }) (c.requires.seconds t derived));
      below = (down.wanted, c.in_ok-down.ensures.down, step.sorted, step.nth);
    }

pub push_layer-requires : goal.push_layer-requires
push_layer-requires c =
    let d = c.args.sig.now in
    let e = c.structure.ensures in
    let k = c.sorts.ensures.consistent in
    let inv = c.loop-passed.invariant in
    let several = c.args.several.now in
    let layers = c.args.layers.now in
    let layer = c.layer_at-layer.result in
    let below = inv.below.0 in
    let first : Wanted = record { sort = c.args.s; number = c.args.n; turn = false } in
    let p = popped d k (e.own_constructors d k) (e.own_selectors d k) (e.of_their_sorts d k) (e.of_their_constructors d k) several layers c.requires.layered first c.loop-passed.down.way.items c.pop.new.self.items c.in-Some.passed below layer inv.below.1 c.in-Some.ensures.items c.layer_at-layer.ensures.value in
    record {
      inside = p.within;
      long = c.requires.long;
      ranked = c.requires.ranked;
      sorted = inv.sorted;
      field = p.is.field;
      child = subst (λ u. HasNodeSort d c.loop-passed.g c.loop-passed.top (record { 0 = u })) (sym p.passed.leads.next) inv.below.2;
      set = can_set d k (e.own_constructors d k) (e.own_selectors d k) (e.of_their_sorts d k) (e.of_their_constructors d k) several layers first c.pop.new.self.items c.in-Some.passed below layer c.args.second c.loop-passed.g p inv.seconds c.requires.room;
    }

pub loop-passed-preserved : goal.loop-passed-preserved
loop-passed-preserved c =
    let d = c.args.sig.now in
    let e = c.structure.ensures in
    let k = c.sorts.ensures.consistent in
    let laws : Agrees = record { always = c.agreement.ensures.always; turned = c.agreement.ensures.turned; grown = c.agreement.ensures.always_grown } in
    let inv = c.loop-passed.invariant in
    let several = c.args.several.now in
    let ranks = c.args.ranks.now in
    let layers = c.args.layers.now in
    let base = c.args.base in
    let second = c.args.second in
    let x = c.in-Some.passed in
    let layer = c.layer_at-layer.result in
    let below = inv.below.0 in
    let first : Wanted = record { sort = c.args.s; number = c.args.n; turn = false } in
    let p = popped d k (e.own_constructors d k) (e.own_selectors d k) (e.of_their_sorts d k) (e.of_their_constructors d k) several layers c.requires.layered first c.loop-passed.down.way.items c.pop.new.self.items x below layer inv.below.1 c.in-Some.ensures.items c.layer_at-layer.ensures.value in
    let g = c.loop-passed.g in
    let top = c.loop-passed.top in
    let n = c.in_ok-top-2.top in
    let number = c.in_ok-top-2.ensures.number in
    let is = c.in_ok-top-2.ensures.pushed in
    let node = node_of_layer d several ranks base second layer.step x.set top in
    record {
      grown = subst (λ (z : Nodes). Begins c.args.g.now z) (sym is) (begins_pushed c.args.g.now g node inv.grown);
      formed = λ formed. subst (λ (z : Nodes). IsWellFormedGraph d z) (sym is) (well_formed_pushed d g node (inv.formed formed) c.in_ok-top-2.ensures.fits);
      sorted = λ t within. subst (λ (z : Nodes). HasNodeSort d z (node_of_sort base ranks t) (record { 0 = t })) (sym is) (longer_sort d g (node ∷ []) (node_of_sort base ranks t) (record { 0 = t }) (inv.sorted t within));
      seconds = λ t derived. subst (λ (z : Nodes). HasNodeSort d z (node_of_sort second several t) (record { 0 = t })) (sym is) (longer_sort d g (node ∷ []) (node_of_sort second several t) (record { 0 = t }) (inv.seconds t derived));
      below = (
        p.wanted,
        p.leads,
        subst (λ (z : Nodes). HasNodeSort d z n (record { 0 = p.wanted.sort })) (sym is) (layer_sort d k (e.own_constructors d k) (e.own_selectors d k) (e.of_their_sorts d k) (e.of_their_constructors d k) several ranks base second g p.wanted.sort layer x.set n top p.is p.inside number),
        λ ctors seconds are all all_seconds are_made. subst (λ (z : Nodes). IsWanted d ctors seconds layers p.wanted (node_point z n)) (sym is)
            (layer_nth laws d several ranks ctors seconds layers base are c.requires.several.long g second p.wanted below n top layer x.set node c.len-in-Some.ensures.closed number (slice_get_within g top.0 inv.below.2.0 inv.below.2.1)
            (subst (λ (z : Nodes). HasAllDefaults d ranks ctors base z) (sym inv.grown.1) (longer_defaults d ranks ctors base c.args.g.now inv.grown.0 all))
            (subst (λ (z : Nodes). HasAllSeconds d several ctors seconds second z) (sym inv.grown.1) (λ t derived. longer_second laws d ctors seconds c.args.g.now inv.grown.0 t (node_of_sort second several t) c.len.ensures.closed (all_seconds t derived)))
            p.is p.passed (inv.below.3 ctors seconds are all all_seconds are_made) refl),
      );
    }

pub returns : goal.returns
returns c =
    let d = c.args.sig.now in
    let inv = c.loop-passed.invariant in
    let way = c.loop-passed.down.way.items in
    let first : Wanted = record { sort = c.args.s; number = c.args.n; turn = false } in
    let none_left : way ≡ [] = nil_from_length way (omega (arith, c.in_default.ensures.cases, c.loop-passed.down.way.ok.0)) in
    let here : first ≡ inv.below.0 = subst (λ (w : List Passed). LeadsDown d c.args.layers.now first w inv.below.0) none_left inv.below.1 in
    record {
      grown = inv.grown;
      well_formed = inv.formed;
      sorted = subst (λ (w : Wanted). HasNodeSort d c.loop-passed.g c.loop-passed.top (record { 0 = w.sort })) (sym here) inv.below.2;
      nth = λ ctors seconds are all all_seconds are_made.
          subst (λ (w : Wanted). IsWanted d ctors seconds c.args.layers.now w (node_point c.loop-passed.g c.loop-passed.top)) (sym here) (inv.below.3 ctors seconds are all all_seconds are_made);
    }
