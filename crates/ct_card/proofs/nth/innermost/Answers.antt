use Rattle.std.proofs.Common.{◌≡◌, ◌++◌, ◌∷◌, [], Bool, false, append-nil, slice_get, Some, sym, ◌∙◌, ap, subst, arith}
use Rattle.ct_lemmas.proofs.Lists.{slice_get-last}
use Rattle.ct_values.specs.Graph.{Nodes}
use Rattle.ct_values.specs.Agreement.{node_point}
use Rattle.ct_values.specs.Fitting.{HasNodeSort}
use Rattle.ct_values.specs.WellFormed.{IsWellFormedGraph}
use Rattle.ct_card.specs.Defaults.{is_free_sort}
use Rattle.ct_card.specs.Descent.{IsWanted}
use Rattle.ct_card.proofs.WellFormedLemmas.{well_formed_pushed}
use Rattle.ct_card.proofs.PathLemmas.{Agrees}
use Rattle.ct_card.proofs.EndLemmas.{can_depart, end_sort}
use Rattle.ct_card.proofs.DescentLemmas.{come_down_some}
use Rattle.ct_card.proofs.LayerLemmas.{end_nth}
use Rattle.ct_card.proofs.MadeLemmas.{none_from}
use Rattle.ct_card.proofs.nth.innermost.Goals as goal

pub returns-in-Some : goal.returns-in-Some
returns-in-Some c =
    let made = c.requires.found c.in-Some.top c.in-Some.is in
    let wanted = c.args.down.now.wanted in
    record {
      grown = ([], sym (append-nil c.args.g.now));
      well_formed = λ formed. formed;
      sorted = c.requires.made wanted.sort wanted.number c.in-Some.top made.1;
      nth = λ ctors seconds are all all_seconds are_made. subst (λ (turn : Bool). IsWanted c.args.sig.now ctors seconds c.args.layers.now (record { sort = wanted.sort; number = wanted.number; turn = turn }) (node_point c.args.g.now c.in-Some.top)) (sym made.0) (are_made wanted.sort wanted.number c.in-Some.top made.1);
    }

pub push_end-requires-clause-can : goal.push_end-requires-clause-can
push_end-requires-clause-can c = λ other.
    let d = c.args.sig.now in
    let e = c.structure.ensures in
    let k = c.sorts.ensures.consistent in
    let layers = c.args.layers.now in
    let wanted = c.args.down.now.wanted in
    let last = c.layer_at-last.result in
    let stored : slice_get layers wanted.sort ≡ Some last = c.layer_at-last.ensures.value (omega (arith, c.requires.inside, c.requires.layered.long)) in
    let is = c.requires.layered.each wanted.sort last stored c.requires.infinite other in
    let none = none_from c.args.down.now.top c.in_default.not-Some in
    can_depart d k (e.own_constructors d k) (e.own_selectors d k) (e.of_their_sorts d k) (e.of_their_constructors d k) c.args.several.now c.args.ranks.now c.args.base c.args.g.now wanted.sort c.args.second last.departure last.step.ctor c.requires.inside (is.index, is.listed) is.departs
    (come_down_some d layers wanted last (c.requires.end none) other stored)
    (λ t derived less. (c.requires.room t derived, c.requires.seconds t derived))

pub returns-clause-well_formed : goal.returns-clause-well_formed
returns-clause-well_formed c = λ formed.
    let pushed = c.in_ok-top.ensures.pushed in
    subst (λ (x : Nodes). IsWellFormedGraph c.args.sig.now x) (sym pushed.3) (well_formed_pushed c.args.sig.now c.args.g.now pushed.0 formed pushed.2)

pub returns-clause-sorted : goal.returns-clause-sorted
returns-clause-sorted c =
    let d = c.args.sig.now in
    let e = c.structure.ensures in
    let k = c.sorts.ensures.consistent in
    let layers = c.args.layers.now in
    let g = c.args.g.now in
    let wanted = c.args.down.now.wanted in
    let last = c.layer_at-last.result in
    let stored : slice_get layers wanted.sort ≡ Some last = c.layer_at-last.ensures.value (omega (arith, c.requires.inside, c.requires.layered.long)) in
    let pushed = c.in_ok-top.ensures.pushed in
    let node = pushed.0 in
    let departs = λ (other : is_free_sort d wanted.sort ≡ false). c.requires.layered.each wanted.sort last stored c.requires.infinite other in
    subst (λ (x : Nodes). HasNodeSort d x c.in_ok-top.top (record { 0 = wanted.sort })) (sym pushed.3)
    (node, ap (slice_get (g ++ node ∷ [])) c.in_ok-top.ensures.number ∙ slice_get-last g node, end_sort d k (e.own_constructors d k) (e.own_selectors d k) (e.of_their_sorts d k) (e.of_their_constructors d k) c.args.several.now c.args.ranks.now c.args.base wanted.sort c.args.second wanted.number last.departure node c.requires.inside (λ other. (last.step.ctor, ((departs other).index, (departs other).listed), (departs other).departs)) pushed.1)

pub returns-clause-nth : goal.returns-clause-nth
returns-clause-nth c = λ ctors seconds are all all_seconds are_made.
    let d = c.args.sig.now in
    let laws : Agrees = record { always = c.agreement.ensures.always; turned = c.agreement.ensures.turned; grown = c.agreement.ensures.always_grown } in
    let layers = c.args.layers.now in
    let g = c.args.g.now in
    let wanted = c.args.down.now.wanted in
    let last = c.layer_at-last.result in
    let stored : slice_get layers wanted.sort ≡ Some last = c.layer_at-last.ensures.value (omega (arith, c.requires.inside, c.requires.layered.long)) in
    let pushed = c.in_ok-top.ensures.pushed in
    let departs = λ (other : is_free_sort d wanted.sort ≡ false). c.requires.layered.each wanted.sort last stored c.requires.infinite other in
    subst (λ (x : Nodes). IsWanted d ctors seconds layers wanted (node_point x c.in_ok-top.top)) (sym pushed.3)
    (end_nth laws d c.args.several.now c.args.ranks.now ctors seconds layers c.args.base are c.requires.several.long g c.args.second wanted c.in_ok-top.top last pushed.0 c.len.ensures.closed c.in_ok-top.ensures.number all_seconds stored departs (c.requires.end (none_from c.args.down.now.top c.in_default.not-Some)) pushed.1)
