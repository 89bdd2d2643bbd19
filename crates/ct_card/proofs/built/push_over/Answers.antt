use Rattle.std.proofs.Common.{◌<◌, ◌++◌, ◌∷◌, [], List, All, length, sym, ◌∙◌, ap, subst}
use Rattle.ct_values.specs.declared.node.NodeId.{NodeId}
use Rattle.ct_values.specs.declared.node.Node.TheVariants.{Con}
use Rattle.ct_card.specs.Built.{node_over}
use Rattle.ct_card.proofs.BuiltLemmas.{fits_over, fits_below}
use Rattle.ct_card.proofs.built.push_over.Goals as goal

pub push-requires : goal.push-requires
push-requires c =
    let d = c.args.sig.now in
    let e = c.structure.ensures in
    let k = c.sorts.ensures.consistent in
    let g = c.args.g.now in
    let fits = fits_over d k (e.own_constructors d k) (e.own_selectors d k) (e.of_their_sorts d k) (e.of_their_constructors d k) c.args.ranks.now c.args.base g c.requires.sorted c.args.c c.requires.inside in
    record { below = subst (λ (ids : List NodeId). All (λ child. child.0 < length g) ids) (sym (c.new.ensures.value ∙ c.in_ok-children.ensures.value)) (fits_below d g (node_over d c.args.ranks.now c.args.base c.args.c) fits) }

pub returns : goal.returns
returns c =
    let d = c.args.sig.now in
    let e = c.structure.ensures in
    let k = c.sorts.ensures.consistent in
    let g = c.args.g.now in
    record {
      number = c.in_ok-n.ensures.ok.0;
      pushed = c.in_ok-n.ensures.ok.1 ∙ ap (λ (ids : List NodeId). g ++ Con c.args.c ids ∷ []) (c.new.ensures.value ∙ c.in_ok-children.ensures.value);
      fits = fits_over d k (e.own_constructors d k) (e.own_selectors d k) (e.of_their_sorts d k) (e.of_their_constructors d k) c.args.ranks.now c.args.base g c.requires.sorted c.args.c c.requires.inside;
      err = tt;
    }
