use Rattle.std.proofs.Common.{◌<◌, ◌++◌, ◌∷◌, [], List, All, length, map, slice_set, sym, ◌∙◌, ap, subst}
use Rattle.std.proofs.Math.Seq.{lt-length-set}
use Rattle.std.proofs.lemmas.Option.{slice_get_within}
use Rattle.ct_lemmas.proofs.Lists.{slice_get-map_at}
use Rattle.ct_values.specs.declared.node.NodeId.{NodeId}
use Rattle.ct_values.specs.declared.node.Node.TheVariants.{Con}
use Rattle.ct_card.specs.Defaults.{node_of_sort}
use Rattle.ct_card.specs.Fields.{ctor_fields}
use Rattle.ct_card.specs.Built.{node_of_layer, with_second}
use Rattle.ct_card.proofs.BuiltLemmas.{fits_layer, fits_below}
use Rattle.ct_card.proofs.built.push_layer.Goals as goal

pub set_second-requires-clause-inside : goal.set_second-requires-clause-inside
set_second-requires-clause-inside c = λ other e.
    let d = c.args.sig.now in
    let step = c.args.step in
    let of_sort = node_of_sort c.args.base c.args.ranks.now in
    let nodes = map of_sort (ctor_fields d step.ctor) in
    let at = slice_get-map_at of_sort (ctor_fields d step.ctor) other.place other.next (c.requires.set other e).field.field in
    let within : other.place < length nodes = slice_get_within nodes other.place (of_sort other.next) at in
    subst (λ (ids : List NodeId). other.place < length (slice_set ids step.place c.args.child)) (sym c.in_ok-children.ensures.value) (lt-length-set nodes step.place c.args.child within)

pub push-requires : goal.push-requires
push-requires c =
    let d = c.args.sig.now in
    let e = c.structure.ensures in
    let k = c.sorts.ensures.consistent in
    let g = c.args.g.now in
    let several = c.args.several.now in
    let step = c.args.step in
    let child = c.args.child in
    let fits = fits_layer d k (e.own_constructors d k) (e.own_selectors d k) (e.of_their_sorts d k) (e.of_their_constructors d k) c.args.ranks.now c.args.base g c.requires.sorted several c.args.second step c.args.set child c.requires.inside c.requires.field c.requires.child c.requires.set in
    let nodes = c.new.ensures.value ∙ c.set_second.ensures.set ∙ ap (λ (ids : List NodeId). with_second several c.args.second c.args.set (slice_set ids step.place child)) c.in_ok-children.ensures.value in
    record { below = subst (λ (ids : List NodeId). All (λ child. child.0 < length g) ids) (sym nodes) (fits_below d g (node_of_layer d several c.args.ranks.now c.args.base c.args.second step c.args.set child) fits) }

pub returns : goal.returns
returns c =
    let d = c.args.sig.now in
    let e = c.structure.ensures in
    let k = c.sorts.ensures.consistent in
    let g = c.args.g.now in
    let several = c.args.several.now in
    let step = c.args.step in
    let child = c.args.child in
    let nodes = c.new.ensures.value ∙ c.set_second.ensures.set ∙ ap (λ (ids : List NodeId). with_second several c.args.second c.args.set (slice_set ids step.place child)) c.in_ok-children.ensures.value in
    record {
      number = c.in_ok-n.ensures.ok.0;
      pushed = c.in_ok-n.ensures.ok.1 ∙ ap (λ (ids : List NodeId). g ++ Con step.ctor ids ∷ []) nodes;
      fits = fits_layer d k (e.own_constructors d k) (e.own_selectors d k) (e.of_their_sorts d k) (e.of_their_constructors d k) c.args.ranks.now c.args.base g c.requires.sorted several c.args.second step c.args.set child c.requires.inside c.requires.field c.requires.child c.requires.set;
      err = tt;
    }
