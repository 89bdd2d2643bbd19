use Rattle.std.proofs.Common.{◌≡◌, false, cond, List, map, get_or, slice_get, Some, sym, ◌∙◌, ap, arith}
use Rattle.std.proofs.lemmas.Option.{same_Some, slice_get-get_or}
use Rattle.ct_sorts.specs.declared.ids.CtorId.{CtorId}
use Rattle.ct_values.specs.declared.node.NodeId.{NodeId}
use Rattle.ct_values.specs.declared.node.Node.TheVariants.{Con, Elem}
use Rattle.ct_card.specs.Fields.{ctor_fields}
use Rattle.ct_card.specs.Defaults.{is_free_sort, node_of_sort}
use Rattle.ct_card.proofs.DefaultLemmas.{chosen_within, free_kind_at}
use Rattle.ct_card.proofs.defaults.default_node.Goals as goal

pub default_children-requires-clause-inside : goal.default_children-requires-clause-inside
default_children-requires-clause-inside c =
    let d = c.args.sig.now in
    let e = c.structure.ensures in
    let consistent = c.sorts.ensures.consistent in
    let free : is_free_sort d c.args.s ≡ false = free_kind_at d consistent (e.own_constructors d consistent) (e.own_selectors d consistent) (e.of_their_sorts d consistent) (e.of_their_constructors d consistent) c.args.s c.kind.result c.kind.ensures.value ∙ sym c.is_free.ensures.value ∙ c.if-is_free.false in
    chosen_within d consistent (e.own_constructors d consistent) (e.own_selectors d consistent) (e.of_their_sorts d consistent) (e.of_their_constructors d consistent) c.args.ranks.now c.args.ctors.now c.requires.chosen c.args.s (get_or c.args.ctors.now c.args.s (record { 0 = 0 })) c.requires.inside free
    (slice_get-get_or c.args.ctors.now c.args.s (record { 0 = 0 }) (omega (arith, c.requires.chosen.long, c.requires.inside)))

pub returns : goal.returns
returns c =
    let d = c.args.sig.now in
    let e = c.structure.ensures in
    let consistent = c.sorts.ensures.consistent in
    let free : is_free_sort d c.args.s ≡ false = free_kind_at d consistent (e.own_constructors d consistent) (e.own_selectors d consistent) (e.of_their_sorts d consistent) (e.of_their_constructors d consistent) c.args.s c.kind.result c.kind.ensures.value ∙ sym c.is_free.ensures.value ∙ c.if-is_free.false in
    let chosen : CtorId = get_or c.args.ctors.now c.args.s (record { 0 = 0 }) in
    let at : slice_get c.args.ctors.now c.args.s ≡ Some (get_or c.args.ctors.now c.args.s (record { 0 = 0 })) = slice_get-get_or c.args.ctors.now c.args.s (record { 0 = 0 }) (omega (arith, c.requires.chosen.long, c.requires.inside)) in
    record {
      node = λ k at_k.
          ap (λ (ids : List NodeId). Con (get_or c.args.ctors.now c.args.s (record { 0 = 0 })) ids) (c.new.ensures.value ∙ c.in_ok-children.ensures.value)
          ∙ ap (λ (z : CtorId). Con z (map (node_of_sort c.args.base c.args.ranks.now) (ctor_fields d z))) (same_Some _ _ (sym at ∙ at_k))
          ∙ sym (ap (λ b. cond b (Elem (record { 0 = c.args.s }) 0) (Con k (map (node_of_sort c.args.base c.args.ranks.now) (ctor_fields d k)))) free);
    }
