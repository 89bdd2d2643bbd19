use Rattle.std.proofs.Common.{◌≡◌, List, ℕ, length, sym, ◌∙◌, ap, subst, arith}
use Rattle.std.proofs.lemmas.Option.{slice_get_within}
use Rattle.ct_sorts.specs.declared.ids.CtorId.{CtorId}
use Rattle.ct_values.specs.declared.node.NodeId.{NodeId}
use Rattle.ct_values.specs.Fitting.{HasNodeSort}
use Rattle.ct_card.specs.Defaults.{AreNodesOfSorts, HasDefaults}
use Rattle.ct_card.specs.Sizes.{Table}
use Rattle.ct_card.proofs.sizes.Sizes.default_values.Goals as goal

pub returns-clause-values : goal.returns-clause-values
returns-clause-values c =
    let d = c.args.sig.now in
    let g = c.append_defaults.new.g in
    let base = c.in_ok-base.base in
    let given = c.in_ok-nodes.nodes.items in
    let table = c.args.self.now in
    let same_ranks : c.as_slice-ranks.result.now ≡ table.ranks = c.as_slice-ranks.ensures.value ∙ ap (λ (t : Table). t.ranks) c.self.view_is in
    let same_ctors : c.deref-2.result.now ≡ table.ctors = c.deref-2.ensures.value ∙ ap (λ (t : Table). t.ctors) c.self.view_is in
    let nodes : AreNodesOfSorts base table.ranks given = subst (λ (ranks : List ℕ). AreNodesOfSorts base ranks given) same_ranks c.in_ok-nodes.ensures.nodes in
    let stand : HasDefaults d table.ranks table.ctors g base =
    subst (λ (ranks : List ℕ). HasDefaults d ranks table.ctors g base) same_ranks
    (subst (λ (ctors : List CtorId). HasDefaults d c.as_slice-ranks.result.now ctors g base) same_ctors c.in_ok-base.ensures.stand) in
    let long : length given ≡ length d.sorts = nodes.long ∙ c.requires.sizes.plan.founded.long in
    record {
      long = long;
      sorted = λ s n at. subst (λ (n : NodeId). HasNodeSort d g n s) (sym (c.in_ok-nodes.ensures.nodes.each s.0 n at)) (c.in_ok-base.ensures.sorted s.0 (omega (arith, slice_get_within given s.0 n at, long)));
      value = λ s n at. record { base = base; stand = stand; node = nodes.each s n at };
    }
