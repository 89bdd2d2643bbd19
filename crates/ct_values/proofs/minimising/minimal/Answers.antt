use Rattle.std.proofs.Common.{◌≡◌, ℕ, List, sym, ap, subst, ◌∙◌}
use Rattle.ct_values.specs.Graph.{Nodes, IsClosed}
use Rattle.ct_values.specs.Quotient.{quotient}
use Rattle.ct_values.specs.Minimal.{IsMinimal}
use Rattle.ct_values.proofs.RenumberLemmas.{IsClosed-renumbered}
use Rattle.ct_values.proofs.QuotientLemmas.{IsClosed-quotient, IsMinimal-quotient}
use Rattle.ct_values.proofs.minimising.minimal.Goals as goal

pub from_nodes-requires : goal.from_nodes-requires
from_nodes-requires c =
    let part = c.in_ok-part.part in
    let numbers = c.in_ok-numbers.numbers.items in
    let of = c.in_ok-part.ensures.part in
    let made : c.in_ok-stored.stored ≡ quotient numbers part = c.in_ok-stored.ensures.value ∙ ap (λ (ns : List ℕ). quotient ns part) c.deref.ensures.value in
    record {
      closed = subst (λ (h : Nodes). IsClosed h) (sym made) (IsClosed-quotient part numbers (IsClosed-renumbered c.args.g.now of.ids part of.renumbered of.all) c.in_ok-numbers.ensures.numbers);
    }

pub returns : goal.returns
returns c =
    let part = c.in_ok-part.part in
    let numbers = c.in_ok-numbers.numbers.items in
    let made : c.from_nodes.result ≡ quotient numbers part = c.from_nodes.ensures.value ∙ c.in_ok-stored.ensures.value ∙ ap (λ (ns : List ℕ). quotient ns part) c.deref.ensures.value in
    record {
      minimal = subst (λ (h : Nodes). IsMinimal c.args.g.now c.args.root h) (sym made) (IsMinimal-quotient c.args.g.now part c.args.root numbers c.in_ok-part.ensures.part c.in_ok-part.ensures.breadth_first c.in_ok-numbers.ensures.numbers);
    }
