use Rattle.std.proofs.Common.{subst, arith}
use Rattle.ct_generics.specs.Nodes.{Stands}
use Rattle.ct_generics.proofs.FoundLemmas.{AreFoundAs-push, found_some, found_none}
use Rattle.ct_generics.proofs.SubstitutionLemmas.{length-push}
use Rattle.ct_generics.proofs.finding.find_expression.Goals as goal

pub loop-k-preserved : goal.loop-k-preserved
loop-k-preserved c =
    let target = c.args.target.now in
    let source = c.args.source.now in
    let found = c.loop-k.found.items in
    let next = c.find_node-next.result in
    record {
      long = rw c.in_ok-push.ensures.items (omega (arith, c.loop-k.invariant.long, length-push found next));
      found = rw c.in_ok-push.ensures.items (AreFoundAs-push target source found next (λ e stands. c.find_node-next.ensures.found source c.loop-k.k e c.node.ensures.value (subst (λ m. Stands source m e) c.loop-k.invariant.long stands) (rw c.as_slice.ensures.value c.loop-k.invariant.found)) c.loop-k.invariant.found);
    }

pub returns-clause-found : goal.returns-clause-found
returns-clause-found c =
    found_some c.args.target.now c.args.source.now c.args.id.0 c.entry.result (λ e stands. c.loop-k.invariant.found c.args.id.0 e c.entry.result (rw c.as_slice-2.ensures.value at c.entry.ensures.value) stands)

pub returns-clause-none : goal.returns-clause-none
returns-clause-none c =
    found_none c.args.target.now c.args.source.now c.args.id.0 c.entry.result (λ e stands. c.loop-k.invariant.found c.args.id.0 e c.entry.result (rw c.as_slice-2.ensures.value at c.entry.ensures.value) stands)
