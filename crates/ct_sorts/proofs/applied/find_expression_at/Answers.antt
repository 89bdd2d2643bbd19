use Rattle.std.proofs.Common.{◌≡◌, ℕ, ◌<◌, ◌≤◌, ◌+◌, List, Some, length, take, slice_get, sym, ◌∙◌, ap, subst, arith}
use Rattle.ct_generics.specs.declared.nodes.HeadId.{HeadId}
use Rattle.ct_generics.specs.declared.nodes.Node.{Node}
use Rattle.ct_generics.specs.declared.nodes.Node.TheVariants.{Head as HeadNode}
use Rattle.ct_generics.specs.Denoted.{sorts_of}
use Rattle.ct_sorts.proofs.AppliedLemmas.{at_none, missing_here, more_here, no_head, whole_row}
use Rattle.ct_sorts.proofs.ResultLemmas.{when_none}
use Rattle.ct_sorts.proofs.applied.find_expression_at.Goals as goal

pub returns-in_err-id-clause-none : goal.returns-in_err-id-clause-none
returns-in_err-id-clause-none c =
    let nodes = c.args.table.now.expressions in
    when_none c.from_residual.result (λ es n zipped stands. no_head nodes c.args.g.0 (subst (λ (h : ℕ). (m : ℕ) → slice_get nodes m ≡ Some (HeadNode (record { 0 = h })) → ⊥) c.from.ensures c.in_err-id.ensures.none) es n stands)

pub loop-arg-init : goal.loop-arg-init
loop-arg-init c =
    let nodes = c.args.table.now.expressions in
    at_none (sorts_of c.args.table.now) nodes c.args.g.0 c.in_ok-id.id (subst (λ (h : ℕ). slice_get nodes c.in_ok-id.id.0 ≡ Some (HeadNode (record { 0 = h }))) c.from.ensures c.in_ok-id.ensures.some)

pub find_argument-requires : goal.find_argument-requires
find_argument-requires c = record { within = c.requires.sorts c.loop-arg.arg-index _ c.loop-arg-test.true }

pub returns-in-None-clause-none : goal.returns-in-None-clause-none
returns-in-None-clause-none c =
    let table = c.args.table.now in
    missing_here (sorts_of table) table.expressions table.sorts c.requires.standing c.args.g.0 c.args.args.now c.loop-arg.arg-index _ c.loop-arg-test.true c.requires.sorts c.loop-arg.id c.loop-arg.invariant c.len.ensures.single c.in-None.ensures.none

pub loop-arg-preserved : goal.loop-arg-preserved
loop-arg-preserved c =
    let table = c.args.table.now in
    more_here (sorts_of table) table.expressions table.sorts c.requires.standing c.args.g.0 c.args.args.now c.loop-arg.arg-index _ c.loop-arg-test.true c.requires.sorts c.loop-arg.id c.loop-arg.invariant c.in-Some.next c.in-Some.ensures.some

pub returns-clause-some : goal.returns-clause-some
returns-clause-some c =
    let table = c.args.table.now in
    whole_row (sorts_of table) table.expressions c.args.g.0 c.args.args.now c.loop-arg.arg-index c.loop-arg.id (omega (arith, c.loop-arg-test.false)) c.loop-arg.invariant
