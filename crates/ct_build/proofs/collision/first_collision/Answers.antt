use Rattle.std.proofs.Common.{rules, ◌≡◌, List, Option, None, length, replicate, sym, ◌∙◌, ap, subst, arith}
use Rattle.ct_terms.specs.declared.ids.TermId.{TermId}
use Rattle.ct_build.specs.Owners.{AreOwners}
use Rattle.std.proofs.lemmas.List.{length-replicate}
use Rattle.ct_build.proofs.OwnerLemmas.{owners_none, owners_unclaimed, claim_collides, owners_apart}
use Rattle.ct_build.proofs.collision.first_collision.Goals as goal

pub loop-t-init : goal.loop-t-init
loop-t-init c =
    let none : c.in_ok-owners.owners.items ≡ replicate c.len.result None = c.in_ok-owners.ensures.items_if_clones_equal (search rules) in
    record {
      many = ap length none ∙ length-replicate c.len.result None ∙ c.len.ensures.count ∙ ap length c.graph.ensures.value;
      owners = subst (λ (l : List (Option TermId)). AreOwners c.args.classes.now c.args.shared.now c.args.nodes.now 0 l) (sym none) (owners_none c.args.classes.now c.args.shared.now c.args.nodes.now c.len.result);
    }

pub loop-t-preserved : goal.loop-t-preserved
loop-t-preserved c = record {
  many = c.claim.ensures.many;
  owners = owners_unclaimed c.args.classes.now c.args.shared.now c.args.nodes.now (record { 0 = c.loop-t.t }) c.loop-t.owners.items c.claim.new.owners.items c.claim.result c.in_default.not-Some c.claim.ensures.claim c.loop-t.invariant.owners;
}

pub returns-in-Some-clause-some : goal.returns-in-Some-clause-some
returns-in-Some-clause-some c =
    claim_collides c.args.classes.now c.args.shared.now c.args.nodes.now c.representative_nodes.ensures.one c.facts.ensures.long (record { 0 = c.loop-t.t }) c.in-Some.other c.loop-t.owners.items c.claim.new.owners.items c.in-Some.ensures.claim c.loop-t.invariant.owners

pub returns : goal.returns
returns c =
    let count : c.loop-t.t ≡ length c.args.classes.now.terms = omega (arith, c.len-t-end.ensures.count, ap length c.table.ensures.value, c.loop-t-test.false) in
    record {
      closed = c.graph.ensures.closed;
      none = owners_apart c.args.classes.now c.args.shared.now c.args.nodes.now c.representative_nodes.ensures.one c.requires.own c.facts.ensures.long c.requires.one_node c.loop-t.t c.loop-t.owners.items count c.loop-t.invariant.owners;
      some = tt;
    }
