use Rattle.std.proofs.Common.{◌<◌, List, length, get_or, take, subst, arith}
use Rattle.std.proofs.lemmas.List.{take_more, take_all}
use Rattle.std.proofs.lemmas.List.Elements.{All-from_recursion, All-get_or}
use Rattle.ct_terms.specs.declared.ids.TermId.{TermId}
use Rattle.ct_equivalence.specs.Parents.{AreAdded}
use Rattle.ct_equivalence.proofs.ParentLemmas.{AreAdded-none, AreAdded-once}
use Rattle.ct_equivalence.proofs.parents.add_to_each.Goals as goal

abbrev zeroth : TermId
zeroth = record { 0 = 0 }

pub loop-t-init : goal.loop-t-init
loop-t-init c = AreAdded-none c.args.rows.now c.args.p

pub add_once-requires : goal.add_once-requires
add_once-requires c =
    let n = length c.args.rows.now in
    let inside = All-get_or (λ (t : TermId). t.0 < n) c.args.terms.now c.loop-t.t-index zeroth c.loop-t-test.true (All-from_recursion (λ (t : TermId). t.0 < n) c.args.terms.now c.requires.inside) in
    record { inside = omega (arith, inside, c.loop-t.invariant.long) }

pub loop-t-preserved : goal.loop-t-preserved
loop-t-preserved c =
    let n = length c.args.rows.now in
    let t = get_or c.args.terms.now c.loop-t.t-index zeroth in
    let inside = All-get_or (λ (t : TermId). t.0 < n) c.args.terms.now c.loop-t.t-index zeroth c.loop-t-test.true (All-from_recursion (λ (t : TermId). t.0 < n) c.args.terms.now c.requires.inside) in
    rw (take_more c.args.terms.now c.loop-t.t-index zeroth c.loop-t-test.true)
    (AreAdded-once c.args.rows.now c.loop-t.rows (take c.loop-t.t-index c.args.terms.now) c.args.p t c.loop-t.invariant (omega (arith, inside, c.loop-t.invariant.long)) c.add_once.new.rows c.in_ok-add_once.ensures.added)

pub returns : goal.returns
returns c =
    let all = take_all c.loop-t.t-index c.args.terms.now c.loop-t-test.false in
    record { added = subst (λ (xs : List TermId). AreAdded c.args.rows.now c.loop-t.rows xs c.args.p) all c.loop-t.invariant }
