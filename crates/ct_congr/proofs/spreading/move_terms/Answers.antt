use Rattle.std.proofs.Common.{List, [], get_or, take, sym, subst, inl, inr, arith}
use Rattle.std.specs.List.{Contains}
use Rattle.std.proofs.lemmas.List.{append-nil, take_more, take_all}
use Rattle.std.proofs.lemmas.List.Elements.{Contains-get_or, Contains-push_cases}
use Rattle.ct_terms.specs.declared.ids.TermId.{TermId}
use Rattle.ct_terms.specs.Terms.{Has}
use Rattle.ct_congr.specs.Partition.{InOneClass}
use Rattle.ct_congr.specs.Joined.{AreJoined}
use Rattle.ct_congr.specs.Covered.{HasCon, IsCoveredAt, IsMet}
use Rattle.ct_congr.proofs.CoveredLemmas.{IsCoveredAt-wider}
use Rattle.ct_congr.proofs.JoinedLemmas.{AreJoined-on, WaitsOn-same, WaitsOn-trans}
use Rattle.ct_congr.proofs.MetLemmas.{IsMet-wider, more_trans}
use Rattle.ct_congr.proofs.spreading.move_terms.Goals as goal

abbrev zeroth : TermId
zeroth = record { 0 = 0 }

pub loop-t-init : goal.loop-t-init
loop-t-init c = record {
  more = ([], sym (append-nil c.args.keys.now));
  keys = c.requires.keys;
  waits = WaitsOn-same c.args.sig.now c.args.table.now c.args.reps.now c.args.waiting.now.items;
  covered = λ t has. absurd (omega (arith, has.1));
  met = λ t core has stands. absurd (omega (arith, has.1));
}

pub at_term-requires-clause-inside : goal.at_term-requires-clause-inside
at_term-requires-clause-inside c =
    c.requires.inside (get_or c.args.terms.now c.loop-t.t-index zeroth) (Contains-get_or c.args.terms.now c.loop-t.t-index zeroth c.loop-t-test.true)

pub meet-requires-clause-inside : goal.meet-requires-clause-inside
meet-requires-clause-inside c =
    c.requires.inside (get_or c.args.terms.now c.loop-t.t-index zeroth) (Contains-get_or c.args.terms.now c.loop-t.t-index zeroth c.loop-t-test.true)

pub loop-t-preserved : goal.loop-t-preserved
loop-t-preserved c =
    let d = c.args.sig.now in
    let terms = c.args.table.now in
    let reps = c.args.reps.now in
    let cons = c.args.cons.now in
    let first = c.loop-t.waiting.items in
    let second = c.at_term.new.waiting.items in
    let third = c.meet.new.waiting.items in
    let t = get_or c.args.terms.now c.loop-t.t-index zeroth in
    let on = c.in_ok-at_term.ensures.waits in
    let further = c.in_ok-meet.ensures.waits d in
    let both = WaitsOn-trans d terms reps first second third on further in
    let here = IsCoveredAt-wider d terms (InOneClass reps) (HasCon reps cons) (AreJoined reps second) (AreJoined reps third) (AreJoined-on d terms reps second third further) t c.in_ok-at_term.ensures.covered in
    record {
      more = more_trans c.args.keys.now c.loop-t.keys c.meet.new.keys c.loop-t.invariant.more c.in_ok-meet.ensures.more;
      keys = c.in_ok-meet.ensures.keys;
      waits = WaitsOn-trans d terms reps c.args.waiting.now.items first third c.loop-t.invariant.waits both;
      covered = λ u has.
          let split = subst (λ (list : List TermId). Contains list u) (take_more c.args.terms.now c.loop-t.t-index zeroth c.loop-t-test.true) has in
          elim (Contains-push_cases (take c.loop-t.t-index c.args.terms.now) t u split) [
            | inl old ↦ IsCoveredAt-wider d terms (InOneClass reps) (HasCon reps cons) (AreJoined reps first) (AreJoined reps third) (AreJoined-on d terms reps first third both) u (c.loop-t.invariant.covered u old)
            | inr last ↦ subst (IsCoveredAt d terms (InOneClass reps) (HasCon reps cons) (AreJoined reps third)) last here
          ];
      met = λ u core has stands.
          let split = subst (λ (list : List TermId). Contains list u) (take_more c.args.terms.now c.loop-t.t-index zeroth c.loop-t-test.true) has in
          elim (Contains-push_cases (take c.loop-t.t-index c.args.terms.now) t u split) [
            | inl old ↦ c.in_ok-meet.ensures.stays u core stands (IsMet-wider terms reps c.loop-t.keys (AreJoined reps first) (AreJoined reps second) (AreJoined-on d terms reps first second on) u core (c.loop-t.invariant.met u core old stands))
            | inr last ↦ subst (λ (q : TermId). IsMet terms reps c.meet.new.keys (AreJoined reps third) q core) last (c.in_ok-meet.ensures.met core (subst (λ (q : TermId). Has terms core q.0) (sym last) stands))
          ];
    }

pub returns-in_err-meet-clause-more : goal.returns-in_err-meet-clause-more
returns-in_err-meet-clause-more c = rw c.in_err-meet.ensures.unchanged c.loop-t.invariant.more

pub returns-in_err-meet-clause-keys : goal.returns-in_err-meet-clause-keys
returns-in_err-meet-clause-keys c = rw c.in_err-meet.ensures.unchanged c.loop-t.invariant.keys

pub returns-clause-covered : goal.returns-clause-covered
returns-clause-covered c = λ t has.
    c.loop-t.invariant.covered t (rw (take_all c.loop-t.t-index c.args.terms.now c.loop-t-test.false) has)

pub returns-clause-met : goal.returns-clause-met
returns-clause-met c = λ t core has.
    c.loop-t.invariant.met t core (rw (take_all c.loop-t.t-index c.args.terms.now c.loop-t-test.false) has)
