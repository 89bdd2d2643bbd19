use Rattle.std.proofs.Common.{◌≡◌, sym, subst, inl, inr, arith}
use Rattle.ct_terms.specs.declared.ids.TermId.{TermId}
use Rattle.ct_terms.specs.Terms.{Has}
use Rattle.ct_congr.specs.Partition.{InOneClass}
use Rattle.ct_congr.specs.Joined.{AreJoined}
use Rattle.ct_congr.specs.Covered.{HasCon, IsCoveredAt, IsMet}
use Rattle.ct_lemmas.proofs.Numbers.{same_or_other}
use Rattle.ct_congr.proofs.TermLemmas.{Has-inside}
use Rattle.ct_congr.proofs.CoveredLemmas.{IsCoveredAt-wider}
use Rattle.ct_congr.proofs.JoinedLemmas.{AreJoined-on, WaitsOn-same, WaitsOn-trans}
use Rattle.ct_congr.proofs.MetLemmas.{IsMet-wider}
use Rattle.ct_congr.proofs.starting.begin_terms.Goals as goal

pub loop-t-init : goal.loop-t-init
loop-t-init c = record {
  keys = c.requires.keys;
  waits = WaitsOn-same c.args.sig.now c.args.table.now c.args.reps.now c.args.waiting.now.items;
  covered = λ t below. absurd (omega (arith, below));
  met = λ t core below has. absurd (omega (arith, below));
}

pub loop-t-preserved : goal.loop-t-preserved
loop-t-preserved c =
    let d = c.args.sig.now in
    let terms = c.args.table.now in
    let reps = c.args.reps.now in
    let cons = c.args.cons.now in
    let first = c.loop-t.waiting.items in
    let second = c.at_term.new.waiting.items in
    let third = c.meet.new.waiting.items in
    let t : TermId = record { 0 = c.loop-t.t } in
    let on = c.in_ok-at_term.ensures.waits in
    let further = c.in_ok-meet.ensures.waits d in
    let both = WaitsOn-trans d terms reps first second third on further in
    let here = IsCoveredAt-wider d terms (InOneClass reps) (HasCon reps cons) (AreJoined reps second) (AreJoined reps third) (AreJoined-on d terms reps second third further) t c.in_ok-at_term.ensures.covered in
    record {
      keys = c.in_ok-meet.ensures.keys;
      waits = WaitsOn-trans d terms reps c.args.waiting.now.items first third c.loop-t.invariant.waits both;
      covered = λ u below. elim (same_or_other u.0 c.loop-t.t) [
        | inl e ↦
            let is : t ≡ u = λ i. record { 0 = sym e i } in
            subst (IsCoveredAt d terms (InOneClass reps) (HasCon reps cons) (AreJoined reps third)) is here
        | inr other ↦ IsCoveredAt-wider d terms (InOneClass reps) (HasCon reps cons) (AreJoined reps first) (AreJoined reps third) (AreJoined-on d terms reps first third both) u (c.loop-t.invariant.covered u (omega (arith, other, below)))
      ];
      met = λ u core below stands. elim (same_or_other u.0 c.loop-t.t) [
        | inl e ↦
            let is : t ≡ u = λ i. record { 0 = sym e i } in
            subst (λ (q : TermId). IsMet terms reps c.meet.new.keys (AreJoined reps third) q core) is (c.in_ok-meet.ensures.met core (subst (λ (q : TermId). Has terms core q.0) (sym is) stands))
        | inr other ↦ c.in_ok-meet.ensures.stays u core stands (IsMet-wider terms reps c.loop-t.keys (AreJoined reps first) (AreJoined reps second) (AreJoined-on d terms reps first second on) u core (c.loop-t.invariant.met u core (omega (arith, other, below)) stands))
      ];
    }

pub returns-clause-covered : goal.returns-clause-covered
returns-clause-covered c = λ t below. c.loop-t.invariant.covered t (omega (arith, below, c.len-t-end.ensures.count, c.loop-t-test.false))

pub returns-clause-met : goal.returns-clause-met
returns-clause-met c = λ t core has. c.loop-t.invariant.met t core (omega (arith, Has-inside c.args.table.now core t.0 has, c.len-t-end.ensures.count, c.loop-t-test.false)) has
