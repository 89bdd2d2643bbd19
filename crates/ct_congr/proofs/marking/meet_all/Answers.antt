use Rattle.std.proofs.Common.{◌≡◌, sym, subst, inl, inr, arith}
use Rattle.ct_terms.specs.declared.ids.TermId.{TermId}
use Rattle.ct_terms.specs.Terms.{Has}
use Rattle.ct_congr.specs.Joined.{AreJoined}
use Rattle.ct_congr.specs.Covered.{Keys, AreKeys, IsMet}
use Rattle.ct_lemmas.proofs.Numbers.{same_or_other}
use Rattle.ct_congr.proofs.TermLemmas.{Has-inside}
use Rattle.ct_congr.proofs.JoinedLemmas.{WaitsOn-trans}
use Rattle.ct_congr.proofs.MetLemmas.{more_trans}
use Rattle.ct_congr.proofs.marking.meet_all.Goals as goal

pub loop-t-preserved : goal.loop-t-preserved
loop-t-preserved c =
    let terms = c.args.table.now in
    let reps = c.args.reps.now in
    let first = c.loop-t.waiting.items in
    let second = c.meet.new.waiting.items in
    let t : TermId = record { 0 = c.loop-t.t } in
    let more = c.in_ok-meet.ensures.more in
    record {
      more = more_trans c.args.keys.now c.loop-t.keys c.meet.new.keys c.loop-t.invariant.more more;
      keys = c.in_ok-meet.ensures.keys;
      waits = λ d. WaitsOn-trans d terms reps c.args.waiting.now.items first second (c.loop-t.invariant.waits d) (c.in_ok-meet.ensures.waits d);
      met = λ u core below stands. elim (same_or_other u.0 c.loop-t.t) [
        | inl e ↦
            let is : t ≡ u = λ i. record { 0 = sym e i } in
            subst (λ (q : TermId). IsMet terms reps c.meet.new.keys (AreJoined reps second) q core) is (c.in_ok-meet.ensures.met core (subst (λ (q : TermId). Has terms core q.0) (sym is) stands))
        | inr other ↦ c.in_ok-meet.ensures.stays u core stands (c.loop-t.invariant.met u core (omega (arith, other, below)) stands)
      ];
    }

pub returns-clause-met : goal.returns-clause-met
returns-clause-met c = λ t core has. c.loop-t.invariant.met t core (omega (arith, Has-inside c.args.table.now core t.0 has, c.len-t-end.ensures.count, c.loop-t-test.false)) has

pub returns-in_err-meet-clause-keys : goal.returns-in_err-meet-clause-keys
returns-in_err-meet-clause-keys c = subst (λ (list : Keys). AreKeys c.args.reps.now list) (sym c.in_err-meet.ensures.unchanged) c.loop-t.invariant.keys
