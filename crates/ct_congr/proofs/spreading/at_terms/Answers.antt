use Rattle.std.proofs.Common.{List, get_or, take, subst, inl, inr, arith}
use Rattle.std.specs.List.{Contains}
use Rattle.std.proofs.lemmas.List.{take_more, take_all}
use Rattle.std.proofs.lemmas.List.Elements.{Contains-get_or, Contains-push_cases}
use Rattle.ct_terms.specs.declared.ids.TermId.{TermId}
use Rattle.ct_congr.specs.Partition.{InOneClass}
use Rattle.ct_congr.specs.Joined.{AreJoined}
use Rattle.ct_congr.specs.Covered.{HasCon, IsCoveredAt}
use Rattle.ct_congr.proofs.CoveredLemmas.{IsCoveredAt-wider}
use Rattle.ct_congr.proofs.JoinedLemmas.{AreJoined-on, WaitsOn-same, WaitsOn-trans}
use Rattle.ct_congr.proofs.spreading.at_terms.Goals as goal

abbrev zeroth : TermId
zeroth = record { 0 = 0 }

pub loop-t-init : goal.loop-t-init
loop-t-init c = record {
  waits = WaitsOn-same c.args.sig.now c.args.table.now c.args.reps.now c.args.waiting.now.items;
  covered = λ t has. absurd (omega (arith, has.1));
}

pub at_term-requires-clause-inside : goal.at_term-requires-clause-inside
at_term-requires-clause-inside c =
    c.requires.inside (get_or c.args.terms.now c.loop-t.t-index zeroth) (Contains-get_or c.args.terms.now c.loop-t.t-index zeroth c.loop-t-test.true)

pub loop-t-preserved : goal.loop-t-preserved
loop-t-preserved c =
    let d = c.args.sig.now in
    let terms = c.args.table.now in
    let reps = c.args.reps.now in
    let cons = c.args.cons.now in
    let before = c.loop-t.waiting.items in
    let after = c.at_term.new.waiting.items in
    let t = get_or c.args.terms.now c.loop-t.t-index zeroth in
    let on = c.in_ok-at_term.ensures.waits in
    record {
      waits = WaitsOn-trans d terms reps c.args.waiting.now.items before after c.loop-t.invariant.waits on;
      covered = λ u has.
          let split = subst (λ (list : List TermId). Contains list u) (take_more c.args.terms.now c.loop-t.t-index zeroth c.loop-t-test.true) has in
          elim (Contains-push_cases (take c.loop-t.t-index c.args.terms.now) t u split) [
            | inl old ↦ IsCoveredAt-wider d terms (InOneClass reps) (HasCon reps cons) (AreJoined reps before) (AreJoined reps after) (AreJoined-on d terms reps before after on) u (c.loop-t.invariant.covered u old)
            | inr last ↦ subst (IsCoveredAt d terms (InOneClass reps) (HasCon reps cons) (AreJoined reps after)) last c.in_ok-at_term.ensures.covered
          ];
    }

pub returns-clause-covered : goal.returns-clause-covered
returns-clause-covered c = λ t has.
    c.loop-t.invariant.covered t (rw (take_all c.loop-t.t-index c.args.terms.now c.loop-t-test.false) has)
