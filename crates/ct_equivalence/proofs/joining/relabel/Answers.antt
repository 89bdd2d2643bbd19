use Rattle.std.proofs.Common.{◌≡◌, ◌∙◌, List, length, get_or, set, take, ap, sym, subst, arith}
use Rattle.std.proofs.lemmas.List.{take_more, take_all}
use Rattle.std.proofs.lemmas.List.Elements.{Contains-get_or}
use Rattle.ct_terms.specs.declared.ids.TermId.{TermId}
use Rattle.ct_equivalence.specs.Undoing.{relabelled}
use Rattle.ct_equivalence.proofs.RelabelLemmas.{relabelled-push, length-relabelled}
use Rattle.ct_equivalence.proofs.joining.relabel.Goals as goal

abbrev zeroth : TermId
zeroth = record { 0 = 0 }

pub give-requires : goal.give-requires
give-requires c =
    let t = get_or c.args.terms.now c.loop-t.t-index zeroth in
    record { inside = omega (arith, ap length c.loop-t.invariant.reps, length-relabelled c.args.reps.now.items (take c.loop-t.t-index c.args.terms.now) c.args.rep, c.requires.inside t (Contains-get_or c.args.terms.now c.loop-t.t-index zeroth c.loop-t-test.true)) }

pub loop-t-preserved : goal.loop-t-preserved
loop-t-preserved c =
    let t = get_or c.args.terms.now c.loop-t.t-index zeroth in
    let done = take c.loop-t.t-index c.args.terms.now in
    rw (take_more c.args.terms.now c.loop-t.t-index zeroth c.loop-t-test.true)
    (record {
      reps = c.give.ensures.value ∙ ap (λ (rs : List TermId). set rs t.0 c.args.rep) c.loop-t.invariant.reps ∙ sym (relabelled-push c.args.reps.now.items done t c.args.rep);
      digests = λ table places are. c.give.ensures.digests table places (c.loop-t.invariant.digests table places are);
    })

pub returns : goal.returns
returns c =
    let all = take_all c.loop-t.t-index c.args.terms.now c.loop-t-test.false in
    record {
      value = subst (λ (xs : List TermId). c.loop-t.reps.items ≡ relabelled c.args.reps.now.items xs c.args.rep) all c.loop-t.invariant.reps;
      digests = c.loop-t.invariant.digests;
    }
