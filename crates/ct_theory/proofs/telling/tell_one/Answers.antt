use Rattle.std.proofs.Common.{refl}
use Rattle.ct_theory.proofs.ReadyLemmas.{IsReady-told}
use Rattle.ct_theory.proofs.telling.tell_one.Goals as goal

pub merge-requires : goal.merge-requires
merge-requires c = record { justified = (c.requires.stripped, (refl, c.truth.ensures.value)) }

pub returns : goal.returns
returns c =
    let old = c.args.classes.now in
    let new = c.merge.new.self in
    let ensures = c.in_ok-merge.ensures in
    record {
      forests = c.kept_forests.ensures.more old new _ ensures.terms ensures.merges;
      ready = IsReady-told old new c.args.literal ensures.declarations ensures.terms ensures.marks ensures.given ensures.hypotheses c.requires.ready;
      declarations = ensures.declarations;
      terms = ensures.terms;
      hypotheses = ensures.hypotheses;
    }
