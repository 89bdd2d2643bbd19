use Rattle.ct_finite.proofs.CountLemmas.{Theorems, counts_all}
use Rattle.std.proofs.lemmas.Bool.{OnFalse_at}
use Rattle.ct_finite.proofs.known.known_counts.Goals as goal

pub returns : goal.returns
returns c =
    let d = c.args.sig.now in
    let t : Theorems d =
    record {
      consistent = c.sorts.ensures.consistent;
      built = c.listed_values.ensures.built d;
      parts = c.listed_values.ensures.parts d;
      unfolds = c.listed_values.ensures.unfolds d;
      some = λ s. c.listed_values.ensures.some d s c.sorts.ensures.consistent;
    } in
    record { counts = counts_all d t c.round.new.counts.items c.round.ensures.under_way (OnFalse_at c.loop-test.false c.round.ensures.complete) }
