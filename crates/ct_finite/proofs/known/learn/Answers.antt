use Rattle.std.proofs.Common.{◌≡◌, ◌<◌, ℕ, List, length, get_or, sym, subst, arith}
use Rattle.std.proofs.lemmas.Grind.{get_or_default_zero}
use Rattle.ct_terms.specs.Fields.{ctor_ids_of_sort}
use Rattle.ct_finite.specs.Counts.{capped, count_at}
use Rattle.ct_finite.specs.Counting.{total, AreCapped, AreReady}
use Rattle.ct_finite.proofs.CountLemmas.{Theorems, counts_capped, learned, missing-noted}
use Rattle.ct_finite.proofs.known.learn.Goals as goal

pub count_of_sort-count-requires-clause-capped : goal.count_of_sort-count-requires-clause-capped
count_of_sort-count-requires-clause-capped c =
    subst (λ (l : List ℕ). AreCapped l) (sym c.deref.ensures.value) (counts_capped c.args.sig.now c.args.counts.now.items c.requires.under_way.counted)

pub returns-then-count-eq0-clause-ready : goal.returns-then-count-eq0-clause-ready
returns-then-count-eq0-clause-ready c = λ some ready.
    let d = c.args.sig.now in
    let s = c.args.s in
    let more = c.count_of_sort-count.ensures.none (subst (λ (l : List ℕ). AreReady d l (ctor_ids_of_sort d s)) (sym c.deref.ensures.value) ready) some in
    absurd (omega (arith, more, c.if-count-eq0.true))

pub returns-clause-under_way : goal.returns-clause-under_way
returns-clause-under_way c =
    let d = c.args.sig.now in
    let t : Theorems d =
    record {
      consistent = c.sorts.ensures.consistent;
      built = c.listed_values.ensures.built d;
      parts = c.listed_values.ensures.parts d;
      unfolds = c.listed_values.ensures.unfolds d;
      some = λ s. c.listed_values.ensures.some d s c.sorts.ensures.consistent;
    } in
    let counts = c.args.counts.now.items in
    let e = c.deref.ensures.value in
    let some : 0 < c.count_of_sort-count.result = omega (arith, c.if-count-eq0.false) in
    learned d t counts c.args.s c.count_of_sort-count.result c.requires.inside c.requires.under_way some
    (subst (λ (l : List ℕ). AreReady d l (ctor_ids_of_sort d c.args.s)) e (c.count_of_sort-count.ensures.ready some))
    (subst (λ (l : List ℕ). c.count_of_sort-count.result ≡ capped (total (count_at l) d (ctor_ids_of_sort d c.args.s))) e (c.count_of_sort-count.ensures.value some))

pub returns-clause-fewer : goal.returns-clause-fewer
returns-clause-fewer c = λ _.
    let counts = c.args.counts.now.items in
    let within : c.args.s.0 < length counts = omega (arith, c.requires.inside, c.requires.under_way.long) in
    let default = get_or_default_zero counts c.args.s.0 c.index.result.now within in
    let fresh : get_or counts c.args.s.0 0 ≡ 0 = omega (arith, default, c.if-index-gt0.false) in
    missing-noted counts c.args.s.0 c.count_of_sort-count.result within fresh (omega (arith, c.if-count-eq0.false))
