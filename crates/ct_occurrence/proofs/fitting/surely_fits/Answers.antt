use Rattle.std.proofs.Common.{◌<◌, ℕ, length, subst, sym, ap, ◌∙◌, reverse}
use Rattle.std.specs.List.{list_all}
use Rattle.ct_occurrence.proofs.CoverLemmas.{covered, too_few}
use Rattle.ct_occurrence.proofs.FlagLemmas.{siblings_are}
use Rattle.ct_occurrence.proofs.fitting.surely_fits.Goals as goal

pub returns-then-distinct_with-all : goal.returns-then-distinct_with-all
returns-then-distinct_with-all c =
    let d = c.args.sig.now in
    let all = c.ctors-all.result.now in
    let few = subst (λ (n : ℕ). n < length all) c.distinct_with.ensures.count c.if-distinct_with-all.true in
    record { value = sym (ap (list_all (covered (reverse c.args.earlier.now) c.args.c)) (siblings_are d c.args.c c.ctor_sort.result all c.ctor_sort.ensures.value c.ctors-all.ensures.value) ∙ too_few d c.ctor_sort.result.0 all c.args.earlier.now c.args.c c.sorts.ensures.consistent c.ctors-all.ensures.value few) }
