use Rattle.std.proofs.Common.{◌<◌, ◌≤◌, ℕ, List, All, length, sym, ap, subst, ◌∙◌, arith}
use Rattle.ct_finite.specs.Choosing.{first_like}
use Rattle.ct_finite.specs.Counts.{count_at, most_values}
use Rattle.ct_finite.specs.Counting.{AreCapped, ways}
use Rattle.ct_finite.proofs.CountLemmas.{counts_capped}
use Rattle.ct_finite.proofs.ChoosingLemmas.{all_noted, choice_ways, choice_like}
use Rattle.ct_finite.proofs.finite.Finite.first_like.Goals as goal

pub first_like-requires : goal.first_like-requires
first_like-requires c =
    let d = c.requires.may.0 in
    let is = c.requires.may.1 in
    let same = c.as_slice.ensures.value ∙ c.self.view_is in
    let many = choice_ways d c.args.self.now c.args.sorts.now c.args.k is in
    record {
      inside = subst (λ (l : List ℕ). All (λ s. s.0 < length l) c.args.sorts.now) (sym same) (all_noted d c.args.self.now is.counts_are c.args.sorts.now is.listable);
      long = c.requires.long;
      capped = subst (λ (l : List ℕ). AreCapped l) (sym same) (counts_capped d c.args.self.now is.counts_are.counted);
      few = subst (λ (l : List ℕ). ways (count_at l) c.args.sorts.now ≤ most_values) (sym same) (omega (arith, many, is.few));
      less = subst (λ (l : List ℕ). c.args.k < ways (count_at l) c.args.sorts.now) (sym same) (omega (arith, many, is.there));
    }

pub returns-clause-value : goal.returns-clause-value
returns-clause-value c =
    let same = c.as_slice.ensures.value ∙ c.self.view_is in
    c.first_like.ensures.value ∙ ap (λ (l : List ℕ). first_like (count_at l) c.args.sorts.now c.args.flags.now c.args.k) same

pub returns-clause-like : goal.returns-clause-like
unfolding returns-clause-value
returns-clause-like c = λ d vs is at.
    choice_like d c.args.self.now c.args.sorts.now c.args.k is c.args.flags.now c.first_like.result c.requires.long (returns-clause-value c) vs at
