use Rattle.std.proofs.Common.{◌<◌, ◌≤◌, ℕ, List, All, length, sym, ap, subst, ◌∙◌, arith}
use Rattle.ct_finite.specs.Counts.{count_at, most_values}
use Rattle.ct_finite.specs.Counting.{AreCapped, ways}
use Rattle.ct_finite.specs.Entries.{digits}
use Rattle.ct_finite.proofs.CountLemmas.{counts_capped}
use Rattle.ct_finite.proofs.ChoosingLemmas.{all_noted, choice_ways, choice_chosen, sort_few}
use Rattle.ct_finite.proofs.finite.Finite.choice.Goals as goal

pub numbers_of-requires : goal.numbers_of-requires
numbers_of-requires c =
    let d = c.requires.may.0 in
    let is = c.requires.may.1 in
    let same = c.as_slice.ensures.value ∙ c.self.view_is in
    let many = choice_ways d c.args.self.now c.args.sorts.now c.args.k is in
    record {
      inside = subst (λ (l : List ℕ). All (λ s. s.0 < length l) c.args.sorts.now) (sym same) (all_noted d c.args.self.now is.counts_are c.args.sorts.now is.listable);
      capped = subst (λ (l : List ℕ). AreCapped l) (sym same) (counts_capped d c.args.self.now is.counts_are.counted);
      few = subst (λ (l : List ℕ). ways (count_at l) c.args.sorts.now ≤ most_values) (sym same) (omega (arith, many, is.few));
      less = subst (λ (l : List ℕ). c.args.k < ways (count_at l) c.args.sorts.now) (sym same) (omega (arith, many, is.there));
    }

pub returns-clause-choice : goal.returns-clause-choice
returns-clause-choice c = λ d is.
    let same = c.as_slice.ensures.value ∙ c.self.view_is in
    choice_chosen d c.args.self.now c.args.sorts.now c.args.k is c.in_ok-numbers.numbers.items (c.in_ok-numbers.ensures.value ∙ ap (λ (l : List ℕ). digits (count_at l) c.args.sorts.now c.args.k) same)

pub returns-clause-few : goal.returns-clause-few
returns-clause-few c = λ d is s inside. sort_few d c.args.self.now is.counts_are c.args.sorts.now is.listable is.few (omega (arith, is.there)) s inside
