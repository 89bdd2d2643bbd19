use Rattle.std.proofs.Common.{◌<◌, ℕ, List, All, length, sym, ap, subst, ◌∙◌}
use Rattle.ct_finite.specs.Counts.{capped, count_at}
use Rattle.ct_finite.specs.Counting.{AreCapped, ways}
use Rattle.ct_finite.proofs.CountLemmas.{counts_capped}
use Rattle.ct_finite.proofs.ChoosingLemmas.{all_noted, counts_many, counts_few}
use Rattle.ct_finite.proofs.finite.Finite.choice_count.Goals as goal

pub choices_for-count-requires : goal.choices_for-count-requires
choices_for-count-requires c =
    let all = c.requires.listable.1 in
    let same = c.as_slice.ensures.value ∙ c.self.view_is in
    record {
      inside = subst (λ (l : List ℕ). All (λ s. s.0 < length l) c.args.sorts.now) (sym same) (all_noted c.requires.listable.0 c.args.self.now all c.args.sorts.now c.requires.listable.2);
      capped = subst (λ (l : List ℕ). AreCapped l) (sym same) (counts_capped c.requires.listable.0 c.args.self.now all.counted);
    }

pub returns-then-count-gt-MOST_VALUES : goal.returns-then-count-gt-MOST_VALUES
returns-then-count-gt-MOST_VALUES c =
    let same = c.as_slice.ensures.value ∙ c.self.view_is in
    let value = c.choices_for-count.ensures.value ∙ ap (λ (l : List ℕ). capped (ways (count_at l) c.args.sorts.now)) same in
    record { exact = λ d all listable. counts_many d c.args.self.now all c.args.sorts.now listable c.choices_for-count.result value c.if-count-gt-MOST_VALUES.true }

pub returns : goal.returns
returns c =
    let same = c.as_slice.ensures.value ∙ c.self.view_is in
    let value = c.choices_for-count.ensures.value ∙ ap (λ (l : List ℕ). capped (ways (count_at l) c.args.sorts.now)) same in
    record { exact = λ d all listable. (counts_few d c.args.self.now all c.args.sorts.now listable c.choices_for-count.result value c.if-count-gt-MOST_VALUES.false, c.if-count-gt-MOST_VALUES.false) }
