use Rattle.std.proofs.Common.{◌≡◌, ℕ, ◌<◌, ◌++◌, List, [], ◌∷◌, length, nat_lt, All, sym, ap, subst, ◌∙◌}
use Rattle.ct_partition.specs.Sets.{has}
use Rattle.ct_partition.specs.Blocks.{AreBlocks, KeepAlike}
use Rattle.ct_partition.proofs.WaitingLemmas.{all_within, AreBlocks-one, KeepAlike-one}
use Rattle.ct_partition.proofs.partition.one_block.Goals as goal

pub returns : goal.returns
returns c =
    let count = c.args.count in
    let all = c.in_ok-all.all.items in
    let numbers = c.in_ok-numbers.numbers.items in
    let long : length numbers ≡ count = c.in_ok-numbers.ensures.long in
    let zeros = c.in_ok-numbers.ensures.zeros in
    let value = c.in_ok-all.ensures.value in
    let rows : c.push.new.self.items ≡ all ∷ [] = c.in_ok-push.ensures.items ∙ ap (λ (list : List (List ℕ)). list ++ c.new.result ∷ []) c.new-rows.ensures.items ∙ ap (λ (row : List ℕ). row ∷ []) c.new.ensures.value in
    let sizes : c.push-2.new.self.items ≡ count ∷ [] = c.in_ok-push-2.ensures.items ∙ ap (λ (list : List ℕ). list ++ count ∷ []) c.new-sizes.ensures.items in
    let inside : All (λ i. i < length numbers) all = subst (λ n. All (λ i. i < n) all) (sym long) (all_within count all value) in
    record {
      blocks = subst (λ (list : List (List ℕ)). AreBlocks numbers list c.push-2.new.self.items) (sym rows) (subst (λ (list : List ℕ). AreBlocks numbers (all ∷ []) list) (sym sizes) (AreBlocks-one numbers all count zeros inside));
      long = long;
      alike = λ p same.
          let points : (i : ℕ) → has all i ≡ nat_lt i p.count = λ i. value i ∙ ap (nat_lt i) (sym same) in
          subst (λ (list : List (List ℕ)). KeepAlike p numbers list) (sym rows) (KeepAlike-one p numbers all (long ∙ sym same) zeros points);
    }
