use Rattle.std.proofs.Common.{ℕ, ◌&&◌, List, nat_eq, ap, sym, ◌∙◌}
use Rattle.std.proofs.lemmas.List.{take_all}
use Rattle.ct_partition.specs.Sets.{has}
use Rattle.ct_partition.specs.Partition.{block_at}
use Rattle.ct_partition.proofs.SetLemmas.{has-nil}
use Rattle.ct_partition.proofs.BlockLemmas.{stored-more, stored-left}
use Rattle.ct_partition.proofs.splitting.with_number.Goals as goal
use Rattle.ct_partition.proofs.splitting.with_number.Goals.{then-numbers-i+in_ok-push, else-numbers-i}

pub loop-i-init : goal.loop-i-init
loop-i-init c i =
    ap (λ (xs : List ℕ). has xs i) (c.new-stored.ensures.value ∙ c.new.ensures.items) ∙ has-nil i ∙ sym (ap (λ b. b && nat_eq (block_at c.args.numbers.now i) c.args.number) (has-nil i))

pub loop-i-preserved : goal.loop-i-preserved
loop-i-preserved c =
    let points = c.args.points.now in
    let numbers = c.args.numbers.now in
    let k = c.loop-i.i-index in
    elim c.if-numbers-i.branch [
      | then-numbers-i+in_ok-push w ↦
          rw (w.stored-is, w.in_ok-push.ensures.value) (stored-more c.loop-i.stored points numbers k 0 c.args.number c.loop-i-test.true w.if-numbers-i.true c.loop-i.invariant)
      | else-numbers-i w ↦
          rw w.stored-is (stored-left c.loop-i.stored points numbers k 0 c.args.number c.loop-i-test.true w.if-numbers-i.false c.loop-i.invariant)
    ]

pub returns : goal.returns
returns c =
    let all = take_all c.loop-i.i-index c.args.points.now c.loop-i-test.false in
    record {
      value = λ i.
          c.loop-i.invariant i ∙ ap (λ (xs : List ℕ). has xs i && nat_eq (block_at c.args.numbers.now i) c.args.number) all;
    }
