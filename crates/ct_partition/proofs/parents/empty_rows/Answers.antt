use Rattle.std.proofs.Common.{◌≡◌, ℕ, ◌++◌, List, [], ◌∷◌, length, ap, ◌∙◌, arith, length-append}
use Rattle.ct_partition.specs.Sets.{row_at}
use Rattle.ct_partition.proofs.GroupLemmas.{row_at-empty}
use Rattle.ct_partition.proofs.WaitingLemmas.{row_at-nil}
use Rattle.ct_partition.proofs.parents.empty_rows.Goals as goal

pub loop-init : goal.loop-init
loop-init c =
    let empty = c.in_ok-rows.ensures.items in
    record { long = ap length empty; empty = λ n. ap (λ (rows : List (List ℕ)). row_at rows n) empty ∙ row_at-nil n }

pub loop-preserved : goal.loop-preserved
loop-preserved c =
    let rows = c.loop.rows.items in
    let more : c.push.new.self.items ≡ rows ++ [] ∷ [] = c.in_ok-push.ensures.items ∙ ap (λ (row : List ℕ). rows ++ row ∷ []) (c.new-in-loop.ensures.value ∙ c.new.ensures.items) in
    record {
      long = omega (arith, ap length more, length-append rows ([] ∷ []), c.loop.invariant.long);
      empty = λ n. ap (λ (list : List (List ℕ)). row_at list n) more ∙ row_at-empty rows n ∙ c.loop.invariant.empty n;
    }

pub returns : goal.returns
returns c =
    let all : c.loop.counter ≡ c.args.count = omega arith in
    record { long = c.loop.invariant.long ∙ all; empty = c.loop.invariant.empty }
