use Rattle.std.proofs.Common.{◌+◌, ◌-◌, ◌≡◌, ◌<◌, ◌++◌, [], ◌∷◌, length, slice_index, subst, sym, ap, ◌∙◌, arith}
use Rattle.ct_values.specs.Partition.{class_at}
use Rattle.ct_values.specs.Least.{TellsLeast}
use Rattle.ct_values.proofs.ClassLemmas.{class_read}
use Rattle.ct_values.proofs.LeastLemmas.{AreLeastUpTo, AreLeastUpTo-more}
use Rattle.ct_values.proofs.least.least_of.Goals as goal

pub loop-i-preserved : goal.loop-i-preserved
loop-i-preserved c =
    let numbers = c.args.numbers.now in
    let places = c.loop-i.places.items in
    let table = c.in_ok-table.table.items in
    let i = c.loop-i.i in
    let tells : TellsLeast numbers 0 table = c.in_ok-table.ensures.least in
    let i_in : i < length numbers = omega (arith, c.loop-i-test.true) in
    let within : class_at numbers i - 1 < length table = omega (arith, c.requires.positive i i_in, tells.within i i_in) in
    let read : slice_index table (class_at numbers i - 1) ≡ c.index.result.now = class_read table (class_at numbers i - 1) c.index.result.now within c.index.ensures in
    let pushed : c.push.new.self.items ≡ places ++ slice_index table (class_at numbers i - 1) ∷ [] = c.in_ok-push.ensures.items ∙ ap (λ n. places ++ n ∷ []) (sym read) in
    subst (λ xs. AreLeastUpTo numbers xs (i + 1)) (sym pushed) (AreLeastUpTo-more numbers places table i i_in tells c.loop-i.invariant)
