use Rattle.std.proofs.Common.{◌≡◌, ℕ, ◌||◌, Bool, true, false, List, nat_lt, nat_eq, refl, ap, ◌∙◌, arith}
use Rattle.std.proofs.lemmas.Bool.{ltb-true}
use Rattle.ct_partition.specs.Sets.{has}
use Rattle.ct_partition.proofs.SetLemmas.{has-nil, has-push}
use Rattle.ct_partition.proofs.WaitingLemmas.{below_next}
use Rattle.ct_partition.proofs.partition.numbers_below.Goals as goal

none_below : (j : ℕ) (b : Bool) → nat_lt j 0 ≡ b → false ≡ b
none_below j true e = absurd (omega (arith, ltb-true j 0 e))
none_below j false e = refl

pub loop-i-init : goal.loop-i-init
loop-i-init c j = ap (λ (xs : List ℕ). has xs j) c.in_ok-list.ensures.items ∙ has-nil j ∙ none_below j (nat_lt j 0) refl

pub loop-i-preserved : goal.loop-i-preserved
loop-i-preserved c j =
    let list = c.loop-i.list.items in
    let i = c.loop-i.i in
    ap (λ (xs : List ℕ). has xs j) c.in_ok-push.ensures.items ∙ has-push list i j ∙ ap (λ b. b || nat_eq i j) (c.loop-i.invariant j) ∙ below_next j i

pub returns : goal.returns
returns c =
    let all : c.loop-i.i ≡ c.args.count = omega arith in
    record { value = λ j. c.loop-i.invariant j ∙ ap (nat_lt j) all }
