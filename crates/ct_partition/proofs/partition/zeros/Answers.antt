use Rattle.std.proofs.Common.{◌≡◌, ℕ, List, [], ◌∷◌, length, All, refl, sym, ap, subst, ◌∙◌, arith, length-append}
use Rattle.std.proofs.lemmas.List.Elements.{All-nil, All-push}
use Rattle.ct_partition.proofs.partition.zeros.Goals as goal

pub loop-init : goal.loop-init
loop-init c =
    let empty = c.in_ok-list.ensures.items in
    record { long = ap length empty; zeros = subst (λ (xs : List ℕ). All (λ n. n ≡ 0) xs) (sym empty) (All-nil (λ n. n ≡ 0)) }

pub loop-preserved : goal.loop-preserved
loop-preserved c =
    let list = c.loop.list.items in
    let more = c.in_ok-push.ensures.items in
    record {
      long = omega (arith, ap length more, length-append list (0 ∷ []), c.loop.invariant.long);
      zeros = subst (λ (xs : List ℕ). All (λ n. n ≡ 0) xs) (sym more) (All-push (λ n. n ≡ 0) list 0 c.loop.invariant.zeros refl);
    }

pub returns : goal.returns
returns c =
    let all : c.loop.counter ≡ c.args.count = omega arith in
    record { long = c.loop.invariant.long ∙ all; zeros = c.loop.invariant.zeros }
