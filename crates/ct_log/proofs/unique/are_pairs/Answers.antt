use Rattle.std.proofs.Common.{◌≡◌, ◌∙◌, sym, Some, ap, arith, ℕ, subst, inl, inr, slice_get}
use Rattle.std.proofs.lemmas.Option.{slice_get-get_or, slice_get_within, same_Some}
use Rattle.ct_lemmas.proofs.Numbers.{last_or_before}
use Rattle.ct_log.specs.declared.rules.Pair.{Pair}
use Rattle.ct_log.specs.Equations.{IsPairBy}
use Rattle.ct_log.proofs.LookLemmas.{not_told}
use Rattle.ct_log.proofs.unique.are_pairs.Goals as goal

pub returns-then-not-is_pair : goal.returns-then-not-is_pair
returns-then-not-is_pair c =
    let at = slice_get-get_or c.args.pairs.now c.loop-pair.pair-index c.pair-item.result c.loop-pair-test.true ∙ ap (λ (p : Pair). Some p) (sym c.pair-item.is) in
    record { each = (λ e. cc, λ all. absurd (not_told c.is_pair.result _ c.is_pair.ensures.pair c.if-not-is_pair.true (all c.loop-pair.pair-index c.pair-item.result at))) }

pub loop-pair-preserved : goal.loop-pair-preserved
loop-pair-preserved c =
    let here = slice_get-get_or c.args.pairs.now c.loop-pair.pair-index c.pair-item.result c.loop-pair-test.true ∙ ap (λ (p : Pair). Some p) (sym c.pair-item.is) in
    λ index pair below at. elim (last_or_before index c.loop-pair.pair-index below) [
      | inl before ↦ c.loop-pair.invariant index pair before at
      | inr same ↦
          let one : c.pair-item.result ≡ pair = same_Some c.pair-item.result pair (sym here ∙ ap (λ (n : ℕ). slice_get c.args.pairs.now n) (sym same) ∙ at) in
          subst (λ (p : Pair). IsPairBy c.args.table.now c.args.given.now c.args.pairs.now p) one (c.is_pair.ensures.pair.0 c.if-not-is_pair.false)
    ]

pub returns : goal.returns
returns c = record {
  each = (λ e index pair at. c.loop-pair.invariant index pair (let within = slice_get_within c.args.pairs.now index pair at in omega (arith, c.loop-pair-test.false)) at, λ all. cc);
}
