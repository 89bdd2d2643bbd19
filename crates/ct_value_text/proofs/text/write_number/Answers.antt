use Rattle.std.proofs.Common.{◌≡◌, List, ℕ, ◌++◌, decimal, sym, ap, ◌∙◌}
use Rattle.ct_value_text.proofs.NumeralLemmas.{numeral_is_decimal}
use Rattle.ct_value_text.proofs.text.write_number.Goals as goal

pub returns : goal.returns
returns c = record {
  ok =
      let digits : c.as_bytes.result.now ≡ decimal c.args.number = c.as_bytes.ensures.value ∙ c.in_ok-format.ensures.ok in
      c.in_ok-extend_from_slice.ensures.items
      ∙ ap (λ (w : List ℕ). c.args.out.now.items ++ w) (digits ∙ sym (numeral_is_decimal c.args.number c.ranges.number.fits));
}
