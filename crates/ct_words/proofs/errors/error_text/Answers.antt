use Rattle.std.proofs.Common.{◌≡◌, true, eqb, [], get_or, sym, ap, ◌∙◌, arith}
use Rattle.std.proofs.lemmas.Option.{get_or_from_slice_get}
use Rattle.std.proofs.lemmas.List.Sums.{position_or_len_is}
use Rattle.std.proofs.lemmas.Bool.Decides.{nat_tests}
use Rattle.ct_words.specs.Words.{error_names}
use Rattle.ct_words.specs.Errors.{error_numbers}
use Rattle.ct_words.proofs.errors.error_text.Goals as goal

pub returns-then-known-number : goal.returns-then-known-number
returns-then-known-number c =
    let here : eqb (get_or error_numbers c.loop-index.index 0) c.args.number ≡ true = grind (arith, nat_tests, c.if-known-number.true) in
    let first = position_or_len_is (λ n. eqb n c.args.number) error_numbers c.loop-index.index 0 (omega (arith, c.loop-index-test.true)) c.loop-index.invariant (λ _. here) in
    record {
      text =
          sym (get_or_from_slice_get error_names c.loop-index.index c.name.result.now [] (rw c.requires.table at c.name.ensures.name))
          ∙ sym (ap (λ index. get_or error_names index []) first);
    }

pub returns : goal.returns
returns c =
    let last = position_or_len_is (λ n. eqb n c.args.number) error_numbers 43 0 (omega arith) (λ k h. c.loop-index.invariant k (omega (arith, h, c.loop-index-test.false))) (λ h. absurd (omega (arith, h))) in
    record { text = sym (ap (λ index. get_or error_names index []) last) }
