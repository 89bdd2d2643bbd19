use Rattle.std.proofs.Common.{◌≡◌, ℕ, ◌<◌, false, eqb, get_or}
use Rattle.ct_words.specs.Errors.{error_numbers}
use Rattle.ct_words.proofs.errors.error_text.Given as goal

abbrev pub invariant-loop-index : goal.invariant-loop-index
invariant-loop-index l = (k : ℕ) → k < l.index → eqb (get_or error_numbers k 0) l.number ≡ false
