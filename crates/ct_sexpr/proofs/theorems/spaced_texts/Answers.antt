use Rattle.ct_sexpr.proofs.SpacedTexts.{spacing_is_passed, command_has_tokens, spacing_before, spaced_is_read, written_is_spaced}
use Rattle.ct_sexpr.proofs.theorems.spaced_texts.Goals as goal

pub returns : goal.returns
returns c = record {
  command_has_tokens = command_has_tokens;
  spacing_is_passed = spacing_is_passed;
  spacing_before = spacing_before;
  spaced_is_read = spaced_is_read;
  written_is_spaced = written_is_spaced;
}
