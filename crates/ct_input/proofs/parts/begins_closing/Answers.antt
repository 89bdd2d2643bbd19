use Rattle.ct_input.proofs.PartLemmas.{closing_by}
use Rattle.ct_input.proofs.parts.begins_closing.Goals as goal

pub returns : goal.returns
returns c = record { value = closing_by c.args.bytes.now c.after_whitespace.result.now c.after_whitespace.ensures.value c.in-len1-up.len_at_least }
