use Rattle.std.proofs.Common.{sym, ◌∙◌, reverse}
use Rattle.ct_formulas.specs.Compiled.{is_among}
use Rattle.ct_occurrence.proofs.FlagLemmas.{among_reversed, covered_other}
use Rattle.ct_occurrence.proofs.fitting.is_covered.Goals as goal

pub returns : goal.returns
returns c = record { value = c.has.ensures.value ∙ (sym (among_reversed c.args.earlier.now c.args.other) ∙ covered_other c.args.other.0 c.args.c.0 (is_among (reverse c.args.earlier.now) c.args.other) c.if-other-c.false) }
