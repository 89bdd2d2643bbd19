use Rattle.std.proofs.Common.{option_copied, sym, ap, ◌∙◌}
use Rattle.std.proofs.lemmas.Option.{none-some, same_Some}
use Rattle.ct_occurrence.specs.declared.definitions.Worked.{Worked}
use Rattle.ct_occurrence.proofs.definitions.notes_at.Goals as goal

pub returns : goal.returns
returns c = record { value = λ w at. c.as_slice.ensures.value ∙ ap (λ (x : Worked). x.notes.items) (same_Some _ w (sym (sym c.get.ensures.value ∙ ap option_copied c.in-Some.is) ∙ at)) }

pub unreachable-requires : goal.unreachable-requires
unreachable-requires c = none-some c.requires.known.0 (sym (sym c.get.ensures.value ∙ ap option_copied c.in-None.is) ∙ c.requires.known.1)
