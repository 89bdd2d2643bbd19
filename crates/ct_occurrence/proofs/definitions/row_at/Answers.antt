use Rattle.std.proofs.Common.{Some, option_map, option_copied, sym, ap, ◌∙◌}
use Rattle.std.proofs.lemmas.Option.{none-some}
use Rattle.ct_occurrence.specs.declared.definitions.Worked.{Worked}
use Rattle.ct_occurrence.proofs.definitions.row_at.Goals as goal

pub returns : goal.returns
returns c = record { value = ap (option_map (λ (w : Worked). w.flags.items)) (sym c.get.ensures.value ∙ ap option_copied c.in-Some.is) ∙ ap Some (sym c.as_slice.ensures.value) }

pub unreachable-requires : goal.unreachable-requires
unreachable-requires c = none-some c.requires.known.0 (sym (sym c.get.ensures.value ∙ ap option_copied c.in-None.is) ∙ c.requires.known.1)
