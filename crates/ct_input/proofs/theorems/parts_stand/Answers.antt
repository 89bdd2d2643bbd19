use Rattle.ct_input.proofs.PartLemmas.{part_stands}
use Rattle.ct_input.proofs.theorems.parts_stand.Goals as goal

pub returns : goal.returns
returns c = record { part_stands = λ e part path bytes rest a is. part_stands e path bytes rest part a is }
