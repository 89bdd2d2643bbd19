use Rattle.ct_input.proofs.PieceLemmas.{ends_in_piece}
use Rattle.ct_input.proofs.theorems.last_piece.Goals as goal

pub returns : goal.returns
returns c = record { ends_in_piece = ends_in_piece }
