use Rattle.ct_sexpr.proofs.ErrorPositions.{closing_position, ending_position, opening_position, outside_position}
use Rattle.ct_sexpr.proofs.theorems.error_positions.Goals as goal

pub returns : goal.returns
returns c = record {
  closing_position = closing_position;
  ending_position = ending_position;
  opening_position = opening_position;
  outside_position = outside_position;
}
