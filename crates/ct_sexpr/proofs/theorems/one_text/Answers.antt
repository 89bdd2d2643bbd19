use Rattle.ct_sexpr.proofs.Readings.{one_text, one_so_far}
use Rattle.ct_sexpr.proofs.Pieces.{some_text, some_so_far, first_command, first_so_far, definite_error, error_so_far, refused_so_far, refused_goes_on, waiting_so_far, waiting_goes_on}
use Rattle.ct_sexpr.proofs.theorems.one_text.Goals as goal

pub returns : goal.returns
returns c = record {
  one_text = one_text;
  some_text = some_text;
  one_so_far = one_so_far;
  some_so_far = some_so_far;
  first_command = first_command;
  first_so_far = first_so_far;
  definite_error = definite_error;
  error_so_far = error_so_far;
  refused_so_far = refused_so_far;
  refused_goes_on = refused_goes_on;
  waiting_so_far = waiting_so_far;
  waiting_goes_on = waiting_goes_on;
}
