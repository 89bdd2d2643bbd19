use Rattle.ct_sexpr.proofs.Texts.{one_command, one_error, unfinished_has_none, error_has_none, whitespace_has_none, error_is_no_whitespace, unfinished_is_not_wrong, command_is_a_list}
use Rattle.ct_sexpr.proofs.Prefixes.{whitespace_prefix, error_is_an_end, command_prefix}
use Rattle.ct_sexpr.proofs.Further.{command_stays, error_stays}
use Rattle.ct_sexpr.proofs.Completable.{goes_on}
use Rattle.ct_sexpr.proofs.Decided.{decided, at_end, definite_is_error}
use Rattle.ct_sexpr.proofs.ErrorPositions.{numbers}
use Rattle.ct_sexpr.proofs.theorems.one_reading.Goals as goal

pub returns : goal.returns
returns c = record {
  one_of_three = decided;
  one_command = one_command;
  one_error = one_error;
  unfinished_has_no_command = unfinished_has_none;
  error_has_no_command = error_has_none;
  whitespace_has_no_command = whitespace_has_none;
  error_is_no_whitespace = error_is_no_whitespace;
  not_both = unfinished_is_not_wrong;
  at_end = at_end;
  definite_is_error = definite_is_error;
  numbers = numbers;
  command_is_a_list = command_is_a_list;
  command_is_a_prefix = λ bytes e rest begins. let f = command_prefix bytes e rest begins in (f.0, f.2, f.1);
  goes_on = goes_on;
  command_stays = command_stays;
  error_stays = error_stays;
  error_is_an_end = error_is_an_end;
  whitespace_is_a_prefix = whitespace_prefix;
}
