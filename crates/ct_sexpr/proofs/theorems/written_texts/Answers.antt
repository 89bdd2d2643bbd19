use Rattle.std.proofs.Common.{sym, ap, ◌∙◌}
use Rattle.ct_sexpr.specs.Written.{written}
use Rattle.ct_sexpr.proofs.ReadBack.{list_is_read, command_is_readable, written_tells}
use Rattle.ct_sexpr.proofs.Names.{canonical_text, simple_name, name_text}
use Rattle.ct_sexpr.proofs.theorems.written_texts.Goals as goal

pub returns : goal.returns
returns c = record {
  command_is_readable = command_is_readable;
  list_is_read = list_is_read;
  same_text = λ e f r s. (written_tells e f r s, λ same. sym (canonical_text e) ∙ ap written same ∙ canonical_text f);
  one_name = simple_name;
  name_text = name_text;
}
