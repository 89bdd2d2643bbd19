use Rattle.std.proofs.Common.{[], length, subst}
use Rattle.ct_sexpr.specs.Expression.{more, none}
use Rattle.ct_sexpr.specs.Reading.{BeginsCommand}
use Rattle.ct_log_text.specs.Written.{text_of, expression_of_record, header_item, end_item, term_items, line_items}
use Rattle.ct_log_text.proofs.SpacedText.{text_read}
use Rattle.ct_log_text.proofs.PlainBack.{TextTheorems, plain_record}
use Rattle.ct_log_text.proofs.theorems.text_is_read.Goals as goal

pub returns : goal.returns
returns c = record {
  text_is_read = text_read c.spaced_texts.ensures.written_is_spaced c.spaced_texts.ensures.spaced_is_read;
  derivation_is_read = λ d k rec consistent can.
      let e = expression_of_record d k rec in
      let items = more (header_item k) (term_items d 0 rec.terms (line_items 1 rec.lines (more (end_item (length rec.lines)) none))) in
      let theorems : TextTheorems = record { same_text = c.written_texts.ensures.same_text; one_name = c.written_texts.ensures.one_name } in
      let plain = plain_record theorems d consistent k rec can in
      subst (λ f. BeginsCommand (text_of e) f []) plain.1 (text_read c.spaced_texts.ensures.written_is_spaced c.spaced_texts.ensures.spaced_is_read items plain.0 can.nests);
}
