use Rattle.ct_log_text.proofs.WholeBack.{read_back, number_read_back}
use Rattle.ct_log_text.proofs.ReadFit.{reads_fit}
use Rattle.ct_log_text.proofs.OneOutcome.{one_reading}
use Rattle.ct_log_text.proofs.theorems.reads_back.Goals as goal

pub returns : goal.returns
returns c = record {
  same_record = λ d k rec consistent. read_back d k rec consistent (record {
    one_text = λ s t e f. c.shapes.ensures.one_text d s t e f consistent;
    made = λ s i e t. c.shapes.ensures.constructors d s i e t consistent;
  });
  same_number = number_read_back;
  writable = reads_fit;
  one_outcome = λ d e one other consistent.
      one_reading d (λ name found other_symbol. c.naming.ensures.one_symbol d name found other_symbol consistent) (c.one_lasting_sort.ensures.one d) e one other;
}
