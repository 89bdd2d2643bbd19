use Rattle.ct_sorts.proofs.BaseLemmas.{base_of}
use Rattle.ct_sorts.proofs.MadeAtLemmas.{ctor_of_sort}
use Rattle.ct_sorts.proofs.TextLemmas.{one_text}
use Rattle.ct_sorts.proofs.theorems.shapes.Goals as goal

pub returns : goal.returns
returns c = record {
  constructors = λ d s i e t consistent at at_t. ctor_of_sort d consistent.origins s e at i t at_t;
  one_text = λ d s t e f consistent at_s at_t is. one_text c.written_texts.ensures.same_text c.written_texts.ensures.one_name d (base_of d consistent) s t e f at_s at_t is;
}
