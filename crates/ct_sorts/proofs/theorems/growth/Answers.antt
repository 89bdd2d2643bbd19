use Rattle.ct_sorts.proofs.GrowthLemmas.{extends_itself, extends_further, extends_sort, extends_head, extends_block, extends_synonym, extends_instance, extends_with_sorts, extends_function, extends_definition, can_cut_to_earlier, cut_to_earlier, extends_start}
use Rattle.ct_sorts.proofs.theorems.growth.Goals as goal

pub returns : goal.returns
returns c = record {
  itself = extends_itself;
  further = extends_further;
  sort = extends_sort;
  head = extends_head;
  block = extends_block;
  synonym = extends_synonym;
  instance = extends_instance;
  sorts = extends_with_sorts;
  function = extends_function;
  definition = extends_definition;
  from_start = extends_start;
  can_cut = can_cut_to_earlier;
  cut = cut_to_earlier;
}
