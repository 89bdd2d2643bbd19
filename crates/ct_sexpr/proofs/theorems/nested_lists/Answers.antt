use Rattle.ct_sexpr.proofs.Items.{item_nests_less, item_in_memory, suffix_nests, given_nests}
use Rattle.ct_sexpr.proofs.theorems.nested_lists.Goals as goal

pub returns : goal.returns
returns c = record {
  item_nests_less = item_nests_less;
  item_in_memory = item_in_memory;
  suffix_nests = suffix_nests;
  given_nests = given_nests;
}
