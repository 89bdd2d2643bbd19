use Rattle.ct_operators.proofs.theorems.term_theorems.Goals as goal

pub returns : goal.returns
returns c = record {
  hold = record {
    unfolds = c.core_trees.ensures.unfolds;
    one = c.core_trees.ensures.one;
    longer = c.core_trees.ensures.longer;
    subterms = c.core_trees.ensures.subterms;
    subterms_stand = c.core_trees.ensures.subterms_stand;
    subterms_of_subterms = c.core_trees.ensures.subterms_of_subterms;
    read = c.core_trees.ensures.read;
    one_sort = c.core_trees.ensures.one_sort;
    sorted = c.core_trees.ensures.sorted;
    compiled_sorted = c.formulas.ensures.compiled;
    calls_sorted = c.formulas.ensures.calls;
    occurring = c.formulas.ensures.occurring;
    used = c.formulas.ensures.used;
    used_subterm = c.formulas.ensures.used_subterm;
    occurring_subterm = c.formulas.ensures.occurring_subterm;
    mentions = c.formulas.ensures.mentions;
    fields = c.formulas.ensures.fields;
    chosen = λ d sorts vs consistent listable inside. (c.listed_values.ensures.choices d sorts vs consistent listable).0 inside;
  };
}
