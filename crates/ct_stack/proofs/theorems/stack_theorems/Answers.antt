use Rattle.ct_stack.proofs.theorems.stack_theorems.Goals as goal

pub returns : goal.returns
returns c = record {
  hold = record {
    add_same = c.additions.ensures.same;
    itself = c.growth.ensures.itself;
    further = c.growth.ensures.further;
    from_start = c.growth.ensures.from_start;
    more_functions = c.growth.ensures.function;
    more_definitions = c.growth.ensures.definition;
    can_cut = c.growth.ensures.can_cut;
    cut_back = c.growth.ensures.cut;
    unfolds = c.core_trees.ensures.unfolds;
    one = c.core_trees.ensures.one;
    longer = c.core_trees.ensures.longer;
    subterms = c.core_trees.ensures.subterms;
    subterms_stand = c.core_trees.ensures.subterms_stand;
    one_sort = c.core_trees.ensures.one_sort;
    tree_sorted = c.core_trees.ensures.sorted;
    core_sorted = c.formulas.ensures.sorted;
    core_lasting = c.formulas.ensures.longer;
    sorted_lasting = c.scopes.ensures.sorted_lasting;
    sound_lasting = c.scopes.ensures.sound_lasting;
    sound_with = c.scopes.ensures.sound_with;
    table_lasting = c.one_lasting_sort.ensures.table;
  };
}
