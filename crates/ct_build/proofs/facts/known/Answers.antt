use Rattle.ct_build.proofs.facts.known.Goals as goal

pub returns : goal.returns
returns c =
    let facts = c.facts.ensures in
    let state = c.args.classes.now in
    record {
      known = record {
        laws = c.laws.ensures.laws;
        long = facts.long;
        sorted = facts.sorted;
        ordered = facts.ordered;
        begins = facts.begins;
        one_sort = facts.one_sort;
        consistent = facts.consistent;
        own_sorts = facts.of_their_sorts;
        own_ctors = c.structure.ensures.of_their_constructors state.declarations facts.consistent;
        some = facts.some;
        splits = λ closed t s. c.closed_tables.ensures.splits state.declarations state.terms t s facts.ordered facts.single facts.sorted closed;
        several = c.different_values.ensures.several state.declarations;
        closed = c.fitting_graphs.ensures.closed state.declarations;
      };
    }
