use Rattle.ct_stack.proofs.SynonymLemmas.{synonym_extends}
use Rattle.ct_step.proofs.theorems.growing.Goals as goal

pub returns : goal.returns
returns c =
    record {
      hold = record {
        itself = c.growth.ensures.itself;
        further = c.growth.ensures.further;
        sort = c.growth.ensures.sort;
        head = c.growth.ensures.head;
        block = c.growth.ensures.block;
        synonym = synonym_extends;
        sorts = c.growth.ensures.sorts;
        function = c.growth.ensures.function;
        definition = c.growth.ensures.definition;
        table = c.one_lasting_sort.ensures.table;
        bases = c.lasting_bases.ensures.later;
        models = c.lasting_models.ensures.later;
      };
    }
