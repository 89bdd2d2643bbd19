use Rattle.ct_sorts.proofs.facts.facts.Goals as goal

pub returns : goal.returns
returns c = record {
  all = record {
    declared = c.denotations.ensures.declared;
    sorts = c.denotations.ensures.sorts;
    stay = c.denotations.ensures.stay;
    keeps = c.additions.ensures.keeps;
    added = c.expressions.ensures.added;
    resolved = c.expressions.ensures.resolved;
    block = c.expressions.ensures.block;
    synonym = c.expressions.ensures.synonym;
    more = c.expressions.ensures.more;
    own = c.expressions.ensures.own;
    founded = c.instances.ensures.founded;
    founded_more = c.instances.ensures.more;
    same_text = c.written_texts.ensures.same_text;
    one_name = c.written_texts.ensures.one_name;
  };
}
