use Rattle.std.proofs.Common.{sym, ◌∙◌}
use Rattle.ct_card.specs.declared.size.Size.TheVariants.{One}
use Rattle.ct_build.proofs.AnswerLemmas.{other_term, own_of, not_own_open, built_some, small_open}
use Rattle.ct_build.proofs.open_classes.is_open.Goals as goal

pub returns-then-ne : goal.returns-then-ne
returns-then-ne c = record {
  class = not_own_open c.args.classes.now c.args.t c.rep-rep.result c.rep-rep.ensures.value (other_term c.rep-rep.result c.args.t (sym c.ne.ensures ∙ c.if-ne.true));
  own = own_of c.args.classes.now c.args.t c.rep-rep.result c.rep-rep.ensures.value c.rep-rep.ensures.own;
}

pub returns-then-is_some-clause-class : goal.returns-then-is_some-clause-class
returns-then-is_some-clause-class c = built_some c.args.classes.now c.args.t c.con_of.result (sym c.is_some.ensures ∙ c.if-is_some.true) c.con_of.ensures.found

pub returns-in-One-clause-class : goal.returns-in-One-clause-class
returns-in-One-clause-class c =
    let d = c.args.classes.now.declarations in
    small_open c.args.classes.now c.args.t c.term_sort-s.result One c.term_sort-s.ensures.sort (c.in-One.ensures.exact d c.requires.sizes) (c.unique_sizes.ensures.one d c.term_sort-s.result.0) (λ e. cc)
