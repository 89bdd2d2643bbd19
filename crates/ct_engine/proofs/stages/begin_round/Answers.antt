use Rattle.std.proofs.Common.{◌∙◌}
use Rattle.ct_engine.proofs.ListLemmas.{Begins-then}
use Rattle.ct_engine.proofs.stages.begin_round.Goals as goal

pub returns-clause-same : goal.returns-clause-same
returns-clause-same c =
    let begun = c.in_ok-begin_again.ensures.same in
    let added = c.in_ok-add_again.ensures.same in
    record {
      declarations = added.declarations ∙ begun.declarations;
      terms = added.terms ∙ begun.terms;
      asserts = added.asserts ∙ begun.asserts;
      variables = added.variables ∙ begun.variables;
      initial = added.initial ∙ begun.initial;
      kept = added.kept ∙ begun.kept;
      lines = Begins-then c.args.course.now.derivation.rec.lines c.begin_again.new.course.derivation.rec.lines c.add_again.new.course.derivation.rec.lines begun.lines added.lines;
    }
