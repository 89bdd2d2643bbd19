use Rattle.ct_model.proofs.BodyLemmas.{joins_none, joins_at}
use Rattle.ct_model.proofs.body.joins_next.Goals as goal

pub returns-then-r-rows-clause-value : goal.returns-then-r-rows-clause-value
returns-then-r-rows-clause-value c = joins_none c.args.rows.now c.args.r c.if-r-rows.true

pub returns-clause-value : goal.returns-clause-value
returns-clause-value c = joins_at c.args.rows.now c.args.r c.index-rows-r.result c.index-rows-r-2.result c.requires.within c.if-r-rows.false
