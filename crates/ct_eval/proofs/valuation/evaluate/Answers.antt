use Rattle.std.proofs.Common.{[], sym}
use Rattle.std.proofs.lemmas.List.{append-nil}
use Rattle.ct_eval.proofs.valuation.evaluate.Goals as goal

pub extend-requires-clause-begun : goal.extend-requires-clause-begun
extend-requires-clause-begun c = (c.args.table.now, ([], sym (append-nil c.args.table.now)), c.in_ok-evaluator.ensures.begun c.args.table.now)
