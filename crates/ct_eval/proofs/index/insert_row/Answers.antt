use Rattle.std.proofs.Common.{sym, ◌∙◌}
use Rattle.ct_eval.proofs.IndexLemmas.{inserted-stay, inserted-only}
use Rattle.ct_eval.proofs.index.insert_row.Goals as goal

pub returns-in_ok-insert-in-None-clause-stay : goal.returns-in_ok-insert-in-None-clause-stay
returns-in_ok-insert-in-None-clause-stay c =
    inserted-stay c.args.index.now c.insert.new.self c.args.key c.args.node c.in_ok-insert-in-None.ensures.updates.0 (sym c.known.ensures.value ∙ c.in-None.is)

pub returns-in_ok-insert-in-None-clause-only : goal.returns-in_ok-insert-in-None-clause-only
returns-in_ok-insert-in-None-clause-only c =
    inserted-only c.args.index.now c.insert.new.self c.args.key c.args.node c.in_ok-insert-in-None.ensures.updates.0 (sym c.known.ensures.value ∙ c.in-None.is)
