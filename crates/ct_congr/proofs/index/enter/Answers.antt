use Rattle.std.proofs.Common.{sym, ◌∙◌}
use Rattle.ct_congr.proofs.IndexLemmas.{IsEntered-new, IsEntered-old}
use Rattle.ct_congr.proofs.index.enter.Goals as goal

pub returns-in-Some : goal.returns-in-Some
returns-in-Some c = record { entered = IsEntered-old c.args.index.now c.args.key c.args.t c.in-Some.first (sym c.known.ensures.value ∙ c.in-Some.is) }

pub returns : goal.returns
returns c = record { entered = IsEntered-new c.args.index.now c.insert.new.self c.args.key c.args.t c.in_ok-insert.ensures.updates.0 (sym c.known.ensures.value ∙ c.in_default.is) }
