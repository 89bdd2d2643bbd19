use Rattle.std.proofs.Common.{sym, map, ◌∙◌}
use Rattle.ct_names.specs.Bounds.{held_name}
use Rattle.ct_names.specs.Repeats.{names_in_set}
use Rattle.ct_names.specs.Variables.{present_names}
use Rattle.ct_names.proofs.RepeatLemmas.{at_start, met_step}
use Rattle.ct_names.proofs.repeats.has_repeated.Goals as goal

pub loop-left-init : goal.loop-left-init
loop-left-init c = at_start c.new-seen.result.keys (present_names (map held_name c.args.names.now)) c.new-seen.ensures.empty

pub loop-left-preserved : goal.loop-left-preserved
loop-left-preserved c = met_step (present_names (map held_name c.args.names.now)) (names_in_set c.loop-left.seen) (names_in_set c.meet.new.seen) c.loop-left.left.now _ c.in-len1-up.len_at_least c.loop-left.invariant (sym c.in_ok-met.ensures.met ∙ c.if-met.false) (c.in_ok-met.ensures.more c.if-met.false)
