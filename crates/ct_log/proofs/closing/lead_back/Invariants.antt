use Rattle.std.proofs.Common.{◌↔◌, drop}
use Rattle.ct_log.specs.Closing.{LeadBackBy}
use Rattle.ct_log.proofs.closing.lead_back.Given as goal

abbrev pub invariant-loop-i : goal.invariant-loop-i
invariant-loop-i l = LeadBackBy l.sig l.table l.given (drop l.i l.hops) l.end ↔ LeadBackBy l.sig l.table l.given l.hops l.end
