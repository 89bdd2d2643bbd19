use Rattle.std.proofs.Common.{length, sym, ◌∙◌, arith}
use Rattle.ct_log.specs.declared.rules.Hop.{Hop}
use Rattle.ct_log.proofs.LookLemmas.{not_told, above_zero, LeadBackBy-next, LeadBackBy-stop, LeadBackBy-end}
use Rattle.ct_log.proofs.closing.lead_back.Goals as goal

-- what stands where there is no hop
abbrev default : Hop
default = record { con = record { 0 = 0 }; place = 0; step = 0 }

pub returns-then-not-leads_to : goal.returns-then-not-leads_to
returns-then-not-leads_to c = record {
  back = (
    λ e. cc,
    λ all. absurd (LeadBackBy-stop c.args.sig.now c.args.table.now c.args.given.now c.args.hops.now c.args.end default c.loop-i.i (omega arith) c.loop-i.invariant
        (not_told c.leads_to.result _ c.leads_to.ensures.leads c.if-not-leads_to.true) all),
  );
}

pub loop-i-preserved : goal.loop-i-preserved
loop-i-preserved c =
    LeadBackBy-next c.args.sig.now c.args.table.now c.args.given.now c.args.hops.now c.args.end default c.loop-i.i (omega arith) c.loop-i.invariant
    (c.leads_to.ensures.leads.0 c.if-not-leads_to.false)

pub returns : goal.returns
returns c =
    let some = above_zero (length c.args.hops.now) (sym c.is_empty.ensures ∙ c.if-is_empty.false) in
    record {
      back = LeadBackBy-end c.args.sig.now c.args.table.now c.args.given.now c.args.hops.now c.args.end default c.loop-i.i _ c.leads_to-2.result (omega (arith, c.loop-i-test.false, c.loop-i.auto.i-end)) (omega (arith, some)) c.loop-i.invariant c.leads_to-2.ensures.leads;
    }
