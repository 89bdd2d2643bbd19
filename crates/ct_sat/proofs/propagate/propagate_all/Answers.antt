use Rattle.std.proofs.Common.{◌≡◌, length, sym, ◌∙◌}
use Rattle.ct_sat.specs.Status.{IsFalseAt}
use Rattle.ct_sat.proofs.StatusLemmas.{Propagated-both}
use Rattle.ct_sat.proofs.PropagateLemmas.{none_of, watching-settled, watching-attached, watching-worked}
use Rattle.ct_sat.proofs.propagate.propagate_all.Goals as goal

pub returns-then-is_some-clause-advances : goal.returns-then-is_some-clause-advances
returns-then-is_some-clause-advances c = record { propagated = c.settle-settled.ensures.settles.propagated; watching = λ saved h. watching-settled c.args.clauses.now c.args.trail.now c.settle-settled.new.trail c.args.watches.now.of_clauses.items c.args.watches.now.lists.items c.args.short.now saved c.args.progress.now c.settle-settled.new.progress c.settle-settled.ensures.settles h }

pub returns-then-is_some-2-clause-advances : goal.returns-then-is_some-2-clause-advances
returns-then-is_some-2-clause-advances c = record { propagated = Propagated-both c.args.clauses.now c.args.trail.now c.settle-settled.new.trail c.attach_all-attached.new.trail c.settle-settled.ensures.settles.propagated c.attach_all-attached.ensures.attaches.propagated; watching = λ saved h. watching-attached c.args.clauses.now c.settle-settled.new.trail c.attach_all-attached.new.trail c.args.watches.now.of_clauses.items c.attach_all-attached.new.watches.of_clauses.items c.args.watches.now.lists.items c.attach_all-attached.new.watches.lists.items c.args.short.now saved c.settle-settled.new.progress c.attach_all-attached.new.progress c.attach_all-attached.ensures.attaches c.attach_all-attached.ensures.linked (watching-settled c.args.clauses.now c.args.trail.now c.settle-settled.new.trail c.args.watches.now.of_clauses.items c.args.watches.now.lists.items c.args.short.now saved c.args.progress.now c.settle-settled.new.progress c.settle-settled.ensures.settles h) }

pub returns-clause-advances : goal.returns-clause-advances
returns-clause-advances c =
    let all = none_of c.attach_all-attached.result (c.attach_all-attached.new.progress.linked ≡ length c.args.clauses.now) (IsFalseAt c.args.clauses.now c.attach_all-attached.new.trail.literals) c.attach_all-attached.ensures.outcome (sym c.is_some-2.ensures ∙ c.if-is_some-2.false) in
    record {
      propagated = Propagated-both c.args.clauses.now c.args.trail.now c.attach_all-attached.new.trail c.work_through.new.trail (Propagated-both c.args.clauses.now c.args.trail.now c.settle-settled.new.trail c.attach_all-attached.new.trail c.settle-settled.ensures.settles.propagated c.attach_all-attached.ensures.attaches.propagated) c.work_through.ensures.works.propagated;
      watching = λ saved h. watching-worked c.args.clauses.now c.attach_all-attached.new.trail c.work_through.new.trail c.attach_all-attached.new.watches.of_clauses.items c.work_through.new.watches.of_clauses.items c.attach_all-attached.new.watches.lists.items c.work_through.new.watches.lists.items c.args.short.now saved c.attach_all-attached.new.progress c.work_through.new.progress all c.work_through.ensures.works c.work_through.ensures.linked (watching-attached c.args.clauses.now c.settle-settled.new.trail c.attach_all-attached.new.trail c.args.watches.now.of_clauses.items c.attach_all-attached.new.watches.of_clauses.items c.args.watches.now.lists.items c.attach_all-attached.new.watches.lists.items c.args.short.now saved c.settle-settled.new.progress c.attach_all-attached.new.progress c.attach_all-attached.ensures.attaches c.attach_all-attached.ensures.linked (watching-settled c.args.clauses.now c.args.trail.now c.settle-settled.new.trail c.args.watches.now.of_clauses.items c.args.watches.now.lists.items c.args.short.now saved c.args.progress.now c.settle-settled.new.progress c.settle-settled.ensures.settles h));
    }
