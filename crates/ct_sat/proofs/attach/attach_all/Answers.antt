use Rattle.std.proofs.Common.{arith}
use Rattle.ct_sat.proofs.PropagateLemmas.{longer}
use Rattle.ct_sat.proofs.AttachLemmas.{Attaches-both}
use Rattle.ct_sat.proofs.attach.attach_all.Goals as goal

pub returns-then-attach-clause-attaches : goal.returns-then-attach-clause-attaches
returns-then-attach-clause-attaches c = Attaches-both c.args.clauses.now c.args.trail.now c.added.trail c.attach.new.trail c.args.watches.now.of_clauses.items c.added.watches.of_clauses.items c.attach.new.watches.of_clauses.items c.args.progress.now c.added.progress c.attach.new.progress c.added.invariant.attaches c.attach.ensures.attaches

pub added-preserved : goal.added-preserved
added-preserved c = record {
  linked = c.attach.ensures.linked;
  attaches = Attaches-both c.args.clauses.now c.args.trail.now c.added.trail c.attach.new.trail c.args.watches.now.of_clauses.items c.added.watches.of_clauses.items c.attach.new.watches.of_clauses.items c.args.progress.now c.added.progress c.attach.new.progress c.added.invariant.attaches c.attach.ensures.attaches;
  head = (let before = c.added.invariant.head in
      let same = c.attach.ensures.attaches.head in
      let more = longer c.args.clauses.now c.added.trail c.attach.new.trail c.attach.ensures.attaches.propagated in
      omega arith);
}
