use Rattle.std.proofs.Common.{[], length, sym, ap, ◌∙◌}
use Rattle.ct_congr.proofs.HeldLemmas.{AreHeld-first}
use Rattle.ct_congr.proofs.KeptLemmas.{IsKept-fast}
use Rattle.ct_congr.proofs.holding.hypothetical.Goals as goal

pub assume-requires-clause-kept : goal.assume-requires-clause-kept
assume-requires-clause-kept c =
    let p = c.in_ok-progress.progress in
    IsKept-fast c.args.sig.now c.args.table.now p.store.parts p.keys p.waiting.items p.covered c.in_ok-progress.ensures.groupings c.in_ok-progress.ensures.keys (λ fast. c.in_ok-progress.ensures.waits) (λ fast. c.in_ok-progress.ensures.covered)

pub returns-clause-held : goal.returns-clause-held
returns-clause-held c =
    let store = c.assume.new.progress.store in
    AreHeld-first c.args.sig.now c.args.table.now c.args.single.now c.args.hyps.now store.parts.now.reps store.parts.now.cons store.merges.items c.requires.sorted c.requires.single c.requires.stripped (c.in_ok-assume.ensures.sound [] (c.in_ok-progress.ensures.sound c.args.hyps.now [])) c.in_ok-assume.ensures.states

pub returns-clause-long : goal.returns-clause-long
returns-clause-long c = c.in_ok-assume.ensures.long (ap length c.in_ok-progress.ensures.past ∙ sym (ap length c.in_ok-progress.ensures.merges))
