use Rattle.std.proofs.Common.{arith, sym, true, false, true≢false}
use Rattle.std.proofs.lemmas.Option.{slice_get_within}
use Rattle.ct_sat.proofs.SearchLemmas.{shown, IsSound-from, IsSearch-propagated, IsQuiet-settled, within_room}
use Rattle.ct_sat.proofs.ClauseLemmas.{false_there}
use Rattle.ct_sat.proofs.WatchingLemmas.{all_settled}
use Rattle.ct_sat.proofs.CursorLemmas.{cursor-propagated}
use Rattle.ct_sat.proofs.search.Search.propagate.Goals as goal

pub propagate_all-conflict-requires-clause-within : goal.propagate_all-conflict-requires-clause-within
propagate_all-conflict-requires-clause-within c = rw c.as_slice.ensures.value (within_room c.self.inside.variables.items c.self.inside.clauses.items c.self.inside.trail c.self.inside.count c.self.inside.budget c.self.invariant.0)

pub index-requires : goal.index-requires
index-requires c =
    let outcome = rw c.as_slice.ensures.value at c.in-Some.ensures.outcome in
    let within = slice_get_within c.self.inside.clauses.items c.in-Some.index outcome.0 outcome.1 in
    omega (arith, c.self.inside.clauses.ok.0)

pub invariant_of-self : goal.invariant_of-self
invariant_of-self c =
    let advances = rw (c.as_slice.ensures.value, c.as_slice-2.ensures.value) at c.propagate_all-conflict.ensures.advances in
    let rest = rw (c.as_slice.ensures.value, c.as_slice-2.ensures.value) at c.in-None.ensures.outcome in
    let room = advances.propagated.room in
    let capacity = c.self.invariant.2 in
    (IsSearch-propagated c.self.inside.variables.items c.self.inside.clauses.items c.self.inside.trail c.propagate_all-conflict.new.trail c.self.inside.count c.self.inside.budget c.self.invariant.0 advances.propagated, advances.watching c.self.inside.saved.items c.self.invariant.1, omega arith, λ e. rest, cursor-propagated c.self.inside.variables.items c.self.inside.clauses.items c.self.inside.trail c.propagate_all-conflict.new.trail c.self.inside.saved.items c.self.inside.cursor advances.propagated c.self.invariant.4)

pub invariant_of-self-in-Some : goal.invariant_of-self-in-Some
invariant_of-self-in-Some c =
    let advances = rw (c.as_slice.ensures.value, c.as_slice-2.ensures.value) at c.propagate_all-conflict.ensures.advances in
    let room = advances.propagated.room in
    let capacity = c.self.invariant.2 in
    (IsSearch-propagated c.self.inside.variables.items c.self.inside.clauses.items c.self.inside.trail c.propagate_all-conflict.new.trail c.self.inside.count c.self.inside.budget c.self.invariant.0 advances.propagated, advances.watching c.self.inside.saved.items c.self.invariant.1, omega arith, λ e. absurd (true≢false (sym e)), cursor-propagated c.self.inside.variables.items c.self.inside.clauses.items c.self.inside.trail c.propagate_all-conflict.new.trail c.self.inside.saved.items c.self.inside.cursor advances.propagated c.self.invariant.4)

pub returns-in-None-clause-sound : goal.returns-in-None-clause-sound
returns-in-None-clause-sound c =
    let advances = rw (c.as_slice.ensures.value, c.as_slice-2.ensures.value) at c.propagate_all-conflict.ensures.advances in
    IsSound-from c.self.inside.variables.items c.self.inside.clauses.items c.propagate_all-conflict.new.trail c.self.inside.count c.self.inside.budget true (IsSearch-propagated c.self.inside.variables.items c.self.inside.clauses.items c.self.inside.trail c.propagate_all-conflict.new.trail c.self.inside.count c.self.inside.budget c.self.invariant.0 advances.propagated) c.propagate_all-conflict.ensures.whole.consistent c.propagate_all-conflict.ensures.whole.decisions

pub returns-in-None-clause-quiet : goal.returns-in-None-clause-quiet
returns-in-None-clause-quiet c =
    let advances = rw (c.as_slice.ensures.value, c.as_slice-2.ensures.value) at c.propagate_all-conflict.ensures.advances in
    let rest = rw (c.as_slice.ensures.value, c.as_slice-2.ensures.value) at c.in-None.ensures.outcome in
    IsQuiet-settled (shown c.self.inside.variables.items c.self.inside.clauses.items c.propagate_all-conflict.new.trail c.self.inside.count c.self.inside.budget true)
    (IsSound-from c.self.inside.variables.items c.self.inside.clauses.items c.propagate_all-conflict.new.trail c.self.inside.count c.self.inside.budget true (IsSearch-propagated c.self.inside.variables.items c.self.inside.clauses.items c.self.inside.trail c.propagate_all-conflict.new.trail c.self.inside.count c.self.inside.budget c.self.invariant.0 advances.propagated) c.propagate_all-conflict.ensures.whole.consistent c.propagate_all-conflict.ensures.whole.decisions)
    (all_settled c.self.inside.clauses.items c.propagate_all-conflict.new.trail c.propagate_all-conflict.new.watches.of_clauses.items c.propagate_all-conflict.new.watches.lists.items c.self.inside.short.items c.self.inside.saved.items c.propagate_all-conflict.new.progress (advances.watching c.self.inside.saved.items c.self.invariant.1) rest)

pub returns-in-Some-clause-sound : goal.returns-in-Some-clause-sound
returns-in-Some-clause-sound c =
    let advances = rw (c.as_slice.ensures.value, c.as_slice-2.ensures.value) at c.propagate_all-conflict.ensures.advances in
    IsSound-from c.self.inside.variables.items c.self.inside.clauses.items c.propagate_all-conflict.new.trail c.self.inside.count c.self.inside.budget false (IsSearch-propagated c.self.inside.variables.items c.self.inside.clauses.items c.self.inside.trail c.propagate_all-conflict.new.trail c.self.inside.count c.self.inside.budget c.self.invariant.0 advances.propagated) c.propagate_all-conflict.ensures.whole.consistent c.propagate_all-conflict.ensures.whole.decisions

pub returns-in-Some-clause-quiet : goal.returns-in-Some-clause-quiet
returns-in-Some-clause-quiet c =
    false_there c.self.inside.clauses.items c.propagate_all-conflict.new.trail.literals c.in-Some.index c.index.result.now (rw c.as_slice.ensures.value at c.in-Some.ensures.outcome) c.index.ensures
