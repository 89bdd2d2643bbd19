use Rattle.std.proofs.Common.{length, sym}
use Rattle.std.proofs.lemmas.Option.{slice_get_within, slice_get_read}
use Rattle.ct_sat.proofs.WatchingLemmas.{no_two-fresh, no_two-short, pair-of, well_watched}
use Rattle.ct_sat.proofs.search.Search.watches.Goals as goal

pub returns-then-is_one-clause-watched : goal.returns-then-is_one-clause-watched
returns-then-is_one-clause-watched c =
    let found = rw c.as_slice.ensures.value at c.in-Some.ensures.found in
    let long = c.self.invariant.1.linked.long in
    let at = slice_get_read c.self.inside.watches.of_clauses.items (length c.self.inside.clauses.items) c.in-Some.index c.index-watch.result.now (sym long) (slice_get_within c.self.inside.clauses.items c.in-Some.index found.0 found.1) c.index-watch.ensures in
    rw (← c.self.view_is) (no_two-short c.self.inside.clauses.items c.args.step c.in-Some.index found.0 c.index-watch.result.now c.self.invariant.0.one_number found.1 found.2 (c.self.invariant.1.linked.pairs c.in-Some.index found.0 c.index-watch.result.now found.1 at) c.if-is_one.ensures.value)

pub returns-in-None-clause-watched : goal.returns-in-None-clause-watched
returns-in-None-clause-watched c =
    let fresh = rw c.as_slice.ensures.value at c.in-None.ensures.found in
    rw (← c.self.view_is) (no_two-fresh c.self.inside.clauses.items c.args.step fresh)

pub returns-else-is_one-clause-watched : goal.returns-else-is_one-clause-watched
returns-else-is_one-clause-watched c =
    let found = rw c.as_slice.ensures.value at c.in-Some.ensures.found in
    let long = c.self.invariant.1.linked.long in
    let at = slice_get_read c.self.inside.watches.of_clauses.items (length c.self.inside.clauses.items) c.in-Some.index c.index-watch.result.now (sym long) (slice_get_within c.self.inside.clauses.items c.in-Some.index found.0 found.1) c.index-watch.ensures in
    rw (← c.self.view_is) (pair-of c.self.inside.clauses.items c.args.step c.in-Some.index found.0 c.index-watch.result.now found.1 found.2 (c.self.invariant.1.linked.pairs c.in-Some.index found.0 c.index-watch.result.now found.1 at) c.if-is_one.ensures.value)

pub returns-else-is_one-clause-well : goal.returns-else-is_one-clause-well
returns-else-is_one-clause-well c =
    let found = rw c.as_slice.ensures.value at c.in-Some.ensures.found in
    let long = c.self.invariant.1.linked.long in
    let at = slice_get_read c.self.inside.watches.of_clauses.items (length c.self.inside.clauses.items) c.in-Some.index c.index-watch.result.now (sym long) (slice_get_within c.self.inside.clauses.items c.in-Some.index found.0 found.1) c.index-watch.ensures in
    rw (← c.self.view_is) (λ e. well_watched c.self.inside.clauses.items c.self.inside.trail c.self.inside.watches.of_clauses.items c.self.inside.watches.lists.items c.self.inside.short.items c.self.inside.saved.items c.self.inside.progress c.self.invariant.1 (c.self.invariant.3 e) c.in-Some.index found.0 c.index-watch.result.now found.1 at c.if-is_one.ensures.value)
