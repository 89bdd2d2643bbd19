use Rattle.std.proofs.Common.{refl, sym, ap, Contains, arith, length, true≢false}
use Rattle.std.proofs.lemmas.List.{length_push}
use Rattle.std.proofs.lemmas.List.Elements.{All-contains}
use Rattle.ct_sat.specs.Assigned.{Assigned}
use Rattle.ct_sat.specs.Up.{IsAssigned, negative_of}
use Rattle.ct_sat.proofs.TrailLemmas.{decisions_fit}
use Rattle.ct_sat.proofs.SearchLemmas.{IsSearch-decided}
use Rattle.ct_sat.proofs.WatchingLemmas.{watching-decided}
use Rattle.ct_sat.proofs.CursorLemmas.{cursor-values, cursor-moved, cursor-decided}
use Rattle.ct_sat.proofs.search.Search.decide.Goals as goal

pub returns-then-self-clause-all : goal.returns-then-self-clause-all
returns-then-self-clause-all c =
    let low = rw c.as_slice.ensures.value at c.in-Some.ensures.lowest in
    rw (← c.self.view_is) (λ e. cc, λ h. absurd (low.unset (h c.in-Some.term low.variable)))

pub returns-else-self-clause-all : goal.returns-else-self-clause-all
returns-else-self-clause-all c =
    let low = rw c.as_slice.ensures.value at c.in-Some.ensures.lowest in
    rw (← c.self.view_is) (λ e. cc, λ h. absurd (low.unset (h c.in-Some.term low.variable)))

pub returns-in-None-clause-all : goal.returns-in-None-clause-all
returns-in-None-clause-all c =
    let values = rw c.as_slice.ensures.value at c.in-None.ensures.lowest in
    rw (← c.self.view_is) (λ e t h. All-contains (IsAssigned (Contains c.self.inside.trail.literals)) c.self.inside.variables.items t values h, λ h. refl)

pub returns-in-None-clause-spent : goal.returns-in-None-clause-spent
returns-in-None-clause-spent c =
    let values = rw c.as_slice.ensures.value at c.in-None.ensures.lowest in
    rw (← c.self.view_is) (λ e. cc, λ p. absurd (p.0.2 (All-contains (IsAssigned (Contains c.self.inside.trail.literals)) c.self.inside.variables.items p.0.0 values p.0.1)))

pub lowest-requires-clause-before : goal.lowest-requires-clause-before
lowest-requires-clause-before c = rw c.as_slice.ensures.value (cursor-values c.self.inside.variables.items c.self.inside.trail c.self.inside.saved.items c.self.inside.cursor c.self.invariant.4)

pub push_reserved-requires : goal.push_reserved-requires
push_reserved-requires c =
    let fit = decisions_fit c.decide.new.self.literals c.decide.new.self.reasons c.decide.new.self.decided c.len-count.ensures.whole.decisions in
    let decided = ap (λ (a : Assigned). length a.decided) c.decide.ensures.after in
    let more = length_push c.self.inside.trail.decided (record { literal = negative_of c.in-Some.term; index = length c.self.inside.trail.literals }) in
    let room = ap (λ (a : Assigned). a.room) c.decide.ensures.after in
    let fits = c.len-count.ensures.whole.fits in
    let long = c.self.invariant.1.saved_are.long in
    let capacity = c.self.invariant.2 in
    omega (arith, c.self.inside.saved.ok.0)

pub invariant_of-self : goal.invariant_of-self
invariant_of-self c =
    let low = rw c.as_slice.ensures.value at c.in-Some.ensures.lowest in
    let within = c.self.invariant.0.within in
    rw (c.decide.ensures.after, c.push_reserved.ensures.items, c.push_reserved.ensures.capacity) (
      IsSearch-decided c.self.inside.variables.items c.self.inside.clauses.items c.self.inside.trail c.self.inside.count c.self.inside.budget (negative_of c.in-Some.term) c.self.invariant.0 low.variable (omega arith),
      watching-decided c.self.inside.clauses.items c.self.inside.trail c.self.inside.watches.of_clauses.items c.self.inside.watches.lists.items c.self.inside.short.items c.self.inside.saved.items c.self.inside.progress _ (negative_of c.in-Some.term) c.self.invariant.1,
      c.self.invariant.2,
      λ e. absurd (true≢false (sym e)),
      cursor-decided c.self.inside.variables.items c.self.inside.trail (negative_of c.in-Some.term) c.self.inside.saved.items c.lowest.new.cursor _ refl c.self.invariant.1.saved_are.long
          (cursor-moved c.self.inside.variables.items c.self.inside.trail c.self.inside.saved.items c.self.inside.cursor c.lowest.new.cursor (rw c.as_slice.ensures.value at c.lowest.ensures.before) c.self.invariant.4),
    )
