use Rattle.std.proofs.Common.{refl, sym, ap, length, arith, true≢false}
use Rattle.std.proofs.lemmas.List.{length_push}
use Rattle.ct_sat.specs.Assigned.{Assigned}
use Rattle.ct_sat.proofs.TrailLemmas.{decisions_fit}
use Rattle.ct_sat.proofs.SearchLemmas.{IsSearch-decided}
use Rattle.ct_sat.proofs.WatchingLemmas.{watching-decided}
use Rattle.ct_sat.proofs.CursorLemmas.{cursor-decided}
use Rattle.ct_sat.proofs.search.Search.decide_on.Goals as goal

pub push_reserved-requires : goal.push_reserved-requires
push_reserved-requires c =
    let fit = decisions_fit c.decide.new.self.literals c.decide.new.self.reasons c.decide.new.self.decided c.len-count.ensures.whole.decisions in
    let decided = ap (λ (a : Assigned). length a.decided) c.decide.ensures.after in
    let more = length_push c.self.inside.trail.decided (record { literal = c.args.literal; index = length c.self.inside.trail.literals }) in
    let room = ap (λ (a : Assigned). a.room) c.decide.ensures.after in
    let fits = c.len-count.ensures.whole.fits in
    let long = c.self.invariant.1.saved_are.long in
    let capacity = c.self.invariant.2 in
    omega (arith, c.self.inside.saved.ok.0)

pub invariant_of-self : goal.invariant_of-self
invariant_of-self c =
    let variable = rw (← c.self.view_is) at c.requires.variable in
    let left = rw (← c.self.view_is) at c.requires.left in
    rw (c.decide.ensures.after, c.push_reserved.ensures.items, c.push_reserved.ensures.capacity) (
      IsSearch-decided c.self.inside.variables.items c.self.inside.clauses.items c.self.inside.trail c.self.inside.count c.self.inside.budget c.args.literal c.self.invariant.0 variable left,
      watching-decided c.self.inside.clauses.items c.self.inside.trail c.self.inside.watches.of_clauses.items c.self.inside.watches.lists.items c.self.inside.short.items c.self.inside.saved.items c.self.inside.progress _ c.args.literal c.self.invariant.1,
      c.self.invariant.2,
      λ e. absurd (true≢false (sym e)),
      cursor-decided c.self.inside.variables.items c.self.inside.trail c.args.literal c.self.inside.saved.items c.self.inside.cursor _ refl c.self.invariant.1.saved_are.long c.self.invariant.4,
    )
