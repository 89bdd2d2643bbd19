use Rattle.std.proofs.Common.{◌≡◌, ◌∙◌, ◌++◌, ◌∷◌, List, [], sym, ap, subst, true≢false}
use Rattle.ct_sat.specs.declared.clause.StepClause.{StepClause}
use Rattle.ct_sat.specs.State.{AreOver}
use Rattle.ct_sat.proofs.SearchLemmas.{IsSearch-added}
use Rattle.ct_sat.proofs.WatchingLemmas.{watching-added}
use Rattle.ct_sat.proofs.search.Search.add_clause.Goals as goal

pub invariant_of-self-2 : goal.invariant_of-self-2
invariant_of-self-2 c =
    let lits : c.new-literals.result ≡ c.args.lits.now = c.new-literals.ensures.value ∙ c.in_ok-from_slice.ensures.items in
    let over = rw (← c.self.view_is) at c.requires.over in
    let fresh = rw (← c.self.view_is) at c.requires.fresh in
    let clauses = c.put.ensures.clauses ∙ ap (λ (xs : List StepClause). xs ++ (record { step = c.args.step; literals = c.new-literals.result }) ∷ []) c.in_ok-make_room.ensures.clauses in
    let noted = rw (c.in_ok-make_room.ensures.of_clauses, c.in_ok-make_room.ensures.short) at c.put.ensures.noted in
    rw clauses (
      IsSearch-added c.self.inside.variables.items c.self.inside.clauses.items c.self.inside.trail c.self.inside.count c.self.inside.budget (record { step = c.args.step; literals = c.new-literals.result }) c.self.invariant.0 (subst (AreOver c.self.inside.variables.items) (sym lits) over) fresh,
      watching-added c.self.inside.clauses.items c.self.inside.trail c.self.inside.watches.of_clauses.items c.put.new.of_clauses.items c.self.inside.watches.lists.items c.self.inside.short.items c.put.new.short.items c.self.inside.saved.items c.self.inside.progress (record { step = c.args.step; literals = c.new-literals.result }) noted c.self.invariant.1,
      c.self.invariant.2,
      λ e. absurd (true≢false (sym e)),
      c.self.invariant.4,
    )
