use Rattle.std.proofs.Common.{◌≡◌, ◌∙◌, ◌++◌, ◌∷◌, ℕ, List, [], ap, subst, sym, length, arith, refl, true≢false}
use Rattle.std.proofs.lemmas.Option.{slice_get_within, slice_get_read}
use Rattle.ct_lemmas.proofs.Lists.{slice_get-there}
use Rattle.ct_sat.specs.declared.clause.StepClause.{StepClause}
use Rattle.ct_sat.specs.Assigned.{Assigned}
use Rattle.ct_sat.specs.Watching.{IsGoneBack}
use Rattle.ct_sat.proofs.TrailLemmas.{decisions_fit}
use Rattle.ct_sat.proofs.ClauseLemmas.{conflict_found}
use Rattle.ct_sat.proofs.SearchLemmas.{within_room, IsSearch-added, IsSearch-cut, over_false, learns}
use Rattle.ct_sat.proofs.WatchingLemmas.{watching-added, watching-cut, length-taken}
use Rattle.ct_sat.proofs.CursorLemmas.{cursor-cut}
use Rattle.ct_sat.proofs.search.Search.learn.Goals as goal

pub unreachable-requires : goal.unreachable-requires
unreachable-requires c =
    let conflict = rw (← c.self.view_is) at c.requires.conflict in
    let fresh = rw c.as_slice.ensures.value at c.in-None.ensures.found in
    fresh conflict.0 conflict.2 conflict.1

pub refute-requires-clause-within : goal.refute-requires-clause-within
refute-requires-clause-within c = rw c.as_slice-then-is_empty.ensures.value (within_room c.self.inside.variables.items c.self.inside.clauses.items c.self.inside.trail c.self.inside.count c.self.inside.budget c.self.invariant.0)

pub refute-requires-clause-conflict : goal.refute-requires-clause-conflict
refute-requires-clause-conflict c =
    let conflict = rw (← c.self.view_is) at c.requires.conflict in
    let found = rw c.as_slice.ensures.value at c.in-Some.ensures.found in
    rw c.as_slice-then-is_empty.ensures.value (conflict_found c.self.inside.clauses.items c.self.inside.trail.literals c.in-Some.index c.args.conflict c.self.invariant.0.one_number found conflict)

pub analyse-requires-clause-within : goal.analyse-requires-clause-within
analyse-requires-clause-within c = rw c.as_slice-2.ensures.value (within_room c.self.inside.variables.items c.self.inside.clauses.items c.self.inside.trail c.self.inside.count c.self.inside.budget c.self.invariant.0)

pub analyse-requires-clause-conflict : goal.analyse-requires-clause-conflict
analyse-requires-clause-conflict c =
    let conflict = rw (← c.self.view_is) at c.requires.conflict in
    let found = rw c.as_slice.ensures.value at c.in-Some.ensures.found in
    rw c.as_slice-2.ensures.value (conflict_found c.self.inside.clauses.items c.self.inside.trail.literals c.in-Some.index c.args.conflict c.self.invariant.0.one_number found conflict)

pub cut_to-requires : goal.cut_to-requires
cut_to-requires c = record { fits = slice_get_within c.self.inside.trail.decided c.in_ok-found.found.keep c.in_ok-found.ensures.analysed.next c.in_ok-found.ensures.analysed.stands }

pub overflow_cast-result : goal.overflow_cast-result
overflow_cast-result c =
    let within = slice_get_within c.self.inside.trail.decided c.in_ok-found.found.keep c.in_ok-found.ensures.analysed.next c.in_ok-found.ensures.analysed.stands in
    let fit = decisions_fit c.self.inside.trail.literals c.self.inside.trail.reasons c.self.inside.trail.decided c.decided.ensures.whole.decisions in
    let fits = c.decided.ensures.whole.fits in
    let few = c.decided.ensures.whole.few in
    omega arith

pub go_back-requires : goal.go_back-requires
go_back-requires c =
    let within = slice_get_within c.self.inside.trail.decided c.in_ok-found.found.keep c.in_ok-found.ensures.analysed.next c.in_ok-found.ensures.analysed.stands in
    let long = c.self.invariant.1.saved_are.long in
    record { fits = omega arith }

pub invariant_of-self-2 : goal.invariant_of-self-2
invariant_of-self-2 c =
    let fresh = rw (← c.self.view_is) at c.requires.fresh in
    let lits : c.new-literals.result ≡ c.in_ok-found.found.lits.items = c.new-literals.ensures.value ∙ c.in_ok-from_slice.ensures.items ∙ c.as_slice-3.ensures.value in
    let over = over_false c.self.inside.variables.items c.self.inside.trail.literals c.in_ok-found.found.lits.items c.self.invariant.0.trail_over c.in_ok-found.ensures.analysed.false in
    let clauses = c.put.ensures.clauses ∙ ap (λ (xs : List StepClause). xs ++ (record { step = c.args.step; literals = c.new-literals.result }) ∷ []) c.in_ok-make_room.ensures.clauses in
    let noted = rw (c.in_ok-make_room.ensures.of_clauses, c.in_ok-make_room.ensures.short) at c.put.ensures.noted in
    let cut = c.cut_to.ensures.after c.in_ok-found.ensures.analysed.next c.in_ok-found.ensures.analysed.stands in
    let whole = c.decided.ensures.whole in
    let index_within = slice_get_within c.self.inside.trail.literals c.in_ok-found.ensures.analysed.next.index c.in_ok-found.ensures.analysed.next.literal (whole.decisions.stand c.in_ok-found.found.keep c.in_ok-found.ensures.analysed.next c.in_ok-found.ensures.analysed.stands) in
    let index : c.len.result ≡ c.in_ok-found.ensures.analysed.next.index = c.len.ensures.count ∙ ap (λ (a : Assigned). length a.literals) cut ∙ length-taken c.in_ok-found.ensures.analysed.next.index c.self.inside.trail.literals (omega arith) in
    let within = slice_get_within c.self.inside.trail.decided c.in_ok-found.found.keep c.in_ok-found.ensures.analysed.next c.in_ok-found.ensures.analysed.stands in
    let long = c.self.invariant.1.saved_are.long in
    let saved = slice_get-there c.self.inside.saved.items c.in_ok-found.found.keep (omega arith) in
    let back = subst (λ (n : ℕ). IsGoneBack c.self.inside.progress saved.0 n c.go_back.new.progress) index (c.go_back.ensures.back saved.0 saved.1) in
    rw (clauses, cut, c.go_back.ensures.saved, c.go_back.ensures.capacity) (
      IsSearch-cut c.self.inside.variables.items (c.self.inside.clauses.items ++ (record { step = c.args.step; literals = c.new-literals.result }) ∷ []) c.self.inside.trail c.self.inside.count c.self.inside.budget c.in_ok-found.found.keep c.in_ok-found.ensures.analysed.next
          (IsSearch-added c.self.inside.variables.items c.self.inside.clauses.items c.self.inside.trail c.self.inside.count c.self.inside.budget (record { step = c.args.step; literals = c.new-literals.result }) c.self.invariant.0 (rw lits over) fresh),
      watching-cut (c.self.inside.clauses.items ++ (record { step = c.args.step; literals = c.new-literals.result }) ∷ []) c.self.inside.trail c.put.new.of_clauses.items c.self.inside.watches.lists.items c.put.new.short.items c.self.inside.saved.items c.self.inside.progress c.go_back.new.progress c.in_ok-found.found.keep c.in_ok-found.ensures.analysed.next saved.0 c.in_ok-found.ensures.analysed.stands saved.1 (omega arith) whole.decisions.in_order back
          (watching-added c.self.inside.clauses.items c.self.inside.trail c.self.inside.watches.of_clauses.items c.put.new.of_clauses.items c.self.inside.watches.lists.items c.self.inside.short.items c.put.new.short.items c.self.inside.saved.items c.self.inside.progress (record { step = c.args.step; literals = c.new-literals.result }) noted c.self.invariant.1),
      c.self.invariant.2,
      λ e. absurd (true≢false (sym e)),
      cursor-cut c.self.inside.variables.items c.self.inside.trail c.self.inside.saved.items c.self.inside.cursor c.in_ok-found.found.keep c.in_ok-found.ensures.analysed.next c.index.result.now c.in_ok-found.ensures.analysed.stands (slice_get_read c.self.inside.saved.items (length c.self.inside.saved.items) c.in_ok-found.found.keep c.index.result.now refl (omega arith) c.index.ensures) whole.decisions.in_order c.self.invariant.4,
    )

pub returns : goal.returns
returns c =
    let lits : c.new-literals.result ≡ c.in_ok-found.found.lits.items = c.new-literals.ensures.value ∙ c.in_ok-from_slice.ensures.items ∙ c.as_slice-3.ensures.value in
    let found = rw c.as_slice-2.ensures.value at c.in_ok-found.ensures.analysed in
    let clauses = c.put.ensures.clauses ∙ ap (λ (xs : List StepClause). xs ++ (record { step = c.args.step; literals = c.new-literals.result }) ∷ []) c.in_ok-make_room.ensures.clauses in
    rw (← c.self.view_is) (record {
      learned = learns c.self.inside.variables.items c.self.inside.clauses.items c.put.new.clauses.items c.self.inside.trail c.cut_to.new.self c.self.inside.count c.self.inside.budget c.args.step c.in_ok-found.found.keep c.in_ok-found.found.lits.items c.new-literals.result c.new-2.result c.in_ok-found.found.hints.items c.new-3.result c.self.inside.propagated
          c.self.invariant.0.trail_over found clauses lits c.cut_to.ensures.after c.new-2.ensures.value c.new-3.ensures.value;
    })
