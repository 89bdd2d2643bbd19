use Rattle.std.proofs.Common.{◌≡◌, ◌<◌, ◌+◌, ◌-◌, ℕ, Contains, sym, ap, subst, ◌∙◌, arith}
use Rattle.std.proofs.lemmas.Option.{same_Some, slice_get_within}
use Rattle.ct_lemmas.proofs.Contained.{Contains-from_slice_get}
use Rattle.ct_terms.specs.declared.ids.Lit.{Lit}
use Rattle.ct_terms.specs.Literal.{opposite}
use Rattle.ct_sat.specs.declared.watch.Watch.{Watch}
use Rattle.ct_sat.specs.Watches.{IsWatch}
use Rattle.ct_sat.specs.Status.{IsFalseAt}
use Rattle.ct_sat.specs.Watching.{IsWorkedThrough}
use Rattle.ct_sat.proofs.UpLemmas.{opposite-opposite}
use Rattle.ct_sat.proofs.StatusLemmas.{Propagated-none, Propagated-both}
use Rattle.ct_sat.proofs.VisitLemmas.{visiting-start, visiting-next, visiting-few, visiting-end, next-at, next-clause, none_then, worked-through, visit_visits, visit_short, visit_held}
use Rattle.ct_sat.proofs.PropagateLemmas.{still, still_in, still_within, longer, map_none}
use Rattle.ct_sat.proofs.visit.visit.Goals as goal

pub listed-init : goal.listed-init
listed-init c =
    let k = c.opposite-gone.ensures.value in
    let within : c.opposite-gone.result.term.0 < c.args.trail.now.room = subst (λ (x : Lit). x.term.0 < c.args.trail.now.room) (sym k.2) (c.opposite-gone.ensures.whole.below c.args.index k.0 k.1) in
    rw c.take_list-rest.ensures.of_clauses (record {
      propagated = Propagated-none c.args.clauses.now c.args.trail.now;
      short = λ d w at e. at;
      held = λ saved low h. h;
      visiting = visiting-start c.args.clauses.now c.args.trail.now.room c.args.watches.now.of_clauses.items c.args.watches.now.lists.items c.take_list-rest.new.watches.lists.items c.opposite-gone.result c.args.trail.now.literals c.take_list-rest.result within c.requires.linked c.take_list-rest.ensures.taken c.take_list-rest.ensures.lists;
      outcome = tt;
    })

pub index-requires : goal.index-requires
index-requires c =
    let next = visiting-next c.args.clauses.now c.listed.trail.room c.listed.watches.of_clauses.items c.listed.watches.lists.items c.opposite-gone.result c.listed.trail.literals c.listed.conflict c.listed.rest.first c.listed.rest.count c.listed-test.true c.listed.invariant.visiting in
    let within = slice_get_within c.listed.watches.of_clauses.items c.listed.rest.first next.w next.at in
    omega (arith, c.listed.watches.of_clauses.ok.0)

pub beside-next-requires : goal.beside-next-requires
beside-next-requires c =
    let next = visiting-next c.args.clauses.now c.listed.trail.room c.listed.watches.of_clauses.items c.listed.watches.lists.items c.opposite-gone.result c.listed.trail.literals c.listed.conflict c.listed.rest.first c.listed.rest.count c.listed-test.true c.listed.invariant.visiting in
    let at = next-at c.args.clauses.now c.listed.trail.room c.listed.watches.of_clauses.items c.listed.watches.lists.items c.opposite-gone.result c.listed.rest.first c.index.result.now (visiting-next c.args.clauses.now c.listed.trail.room c.listed.watches.of_clauses.items c.listed.watches.lists.items c.opposite-gone.result c.listed.trail.literals c.listed.conflict c.listed.rest.first c.listed.rest.count c.listed-test.true c.listed.invariant.visiting) c.index.ensures in
    record { watched = (next.m, next.n, subst (λ (u : Watch). IsWatch u c.opposite-gone.result next.m next.n) (same_Some next.w c.index.result.now (sym next.at ∙ at)) next.watch) }

pub look_at-conflict-requires-clause-clause : goal.look_at-conflict-requires-clause-clause
look_at-conflict-requires-clause-clause c =
    next-clause c.args.clauses.now c.listed.trail.room c.listed.watches.of_clauses.items c.listed.watches.lists.items c.opposite-gone.result c.beside-next.result.0 c.listed.rest.first c.beside-next.result.1 c.index.result.now (visiting-next c.args.clauses.now c.listed.trail.room c.listed.watches.of_clauses.items c.listed.watches.lists.items c.opposite-gone.result c.listed.trail.literals c.listed.conflict c.listed.rest.first c.listed.rest.count c.listed-test.true c.listed.invariant.visiting) (next-at c.args.clauses.now c.listed.trail.room c.listed.watches.of_clauses.items c.listed.watches.lists.items c.opposite-gone.result c.listed.rest.first c.index.result.now (visiting-next c.args.clauses.now c.listed.trail.room c.listed.watches.of_clauses.items c.listed.watches.lists.items c.opposite-gone.result c.listed.trail.literals c.listed.conflict c.listed.rest.first c.listed.rest.count c.listed-test.true c.listed.invariant.visiting) c.index.ensures) c.beside-next.ensures.watched

pub look_at-conflict-requires-clause-watched : goal.look_at-conflict-requires-clause-watched
look_at-conflict-requires-clause-watched c = (c.index.result.now, c.beside-next.result.1, next-at c.args.clauses.now c.listed.trail.room c.listed.watches.of_clauses.items c.listed.watches.lists.items c.opposite-gone.result c.listed.rest.first c.index.result.now (visiting-next c.args.clauses.now c.listed.trail.room c.listed.watches.of_clauses.items c.listed.watches.lists.items c.opposite-gone.result c.listed.trail.literals c.listed.conflict c.listed.rest.first c.listed.rest.count c.listed-test.true c.listed.invariant.visiting) c.index.ensures, c.beside-next.ensures.watched)

pub look_at-conflict-requires-clause-few : goal.look_at-conflict-requires-clause-few
look_at-conflict-requires-clause-few c = visiting-few c.args.clauses.now c.listed.trail.room c.listed.watches.of_clauses.items c.listed.watches.lists.items c.opposite-gone.result c.listed.trail.literals c.listed.conflict c.listed.rest.first c.listed.rest.count c.listed.invariant.visiting

pub look_at-conflict-requires-clause-is_false : goal.look_at-conflict-requires-clause-is_false
look_at-conflict-requires-clause-is_false c =
    let k = c.opposite-gone.ensures.value in
    let false_one : Contains c.listed.trail.literals (opposite c.opposite-gone.result) = subst (Contains c.listed.trail.literals) (sym (ap opposite k.2 ∙ opposite-opposite k.0))
    (still_in c.args.clauses.now c.args.trail.now c.listed.trail k.0 c.listed.invariant.propagated (Contains-from_slice_get c.args.trail.now.literals c.args.index k.0 k.1)) in
    false_one

pub listed-preserved : goal.listed-preserved
listed-preserved c =
    let k = c.opposite-gone.ensures.value in
    let false_one : Contains c.listed.trail.literals (opposite c.opposite-gone.result) = subst (Contains c.listed.trail.literals) (sym (ap opposite k.2 ∙ opposite-opposite k.0))
    (still_in c.args.clauses.now c.args.trail.now c.listed.trail k.0 c.listed.invariant.propagated (Contains-from_slice_get c.args.trail.now.literals c.args.index k.0 k.1)) in
    let some = c.listed-test.true in
    let one_less : c.listed.rest.count ≡ (c.listed.rest.count - 1) + 1 = omega arith in
    let first_within : c.opposite-gone.result.term.0 < c.args.trail.now.room = subst (λ (x : Lit). x.term.0 < c.args.trail.now.room) (sym k.2) (c.opposite-gone.ensures.whole.below c.args.index k.0 k.1) in
    let l_within : c.opposite-gone.result.term.0 < c.listed.trail.room = subst (λ (n : ℕ). c.opposite-gone.result.term.0 < n) (sym c.listed.invariant.propagated.room) first_within in
    let within = still_within c.args.clauses.now c.args.clauses.now c.args.trail.now c.listed.trail c.listed.invariant.propagated c.requires.within in
    let at = next-at c.args.clauses.now c.listed.trail.room c.listed.watches.of_clauses.items c.listed.watches.lists.items c.opposite-gone.result c.listed.rest.first c.index.result.now (visiting-next c.args.clauses.now c.listed.trail.room c.listed.watches.of_clauses.items c.listed.watches.lists.items c.opposite-gone.result c.listed.trail.literals c.listed.conflict c.listed.rest.first c.listed.rest.count c.listed-test.true c.listed.invariant.visiting) c.index.ensures in
    let more = longer c.args.clauses.now c.args.trail.now c.listed.trail c.listed.invariant.propagated in
    let fits = c.requires.fits in
    record {
      propagated = Propagated-both c.args.clauses.now c.args.trail.now c.listed.trail c.look_at-conflict.new.trail c.listed.invariant.propagated c.look_at-conflict.ensures.looks.propagated;
      short = λ d w at_d e. c.listed.invariant.short d w (visit_short c.args.clauses.now c.listed.trail c.look_at-conflict.new.trail c.listed.watches.of_clauses.items c.look_at-conflict.new.watches.of_clauses.items c.listed.watches.lists.items c.look_at-conflict.new.watches.lists.items c.opposite-gone.result c.beside-next.result.0 c.listed.conflict c.look_at-conflict.result c.listed.rest.first c.beside-next.result.1 c.listed.rest.count (c.listed.rest.count - 1) c.index.result.now one_less c.len-count.ensures.whole.consistent false_one l_within within at c.beside-next.ensures.watched c.listed.invariant.visiting c.look_at-conflict.ensures.looks d w at_d e) e;
      held = λ saved low h. visit_held c.args.clauses.now c.listed.trail c.look_at-conflict.new.trail c.listed.watches.of_clauses.items c.look_at-conflict.new.watches.of_clauses.items c.listed.watches.lists.items c.look_at-conflict.new.watches.lists.items c.opposite-gone.result c.beside-next.result.0 c.listed.conflict c.look_at-conflict.result c.listed.rest.first c.beside-next.result.1 c.listed.rest.count (c.listed.rest.count - 1) c.index.result.now one_less c.len-count.ensures.whole.consistent false_one l_within within at c.beside-next.ensures.watched c.listed.invariant.visiting c.look_at-conflict.ensures.looks saved low c.args.index (omega arith) (c.listed.invariant.held saved low h);
      visiting = visit_visits c.args.clauses.now c.listed.trail c.look_at-conflict.new.trail c.listed.watches.of_clauses.items c.look_at-conflict.new.watches.of_clauses.items c.listed.watches.lists.items c.look_at-conflict.new.watches.lists.items c.opposite-gone.result c.beside-next.result.0 c.listed.conflict c.look_at-conflict.result c.listed.rest.first c.beside-next.result.1 c.listed.rest.count (c.listed.rest.count - 1) c.index.result.now one_less c.len-count.ensures.whole.consistent false_one l_within within at c.beside-next.ensures.watched c.listed.invariant.visiting c.look_at-conflict.ensures.looks;
      outcome = map_none c.look_at-conflict.result _ (Unit {0}) (IsFalseAt c.args.clauses.now c.look_at-conflict.new.trail.literals) c.look_at-conflict.ensures.looks.outcome (λ h. tt);
    }

pub returns-clause-linked : goal.returns-clause-linked
returns-clause-linked c =
    let none = c.listed-test.false in
    (visiting-end c.args.clauses.now c.listed.trail.room c.listed.watches.of_clauses.items c.listed.watches.lists.items c.opposite-gone.result c.listed.trail.literals c.listed.conflict c.listed.rest.first c.listed.rest.count (omega arith) c.listed.invariant.visiting).0

pub returns-clause-worked : goal.returns-clause-worked
returns-clause-worked c =
    let none = c.listed-test.false in
    let all = (visiting-end c.args.clauses.now c.listed.trail.room c.listed.watches.of_clauses.items c.listed.watches.lists.items c.opposite-gone.result c.listed.trail.literals c.listed.conflict c.listed.rest.first c.listed.rest.count (omega arith) c.listed.invariant.visiting).1 in
    let k = c.opposite-gone.ensures.value in
    none_then c.listed.conflict (IsWorkedThrough c.listed.watches.of_clauses.items c.listed.trail.literals c.args.index) (IsFalseAt c.args.clauses.now c.listed.trail.literals) c.listed.invariant.outcome
    (λ e. worked-through c.listed.watches.of_clauses.items c.listed.trail.literals c.args.index c.opposite-gone.result k.0 (still c.args.clauses.now c.args.trail.now c.listed.trail c.args.index k.0 c.listed.invariant.propagated k.1) k.2 (all e))
