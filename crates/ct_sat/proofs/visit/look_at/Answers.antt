use Rattle.std.proofs.Common.{◌≡◌, ◌⊎◌, ◌∙◌, sym, subst, All, Contains, arith}
use Rattle.ct_terms.specs.declared.ids.Lit.{Lit}
use Rattle.ct_terms.specs.Clause.{Clause}
use Rattle.ct_terms.specs.Propagation.{IsFalseIn}
use Rattle.ct_sat.specs.Watching.{IsReplacement}
use Rattle.ct_sat.proofs.WatchLemmas.{code-within}
use Rattle.ct_sat.proofs.VisitLemmas.{looks-conflict, looks-true, looks-moved, looks-forced, literals-at, literal_within}
use Rattle.ct_sat.proofs.visit.look_at.Goals as goal

pub returns-then-is_some : goal.returns-then-is_some
returns-then-is_some c = record { looks = looks-conflict c.args.clauses.now c.args.trail.now c.args.watches.now.of_clauses.items c.link.new.watches.of_clauses.items c.args.watches.now.lists.items c.link.new.watches.lists.items c.args.clause c.args.l c.args.other c.args.conflict c.link.ensures.linked (sym c.is_some.ensures ∙ c.if-is_some.true) c.requires.conflict }

pub returns-then-is_true : goal.returns-then-is_true
returns-then-is_true c = record { looks = looks-true c.args.clauses.now c.args.trail.now c.args.watches.now.of_clauses.items c.link-then-is_true.new.watches.of_clauses.items c.args.watches.now.lists.items c.link-then-is_true.new.watches.lists.items c.args.clause c.args.l c.args.other c.args.conflict (sym c.is_some.ensures ∙ c.if-is_some.false) c.link-then-is_true.ensures.linked c.if-is_true.ensures.value }

pub link-requires-in-Some-clause-within : goal.link-requires-in-Some-clause-within
link-requires-in-Some-clause-within c =
    let has = subst (λ (xs : Clause). Contains xs c.in-Some.to) (literals-at c.args.clauses.now c.args.clause c.requires.clause.0 c.index-clauses-clause.result c.as_slice.result.now c.requires.clause.1 c.as_slice.ensures.value) c.in-Some.ensures.found.inside in
    let code = code-within c.in-Some.to c.args.trail.now.room (literal_within c.args.clauses.now c.args.trail.now.room c.args.clause c.requires.clause.0 c.in-Some.to c.requires.within c.requires.clause.1 has) in
    let long = c.requires.lists in
    omega arith

pub link-requires-in-Some-clause-room : goal.link-requires-in-Some-clause-room
link-requires-in-Some-clause-room c = λ listed at.
    (let has = subst (λ (xs : Clause). Contains xs c.in-Some.to) (literals-at c.args.clauses.now c.args.clause c.requires.clause.0 c.index-clauses-clause.result c.as_slice.result.now c.requires.clause.1 c.as_slice.ensures.value) c.in-Some.ensures.found.inside in
    c.requires.few c.in-Some.to listed (literal_within c.args.clauses.now c.args.trail.now.room c.args.clause c.requires.clause.0 c.in-Some.to c.requires.within c.requires.clause.1 has) at)

pub force-requires : goal.force-requires
force-requires c = record { within = literal_within c.args.clauses.now c.args.trail.now.room c.args.clause c.requires.clause.0 c.args.other c.requires.within c.requires.clause.1 c.requires.clause.2 }

pub returns-in-Some : goal.returns-in-Some
returns-in-Some c =
    let replaces = subst (λ (xs : Clause). IsReplacement c.args.trail.now.literals xs c.args.other c.in-Some.to) (literals-at c.args.clauses.now c.args.clause c.requires.clause.0 c.index-clauses-clause.result c.as_slice.result.now c.requires.clause.1 c.as_slice.ensures.value) c.in-Some.ensures.found in
    record { looks = looks-moved c.args.clauses.now c.requires.clause.0 c.args.trail.now c.args.watches.now.of_clauses.items c.link-in-Some.new.watches.of_clauses.items c.args.watches.now.lists.items c.link-in-Some.new.watches.lists.items c.args.clause c.args.l c.args.other c.in-Some.to c.args.conflict (sym c.is_some.ensures ∙ c.if-is_some.false) c.requires.clause.1 c.link-in-Some.ensures.linked replaces c.requires.is_false }

pub returns-in-None : goal.returns-in-None
returns-in-None c =
    let others = subst (All (λ (j : Lit). (j ≡ c.args.other) ⊎ IsFalseIn c.args.trail.now.literals j)) (literals-at c.args.clauses.now c.args.clause c.requires.clause.0 c.index-clauses-clause.result c.as_slice.result.now c.requires.clause.1 c.as_slice.ensures.value) c.in-None.ensures.found in
    record {
      looks = looks-forced c.args.clauses.now c.args.trail.now c.force.new.trail c.args.watches.now.of_clauses.items c.link-in-None.new.watches.of_clauses.items c.args.watches.now.lists.items c.link-in-None.new.watches.lists.items c.args.clause c.args.l c.args.other c.args.conflict c.force.result (sym c.is_some.ensures ∙ c.if-is_some.false) c.link-in-None.ensures.linked
          (c.force.ensures.forced c.args.clauses.now c.requires.clause.0 c.requires.clause.1 (record { inside = c.requires.clause.2; others_false = others }));
    }
