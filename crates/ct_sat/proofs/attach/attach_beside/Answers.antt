use Rattle.std.proofs.Common.{◌≡◌, ℕ, ◌+◌, ◌<◌, ◌⊎◌, All, Contains, refl, sym, subst, arith}
use Rattle.std.proofs.lemmas.Option.{slice_get_within}
use Rattle.ct_lemmas.proofs.Each.{All-at}
use Rattle.ct_terms.specs.declared.ids.Lit.{Lit}
use Rattle.ct_terms.specs.Clause.{Clause}
use Rattle.ct_terms.specs.Propagation.{IsFalseIn}
use Rattle.ct_sat.specs.declared.clause.StepClause.{StepClause}
use Rattle.ct_sat.specs.Watching.{AreLinked}
use Rattle.ct_sat.proofs.VisitLemmas.{literals-at}
use Rattle.ct_sat.proofs.AttachLemmas.{literal-room, literal-list, literal-few, put_linked, attached-two, attached-forced}
use Rattle.ct_sat.proofs.attach.attach_beside.Goals as goal

pub put_into_lists-requires-clause-one : goal.put_into_lists-requires-clause-one
put_into_lists-requires-clause-one c = literal-list c.args.clauses.now c.args.trail.now.room c.args.watches.now.of_clauses.items c.args.watches.now.lists.items c.args.progress.now.linked c.requires.within c.requires.linked c.args.progress.now.linked c.requires.clause.0 c.requires.clause.1 c.args.one c.requires.clause.2

pub put_into_lists-requires-clause-other : goal.put_into_lists-requires-clause-other
put_into_lists-requires-clause-other c = literal-list c.args.clauses.now c.args.trail.now.room c.args.watches.now.of_clauses.items c.args.watches.now.lists.items c.args.progress.now.linked c.requires.within c.requires.linked c.args.progress.now.linked c.requires.clause.0 c.requires.clause.1 c.in-Some.other (subst (λ (xs : Clause). Contains xs c.in-Some.other) (literals-at c.args.clauses.now c.args.progress.now.linked c.requires.clause.0 c.index-clauses-index.result c.as_slice-clause.result.now c.requires.clause.1 c.as_slice-clause.ensures.value) c.in-Some.ensures.found.inside)

pub put_into_lists-requires-clause-few_one : goal.put_into_lists-requires-clause-few_one
put_into_lists-requires-clause-few_one c = literal-few c.args.clauses.now c.args.trail.now.room c.args.watches.now.of_clauses.items c.args.watches.now.lists.items c.args.progress.now.linked c.requires.within c.requires.linked c.args.progress.now.linked c.requires.clause.0 c.requires.clause.1 c.args.one c.requires.clause.2

pub put_into_lists-requires-clause-few_other : goal.put_into_lists-requires-clause-few_other
put_into_lists-requires-clause-few_other c = literal-few c.args.clauses.now c.args.trail.now.room c.args.watches.now.of_clauses.items c.args.watches.now.lists.items c.args.progress.now.linked c.requires.within c.requires.linked c.args.progress.now.linked c.requires.clause.0 c.requires.clause.1 c.in-Some.other (subst (λ (xs : Clause). Contains xs c.in-Some.other) (literals-at c.args.clauses.now c.args.progress.now.linked c.requires.clause.0 c.index-clauses-index.result c.as_slice-clause.result.now c.requires.clause.1 c.as_slice-clause.ensures.value) c.in-Some.ensures.found.inside)

pub latest-other-requires-clause-within : goal.latest-other-requires-clause-within
latest-other-requires-clause-within c = subst (All (λ (l : Lit). l.term.0 < c.args.trail.now.room)) (sym (literals-at c.args.clauses.now c.args.progress.now.linked c.requires.clause.0 c.index-clauses-index.result c.as_slice-clause.result.now c.requires.clause.1 c.as_slice-clause.ensures.value))
    (All-at (λ (k : StepClause). All (λ (l : Lit). l.term.0 < c.args.trail.now.room) k.literals) c.args.clauses.now c.args.progress.now.linked c.requires.clause.0 c.requires.within c.requires.clause.1)

pub latest-other-requires-clause-first : goal.latest-other-requires-clause-first
latest-other-requires-clause-first c = (subst (λ (xs : Clause). Contains xs c.args.given) (sym (literals-at c.args.clauses.now c.args.progress.now.linked c.requires.clause.0 c.index-clauses-index.result c.as_slice-clause.result.now c.requires.clause.1 c.as_slice-clause.ensures.value)) c.requires.clause.3, c.requires.differ)

pub put_into_lists-requires-in-None-clause-within : goal.put_into_lists-requires-in-None-clause-within
put_into_lists-requires-in-None-clause-within c = let within = slice_get_within c.args.clauses.now c.args.progress.now.linked c.requires.clause.0 c.requires.clause.1 in let long = c.requires.linked.long in omega arith

pub put_into_lists-requires-in-None-clause-one : goal.put_into_lists-requires-in-None-clause-one
put_into_lists-requires-in-None-clause-one c = literal-list c.args.clauses.now c.args.trail.now.room c.args.watches.now.of_clauses.items c.args.watches.now.lists.items c.args.progress.now.linked c.requires.within c.requires.linked c.args.progress.now.linked c.requires.clause.0 c.requires.clause.1 c.args.one c.requires.clause.2

pub put_into_lists-requires-in-None-clause-other : goal.put_into_lists-requires-in-None-clause-other
put_into_lists-requires-in-None-clause-other c = literal-list c.args.clauses.now c.args.trail.now.room c.args.watches.now.of_clauses.items c.args.watches.now.lists.items c.args.progress.now.linked c.requires.within c.requires.linked c.args.progress.now.linked c.requires.clause.0 c.requires.clause.1 c.latest-other.result (subst (λ (xs : Clause). Contains xs c.latest-other.result) (literals-at c.args.clauses.now c.args.progress.now.linked c.requires.clause.0 c.index-clauses-index.result c.as_slice-clause.result.now c.requires.clause.1 c.as_slice-clause.ensures.value) c.latest-other.ensures.latest.0)

pub put_into_lists-requires-in-None-clause-few_one : goal.put_into_lists-requires-in-None-clause-few_one
put_into_lists-requires-in-None-clause-few_one c = literal-few c.args.clauses.now c.args.trail.now.room c.args.watches.now.of_clauses.items c.args.watches.now.lists.items c.args.progress.now.linked c.requires.within c.requires.linked c.args.progress.now.linked c.requires.clause.0 c.requires.clause.1 c.args.one c.requires.clause.2

pub put_into_lists-requires-in-None-clause-few_other : goal.put_into_lists-requires-in-None-clause-few_other
put_into_lists-requires-in-None-clause-few_other c = literal-few c.args.clauses.now c.args.trail.now.room c.args.watches.now.of_clauses.items c.args.watches.now.lists.items c.args.progress.now.linked c.requires.within c.requires.linked c.args.progress.now.linked c.requires.clause.0 c.requires.clause.1 c.latest-other.result (subst (λ (xs : Clause). Contains xs c.latest-other.result) (literals-at c.args.clauses.now c.args.progress.now.linked c.requires.clause.0 c.index-clauses-index.result c.as_slice-clause.result.now c.requires.clause.1 c.as_slice-clause.ensures.value) c.latest-other.ensures.latest.0)

pub lowered-progress-requires : goal.lowered-progress-requires
lowered-progress-requires c = record { within = literal-room c.args.clauses.now c.args.trail.now.room c.args.watches.now.of_clauses.items c.args.watches.now.lists.items c.args.progress.now.linked c.requires.within c.requires.linked c.args.progress.now.linked c.requires.clause.0 c.requires.clause.1 c.latest-other.result (subst (λ (xs : Clause). Contains xs c.latest-other.result) (literals-at c.args.clauses.now c.args.progress.now.linked c.requires.clause.0 c.index-clauses-index.result c.as_slice-clause.result.now c.requires.clause.1 c.as_slice-clause.ensures.value) c.latest-other.ensures.latest.0) }

pub force-requires : goal.force-requires
force-requires c = record { within = literal-room c.args.clauses.now c.args.trail.now.room c.args.watches.now.of_clauses.items c.args.watches.now.lists.items c.args.progress.now.linked c.requires.within c.requires.linked c.args.progress.now.linked c.requires.clause.0 c.requires.clause.1 c.args.one c.requires.clause.2 }

pub returns-in-Some-clause-linked : goal.returns-in-Some-clause-linked
returns-in-Some-clause-linked c =
    let has_other = subst (λ (xs : Clause). Contains xs c.in-Some.other) (literals-at c.args.clauses.now c.args.progress.now.linked c.requires.clause.0 c.index-clauses-index.result c.as_slice-clause.result.now c.requires.clause.1 c.as_slice-clause.ensures.value) c.in-Some.ensures.found.inside in
    put_linked c.args.clauses.now c.args.trail.now.room c.args.watches.now.of_clauses.items c.put_into_lists.new.watches.of_clauses.items c.args.watches.now.lists.items c.put_into_lists.new.watches.lists.items c.args.progress.now.linked c.args.one c.in-Some.other c.requires.clause.0 c.requires.clause.1
    (record { has_one = c.requires.clause.2; has_other = has_other; differ = λ e. c.in-Some.ensures.found.differs (sym e) }) c.put_into_lists.ensures.puts c.requires.linked
    (literal-room c.args.clauses.now c.args.trail.now.room c.args.watches.now.of_clauses.items c.args.watches.now.lists.items c.args.progress.now.linked c.requires.within c.requires.linked c.args.progress.now.linked c.requires.clause.0 c.requires.clause.1 c.args.one c.requires.clause.2) (literal-room c.args.clauses.now c.args.trail.now.room c.args.watches.now.of_clauses.items c.args.watches.now.lists.items c.args.progress.now.linked c.requires.within c.requires.linked c.args.progress.now.linked c.requires.clause.0 c.requires.clause.1 c.in-Some.other has_other)

pub returns-in-Some-clause-attaches : goal.returns-in-Some-clause-attaches
returns-in-Some-clause-attaches c =
    let has_other = subst (λ (xs : Clause). Contains xs c.in-Some.other) (literals-at c.args.clauses.now c.args.progress.now.linked c.requires.clause.0 c.index-clauses-index.result c.as_slice-clause.result.now c.requires.clause.1 c.as_slice-clause.ensures.value) c.in-Some.ensures.found.inside in
    attached-two c.args.clauses.now c.args.trail.now c.args.trail.now.room c.args.watches.now.of_clauses.items c.put_into_lists.new.watches.of_clauses.items c.args.watches.now.lists.items c.put_into_lists.new.watches.lists.items c.args.progress.now _ c.args.one c.in-Some.other c.requires.clause.0 c.requires.clause.1
    (record { has_one = c.requires.clause.2; has_other = has_other; differ = λ e. c.in-Some.ensures.found.differs (sym e) }) c.put_into_lists.ensures.puts c.requires.linked
    c.requires.head c.requires.not_false c.in-Some.ensures.found.not_false refl

pub returns-in-None-clause-linked : goal.returns-in-None-clause-linked
returns-in-None-clause-linked c =
    let lits = literals-at c.args.clauses.now c.args.progress.now.linked c.requires.clause.0 c.index-clauses-index.result c.as_slice-clause.result.now c.requires.clause.1 c.as_slice-clause.ensures.value in
    let has_other = subst (λ (xs : Clause). Contains xs c.latest-other.result) (literals-at c.args.clauses.now c.args.progress.now.linked c.requires.clause.0 c.index-clauses-index.result c.as_slice-clause.result.now c.requires.clause.1 c.as_slice-clause.ensures.value) c.latest-other.ensures.latest.0 in
    let forced = c.force.ensures.forced c.args.clauses.now c.requires.clause.0 c.requires.clause.1 (record { inside = c.requires.clause.2; others_false = subst (All (λ (j : Lit). (j ≡ c.args.one) ⊎ IsFalseIn c.args.trail.now.literals j)) lits c.in-None.ensures.found }) in
    subst (λ (n : ℕ). AreLinked c.args.clauses.now n c.put_into_lists-in-None.new.watches.of_clauses.items c.put_into_lists-in-None.new.watches.lists.items (c.args.progress.now.linked + 1)) (sym forced.propagated.room)
    (put_linked c.args.clauses.now c.args.trail.now.room c.args.watches.now.of_clauses.items c.put_into_lists-in-None.new.watches.of_clauses.items c.args.watches.now.lists.items c.put_into_lists-in-None.new.watches.lists.items c.args.progress.now.linked c.args.one c.latest-other.result c.requires.clause.0 c.requires.clause.1
    (record { has_one = c.requires.clause.2; has_other = has_other; differ = λ e. c.latest-other.ensures.latest.1 (sym e) }) c.put_into_lists-in-None.ensures.puts c.requires.linked
    (literal-room c.args.clauses.now c.args.trail.now.room c.args.watches.now.of_clauses.items c.args.watches.now.lists.items c.args.progress.now.linked c.requires.within c.requires.linked c.args.progress.now.linked c.requires.clause.0 c.requires.clause.1 c.args.one c.requires.clause.2) (literal-room c.args.clauses.now c.args.trail.now.room c.args.watches.now.of_clauses.items c.args.watches.now.lists.items c.args.progress.now.linked c.requires.within c.requires.linked c.args.progress.now.linked c.requires.clause.0 c.requires.clause.1 c.latest-other.result has_other))

pub returns-in-None-clause-attaches : goal.returns-in-None-clause-attaches
returns-in-None-clause-attaches c =
    let lits = literals-at c.args.clauses.now c.args.progress.now.linked c.requires.clause.0 c.index-clauses-index.result c.as_slice-clause.result.now c.requires.clause.1 c.as_slice-clause.ensures.value in
    let has_other = subst (λ (xs : Clause). Contains xs c.latest-other.result) (literals-at c.args.clauses.now c.args.progress.now.linked c.requires.clause.0 c.index-clauses-index.result c.as_slice-clause.result.now c.requires.clause.1 c.as_slice-clause.ensures.value) c.latest-other.ensures.latest.0 in
    let forced = c.force.ensures.forced c.args.clauses.now c.requires.clause.0 c.requires.clause.1 (record { inside = c.requires.clause.2; others_false = subst (All (λ (j : Lit). (j ≡ c.args.one) ⊎ IsFalseIn c.args.trail.now.literals j)) lits c.in-None.ensures.found }) in
    attached-forced c.args.clauses.now c.args.trail.now c.force.new.trail c.args.trail.now.room c.args.watches.now.of_clauses.items c.put_into_lists-in-None.new.watches.of_clauses.items c.args.watches.now.lists.items c.put_into_lists-in-None.new.watches.lists.items c.args.progress.now _ c.args.one c.latest-other.result c.lowered-progress.result c.requires.clause.0 c.force.result c.requires.clause.1
    (record { has_one = c.requires.clause.2; has_other = has_other; differ = λ e. c.latest-other.ensures.latest.1 (sym e) }) c.put_into_lists-in-None.ensures.puts c.requires.linked
    c.requires.head c.requires.not_false forced c.lowered-progress.ensures.lowered refl
