use Rattle.std.proofs.Common.{length, get_or, Contains, refl, sym, subst, inl, inr}
use Rattle.std.proofs.lemmas.Option.{slice_get_read, slice_get-get_or}
use Rattle.ct_terms.specs.Clause.{Clause}
use Rattle.ct_terms.specs.Propagation.{AreFalseIn}
use Rattle.ct_sat.proofs.VisitLemmas.{two-differ}
use Rattle.ct_sat.proofs.AttachLemmas.{linked-short, attaches-short}
use Rattle.ct_sat.proofs.attach.attach.Goals as goal

pub returns-then-is_one-clause-linked : goal.returns-then-is_one-clause-linked
returns-then-is_one-clause-linked c = linked-short c.args.clauses.now c.args.trail.now.room c.args.watches.now.of_clauses.items c.args.watches.now.lists.items c.args.progress.now.linked c.index-watch.result.now c.requires.more (slice_get_read c.args.watches.now.of_clauses.items (length c.args.clauses.now) c.args.progress.now.linked c.index-watch.result.now (sym c.requires.linked.long) c.requires.more c.index-watch.ensures) c.if-is_one.ensures.value c.requires.linked

pub returns-then-is_one-clause-attaches : goal.returns-then-is_one-clause-attaches
returns-then-is_one-clause-attaches c = attaches-short c.args.clauses.now c.args.trail.now c.args.watches.now.of_clauses.items c.args.progress.now _ c.index-watch.result.now (slice_get_read c.args.watches.now.of_clauses.items (length c.args.clauses.now) c.args.progress.now.linked c.index-watch.result.now (sym c.requires.linked.long) c.requires.more c.index-watch.ensures) c.if-is_one.ensures.value refl

pub not_false-requires-clause-listed : goal.not_false-requires-clause-listed
not_false-requires-clause-listed c =
    let two = two-differ (get_or c.args.clauses.now c.args.progress.now.linked c.index-clauses-progress.result).literals c.index-watch.result.now.one c.index-watch.result.now.other (c.requires.linked.pairs c.args.progress.now.linked (get_or c.args.clauses.now c.args.progress.now.linked c.index-clauses-progress.result) c.index-watch.result.now (slice_get-get_or c.args.clauses.now c.args.progress.now.linked c.index-clauses-progress.result c.requires.more) (slice_get_read c.args.watches.now.of_clauses.items (length c.args.clauses.now) c.args.progress.now.linked c.index-watch.result.now (sym c.requires.linked.long) c.requires.more c.index-watch.ensures)) c.if-is_one.ensures.value in
    subst (λ (xs : Clause). Contains xs c.index-watch.result.now.one) (sym c.as_slice-clause.ensures.value) two.has_one

pub attach_beside-requires-clause-clause : goal.attach_beside-requires-clause-clause
attach_beside-requires-clause-clause c =
    let two = two-differ (get_or c.args.clauses.now c.args.progress.now.linked c.index-clauses-progress.result).literals c.index-watch.result.now.one c.index-watch.result.now.other (c.requires.linked.pairs c.args.progress.now.linked (get_or c.args.clauses.now c.args.progress.now.linked c.index-clauses-progress.result) c.index-watch.result.now (slice_get-get_or c.args.clauses.now c.args.progress.now.linked c.index-clauses-progress.result c.requires.more) (slice_get_read c.args.watches.now.of_clauses.items (length c.args.clauses.now) c.args.progress.now.linked c.index-watch.result.now (sym c.requires.linked.long) c.requires.more c.index-watch.ensures)) c.if-is_one.ensures.value in (
      get_or c.args.clauses.now c.args.progress.now.linked c.index-clauses-progress.result,
      slice_get-get_or c.args.clauses.now c.args.progress.now.linked c.index-clauses-progress.result c.requires.more,
      subst (λ (xs : Clause). Contains xs c.in-Some.one) c.as_slice-clause.ensures.value c.in-Some.ensures.found.0,
      elim c.other_than-given.ensures.differs.1 [
        | inl e ↦ subst (Contains (get_or c.args.clauses.now c.args.progress.now.linked c.index-clauses-progress.result).literals) (sym e) two.has_one
        | inr e ↦ subst (Contains (get_or c.args.clauses.now c.args.progress.now.linked c.index-clauses-progress.result).literals) (sym e) two.has_other
      ],
    )

pub returns-in-None-clause-outcome : goal.returns-in-None-clause-outcome
returns-in-None-clause-outcome c = (get_or c.args.clauses.now c.args.progress.now.linked c.index-clauses-progress.result, slice_get-get_or c.args.clauses.now c.args.progress.now.linked c.index-clauses-progress.result c.requires.more, subst (AreFalseIn c.args.trail.now.literals) c.as_slice-clause.ensures.value c.in-None.ensures.found)
