use Rattle.std.proofs.Common.{◌∙◌, length, sym, subst, arith, true≢false}
use Rattle.std.proofs.lemmas.Option.{get_or_from_slice_get}
use Rattle.ct_terms.specs.declared.term.Core.{Core}
use Rattle.ct_terms.specs.Terms.{HasSort, Makes}
use Rattle.ct_restriction.specs.Restricted.{IsMarked}
use Rattle.ct_restriction.proofs.CopyLemmas.{copied_unmarked, copied_marked, copy_sorted, marked_by}
use Rattle.ct_restriction.proofs.restriction.copy_next.Goals as goal
use Rattle.ct_restriction.proofs.restriction.copy_next.Goals.{In_ok-core}

pub returns-then-not-marks-t-clause-copied : goal.returns-then-not-marks-t-clause-copied
returns-then-not-marks-t-clause-copied c =
    copied_unmarked c.args.table.now c.args.marks.now c.args.restricted.now c.args.numbers.now _ c.requires.copied
    (λ h. true≢false (sym (get_or_from_slice_get c.args.marks.now (length c.args.numbers.now) _ _ h) ∙ c.if-not-marks-t.true))

-- the next term is marked
next_marked : (c : In_ok-core) → IsMarked c.args.marks.now (record { 0 = length c.args.numbers.now })
next_marked c = marked_by c.args.marks.now (length c.args.numbers.now) _ (omega (arith, c.requires.next, c.requires.long)) c.if-not-marks-t.false

-- over the new numbers it has its sort
sorted : (c : In_ok-core) → HasSort c.args.sig.now c.args.restricted.now c.in_ok-core.core c.core.ensures.value.0
sorted c =
    subst (λ (core : Core). HasSort c.args.sig.now c.args.restricted.now core c.core.ensures.value.0) (sym c.in_ok-core.ensures.renamed)
    (copy_sorted c.args.sig.now c.args.table.now c.args.marks.now c.args.restricted.now c.args.numbers.now c.core.result.now c.core.ensures.value.0 c.len-terms.ensures.ordered c.requires.sorted c.requires.under
    c.requires.copied c.core.ensures.value.1 (next_marked c))

pub make-requires : goal.make-requires
make-requires c = record { well_sorted = (c.core.ensures.value.0, sorted (goal.at.make-requires c).In_ok-core) }

pub returns-in-Ok-clause-copied : goal.returns-in-Ok-clause-copied
returns-in-Ok-clause-copied c =
    let at = (goal.at.returns-in-Ok-clause-copied c).In_ok-core in
    copied_marked c.args.sig.now c.args.table.now c.args.marks.now c.args.restricted.now c.args.numbers.now c.core.result.now c.core.ensures.value.0 c.len-terms.ensures.ordered c.requires.sorted c.requires.under
    c.requires.copied c.core.ensures.value.1 (next_marked at) c.make.new.self c.in-Ok.number
    (subst (λ (core : Core). Makes c.args.sig.now c.args.restricted.now c.make.new.self core c.in-Ok.number.0) c.in_ok-core.ensures.renamed c.in-Ok.ensures.made)
    c.len-grown.ensures.ordered
    (λ s h. c.in-Ok.ensures.sort c.requires.so_far s (subst (λ (core : Core). HasSort c.args.sig.now c.args.restricted.now core s) (sym c.in_ok-core.ensures.renamed) h))
