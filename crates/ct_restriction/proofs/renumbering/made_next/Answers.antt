use Rattle.std.proofs.Common.{◌≡◌, ◌∙◌, List, None, Err, sym, ap, subst, arith, true≢false}
use Rattle.std.proofs.lemmas.Option.{get_or_from_slice_get}
use Rattle.ct_terms.specs.declared.ids.TermId.{TermId}
use Rattle.ct_terms.specs.declared.term.Core.{Core}
use Rattle.ct_terms.specs.Terms.{Terms, HasSort, IsAbsent, Makes}
use Rattle.ct_restriction.specs.Renamed.{renamed, number_in}
use Rattle.ct_restriction.specs.Renumbered.{Numbers, AreMade, with_number}
use Rattle.ct_restriction.proofs.CopyLemmas.{marked_by}
use Rattle.ct_restriction.proofs.MadeLemmas.{made_without, unknown_full, absent_unequal, made_sorted, made_more}
use Rattle.ct_restriction.proofs.renumbering.made_next.Goals as goal
use Rattle.ct_restriction.proofs.renumbering.made_next.Goals.{In_ok-core}

pub returns-then-not-marks-t-clause-made : goal.returns-then-not-marks-t-clause-made
returns-then-not-marks-t-clause-made c = λ base made.
    made_without base c.args.from.now c.args.marks.now c.args.to.now c.args.so_far.now c.args.t made c.requires.next
    (λ marked. absurd (true≢false (sym (get_or_from_slice_get c.args.marks.now c.args.t.0 _ _ marked) ∙ c.if-not-marks-t.true)))

pub returns-then-not-knows_under-clause-made : goal.returns-then-not-knows_under-clause-made
returns-then-not-knows_under-clause-made c = λ base made.
    made_without base c.args.from.now c.args.marks.now c.args.to.now c.args.so_far.now c.args.t made c.requires.next
    (unknown_full base c.args.from.now c.args.marks.now c.args.to.now c.args.so_far.now c.args.t c.core-core.result.now c.len-terms.ensures.ordered c.len-others.ensures.ordered c.core-core.ensures.value made c.requires.next c.requires.under
    (λ all. true≢false (sym (c.knows_under.ensures.known.1 all) ∙ c.if-not-knows_under.true)))

-- the term over the new numbers
made_is : (c : In_ok-core) → c.in_ok-core.core ≡ renamed (number_in c.args.so_far.now.numbers) c.core-core.result.now
made_is c = c.in_ok-core.ensures.renamed ∙ ap (λ (ns : List TermId). renamed (number_in ns) c.core-core.result.now) (c.deref.ensures.value ∙ ap (λ (n : Numbers). n.numbers) c.so_far.view_is)

-- over the new numbers it has its sort
sorted : (c : In_ok-core) → HasSort c.args.sig.now c.args.to.now c.in_ok-core.core c.core-core.ensures.value.0
sorted c =
    subst (λ (core : Core). HasSort c.args.sig.now c.args.to.now core c.core-core.ensures.value.0) (sym (made_is c))
    (made_sorted c.args.sig.now c.requires.made.0 c.args.from.now c.args.marks.now c.args.to.now c.args.so_far.now c.args.t c.core-core.result.now c.core-core.ensures.value.0 c.len-terms.ensures.ordered c.requires.sorted c.requires.made.1 c.requires.next
    c.core-core.ensures.value.1 (c.knows_under.ensures.known.0 c.if-not-knows_under.false))

pub make-requires : goal.make-requires
make-requires c = record { well_sorted = (c.core-core.ensures.value.0, sorted (goal.at.make-requires c).In_ok-core) }

pub returns-in-Ok-clause-made : goal.returns-in-Ok-clause-made
returns-in-Ok-clause-made c = λ base made.
    made_more c.args.sig.now base c.args.from.now c.args.marks.now c.args.to.now c.args.so_far.now c.args.t c.core-core.result.now c.core-core.ensures.value.0 c.len-terms.ensures.ordered c.requires.sorted made c.requires.next
    c.core-core.ensures.value.1 (c.knows_under.ensures.known.0 c.if-not-knows_under.false)
    (marked_by c.args.marks.now c.args.t.0 _ (omega (arith, c.requires.within, c.requires.long)) c.if-not-marks-t.false) c.make.new.self c.in-Ok.number
    (subst (λ (core : Core). Makes c.args.sig.now c.args.to.now c.make.new.self core c.in-Ok.number.0) (made_is (goal.at.returns-in-Ok-clause-made c).In_ok-core) c.in-Ok.ensures.made)
    c.len-grown.ensures.ordered (omega (arith, c.len-grown.ensures.count, c.len-grown.ensures.few))
    (λ s h. c.in-Ok.ensures.sort c.requires.so_far s (subst (λ (core : Core). HasSort c.args.sig.now c.args.to.now core s) (sym (made_is (goal.at.returns-in-Ok-clause-made c).In_ok-core)) h))

pub returns-in-Err-Full-clause-made : goal.returns-in-Err-Full-clause-made
returns-in-Err-Full-clause-made c = λ base made.
    subst (λ (ts : Terms). AreMade base c.args.from.now c.args.marks.now ts (with_number c.args.so_far.now None)) (sym c.in-Err-Full.ensures.refused)
    (let full = c.in-Err-Full.ensures.full.0 (ap Err c.in-Err-Full.field-0-is) in
    made_without base c.args.from.now c.args.marks.now c.args.to.now c.args.so_far.now c.args.t made c.requires.next
    (λ marked. (
      full.1,
      absent_unequal base c.args.from.now c.args.marks.now c.args.to.now c.args.so_far.now c.args.t c.core-core.result.now c.len-terms.ensures.ordered c.len-others.ensures.ordered c.core-core.ensures.value made c.requires.next
          c.len-others.ensures.single (c.knows_under.ensures.known.0 c.if-not-knows_under.false)
          (subst (IsAbsent c.args.to.now) (made_is (goal.at.returns-in-Err-Full-clause-made c).In_ok-core) full.0),
    )))
