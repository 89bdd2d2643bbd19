use Rattle.std.proofs.Common.{false, List, length, refl, sym, ap, subst, ◌∙◌}
use Rattle.ct_terms.specs.declared.ids.TermId.{TermId}
use Rattle.ct_congr.specs.declared.constructors.Shape.{Shape}
use Rattle.ct_congr.specs.Rules.{AreShapes}
use Rattle.ct_congr.proofs.KeptLemmas.{IsKept-slow, IsFurther-slow}
use Rattle.ct_congr.proofs.closing.settle_slowly.Goals as goal

pub saturate-requires-clause-cons_long : goal.saturate-requires-clause-cons_long
saturate-requires-clause-cons_long c = c.unions.ensures.whole.0.cons_long ∙ c.requires.kept.groupings.now.long

pub returns-in_err-saturate-clause-kept : goal.returns-in_err-saturate-clause-kept
returns-in_err-saturate-clause-kept c =
    let p = c.args.progress.now in
    let new = c.saturate.new.store in
    let further = IsFurther-slow c.args.table.now p.store.parts new.parts p.store.merges.items new.merges.items p.keys c.in_err-saturate.ensures.extended c.in_err-saturate.ensures.later c.in_err-saturate.ensures.of c.requires.kept.groupings c.requires.kept.keyed in
    IsKept-slow c.args.sig.now c.args.table.now new.parts p.keys p.waiting.items false refl further.groupings further.keyed

pub returns-in_err-saturate-clause-further : goal.returns-in_err-saturate-clause-further
returns-in_err-saturate-clause-further c =
    let p = c.args.progress.now in
    let new = c.saturate.new.store in
    IsFurther-slow c.args.table.now p.store.parts new.parts p.store.merges.items new.merges.items p.keys c.in_err-saturate.ensures.extended c.in_err-saturate.ensures.later c.in_err-saturate.ensures.of c.requires.kept.groupings c.requires.kept.keyed

pub returns-in_err-shapes-clause-kept : goal.returns-in_err-shapes-clause-kept
returns-in_err-shapes-clause-kept c =
    let p = c.args.progress.now in
    let new = c.saturate.new.store in
    let further = IsFurther-slow c.args.table.now p.store.parts new.parts p.store.merges.items new.merges.items p.keys c.in_ok-saturate.ensures.extended c.in_ok-saturate.ensures.later c.in_ok-saturate.ensures.of c.requires.kept.groupings c.requires.kept.keyed in
    IsKept-slow c.args.sig.now c.args.table.now new.parts p.keys p.waiting.items false refl further.groupings further.keyed

pub returns-in_err-shapes-clause-further : goal.returns-in_err-shapes-clause-further
returns-in_err-shapes-clause-further c =
    let p = c.args.progress.now in
    let new = c.saturate.new.store in
    IsFurther-slow c.args.table.now p.store.parts new.parts p.store.merges.items new.merges.items p.keys c.in_ok-saturate.ensures.extended c.in_ok-saturate.ensures.later c.in_ok-saturate.ensures.of c.requires.kept.groupings c.requires.kept.keyed

pub returns-clause-kept : goal.returns-clause-kept
returns-clause-kept c =
    let p = c.args.progress.now in
    let new = c.saturate.new.store in
    let further = IsFurther-slow c.args.table.now p.store.parts new.parts p.store.merges.items new.merges.items p.keys c.in_ok-saturate.ensures.extended c.in_ok-saturate.ensures.later c.in_ok-saturate.ensures.of c.requires.kept.groupings c.requires.kept.keyed in
    IsKept-slow c.args.sig.now c.args.table.now new.parts p.keys p.waiting.items false refl further.groupings further.keyed

pub returns-clause-further : goal.returns-clause-further
returns-clause-further c =
    let p = c.args.progress.now in
    let new = c.saturate.new.store in
    IsFurther-slow c.args.table.now p.store.parts new.parts p.store.merges.items new.merges.items p.keys c.in_ok-saturate.ensures.extended c.in_ok-saturate.ensures.later c.in_ok-saturate.ensures.of c.requires.kept.groupings c.requires.kept.keyed

pub returns-clause-verdict : goal.returns-clause-verdict
returns-clause-verdict c =
    let terms = c.args.table.now in
    let reps = c.saturate.new.store.parts.now.reps in
    let value = c.reps.ensures.value in
    let list = c.as_slice.ensures.value in
    let are : AreShapes terms reps (length terms) c.in_ok-shapes.shapes.items = subst (λ (q : List TermId). AreShapes terms q (length terms) c.in_ok-shapes.shapes.items) value c.in_ok-shapes.ensures.shapes in
    c.verdict.ensures.verdict terms reps (ap length list ∙ c.in_ok-shapes.ensures.long ∙ ap length value) c.reps.ensures.own (subst (λ (l : List Shape). AreShapes terms reps (length terms) l) (sym list) are)
