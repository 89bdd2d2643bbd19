use Rattle.std.proofs.Common.{◌≡◌, ℕ, ◌+◌, ◌<◌, ◌≤◌, ◌++◌, Bool, List, [], ◌∷◌, length, take, Some, slice_get, sym, ◌∙◌, ap, subst, subst₂, arith}
use Rattle.std.specs.List.{AllZip}
use Rattle.std.proofs.lemmas.List.{take_all}
use Rattle.ct_lemmas.proofs.Lists.{slice_get-there}
use Rattle.ct_generics.specs.Declarations.{Head}
use Rattle.ct_generics.specs.Denoted.{declared_of}
use Rattle.ct_sorts.specs.Determined.{AreMarked}
use Rattle.ct_sorts.proofs.MarkedLemmas.{Tells, marked_more}
use Rattle.ct_sorts.proofs.PieceLemmas.{Begins-more}
use Rattle.ct_sorts.proofs.PushSortsLemmas.{take_next}
use Rattle.ct_sorts.proofs.block.push_determined.Goals as goal

pub determined-requires : goal.determined-requires
determined-requires c = record { within = (declared_of c.args.generics.now, c.requires.declared, omega (arith, c.loop-h-test.true, c.head_count-h-end.ensures.count (declared_of c.args.generics.now) c.requires.declared)) }

pub loop-h-preserved : goal.loop-h-preserved
loop-h-preserved c =
    let heads = (declared_of c.args.generics.now).heads in
    let h = c.loop-h.h in
    let below : h < length heads = omega (arith, c.loop-h-test.true, c.head_count-h-end.ensures.count (declared_of c.args.generics.now) c.requires.declared) in
    let head = slice_get-there heads h below in
    let marks = c.in-Ok.ensures.marks (declared_of c.args.generics.now) head.0 c.requires.declared head.1 in
    let pushed : c.push_item.new.items ≡ c.loop-h.determined ++ c.in-Ok.marks.items ∷ [] = c.in_ok-push_item.ensures.ok ∙ ap (λ (x : List Bool). c.loop-h.determined ++ x ∷ []) c.new.ensures.value in (
      Begins-more c.args.determined.now c.loop-h.determined c.push_item.new.items (c.in-Ok.marks.items ∷ []) c.loop-h.invariant.0 pushed,
      subst₂ AreMarked (take_next h heads head.0 head.1) (sym pushed) (marked_more (take h heads) c.loop-h.determined head.0 c.in-Ok.marks.items c.loop-h.invariant.1 marks),
    )

pub returns-clause-ok : goal.returns-clause-ok
returns-clause-ok c =
    let heads = (declared_of c.args.generics.now).heads in
    let past : length heads ≤ c.loop-h.h = omega (arith, c.loop-h-test.false, c.head_count-h-end.ensures.count (declared_of c.args.generics.now) c.requires.declared) in
    subst (λ (xs : List Head). AreMarked xs c.loop-h.determined) (take_all c.loop-h.h heads past) c.loop-h.invariant.1
