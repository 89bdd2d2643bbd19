use Rattle.std.proofs.Common.{get_or, Some, sym, ap, subst}
use Rattle.std.proofs.lemmas.Option.{slice_get-get_or}
use Rattle.ct_lemmas.proofs.Pairs.{AllZip-push}
use Rattle.ct_congr.proofs.rules.selected.Goals as goal
use Rattle.ct_congr.proofs.RuleLemmas.{selected_unique, not_selected, sels_of}
use Rattle.ct_sorts.specs.declared.ids.SelId.{SelId}
use Rattle.std.proofs.lemmas.List.{take_more, take_all}
use Rattle.std.proofs.Common.{take}
use Rattle.std.specs.List.{AllZip}
use Rattle.ct_rules.specs.Rules.{IsSelected}

abbrev zeroth : SelId
zeroth = record { 0 = 0 }

pub returns-in_default-clause-unique : goal.returns-in_default-clause-unique
returns-in_default-clause-unique c = λ ctor args declared all.
    let sels = c.ctor_sels-s-items.result.now in
    let same = sels_of c.args.sig.now c.args.c ctor sels c.ctor_sels-s-items.ensures.value declared in
    let s = get_or sels c.loop-s.s-index zeroth in
    absurd (not_selected c.args.table.now c.args.u args sels c.loop-s.s-index s c.in_default.ensures.absent (slice_get-get_or sels c.loop-s.s-index zeroth c.loop-s-test.true) (subst (AllZip (IsSelected c.args.table.now c.args.u) args) same all))

pub returns-clause-found : goal.returns-clause-found
returns-clause-found c = λ ctor declared.
    let sels = c.ctor_sels-s-items.result.now in
    let same = sels_of c.args.sig.now c.args.c ctor sels c.ctor_sels-s-items.ensures.value declared in
    let all : AllZip (IsSelected c.args.table.now c.args.u) c.loop-s.args sels = subst (AllZip (IsSelected c.args.table.now c.args.u) c.loop-s.args) (take_all c.loop-s.s-index sels c.loop-s-test.false) c.loop-s.invariant in
    subst (AllZip (IsSelected c.args.table.now c.args.u) c.loop-s.args) (sym same) all

pub returns-clause-unique : goal.returns-clause-unique
returns-clause-unique c = λ ctor args declared all.
    let sels = c.ctor_sels-s-items.result.now in
    let same = sels_of c.args.sig.now c.args.c ctor sels c.ctor_sels-s-items.ensures.value declared in
    let mine : AllZip (IsSelected c.args.table.now c.args.u) c.loop-s.args sels = subst (AllZip (IsSelected c.args.table.now c.args.u) c.loop-s.args) (take_all c.loop-s.s-index sels c.loop-s-test.false) c.loop-s.invariant in
    ap Some (selected_unique c.args.table.now c.args.u c.loop-s.args args sels c.len.ensures.single mine (subst (AllZip (IsSelected c.args.table.now c.args.u) args) same all))

pub loop-s-preserved : goal.loop-s-preserved
loop-s-preserved c =
    let sels = c.ctor_sels-s-items.result.now in
    let s = get_or sels c.loop-s.s-index zeroth in
    rw (take_more sels c.loop-s.s-index zeroth c.loop-s-test.true, c.in_ok-push.ensures.ok)
    (AllZip-push (IsSelected c.args.table.now c.args.u) c.loop-s.args (take c.loop-s.s-index sels) c.in-Some.field s c.loop-s.invariant c.in-Some.ensures.found)
