use Rattle.std.proofs.Common.{◌≡◌, ℕ, ◌+◌, ◌<◌, ◌++◌, [], ◌∷◌, length, Some, slice_get, refl, sym, ◌∙◌, ap, subst, arith, length-append}
use Rattle.std.proofs.lemmas.Option.{same_Some, slice_get-get_or}
use Rattle.ct_sorts.specs.declared.entries.SelEntry.{SelEntry}
use Rattle.ct_sorts.proofs.SelLemmas.{ArePushed, IsSelEntry, pushed_none, pushed_more, pushed_homes, pushed_stand}
use Rattle.ct_sorts.proofs.grow.push_sels.Goals as goal

pub loop-field-init : goal.loop-field-init
loop-field-init c = (refl, pushed_none c.args.sorts.now c.args.row.now c.args.home c.args.ctor c.args.sels.now)

pub loop-field-preserved : goal.loop-field-preserved
loop-field-preserved c =
    let one : IsSelEntry c.args.sorts.now c.args.row.now c.args.home c.args.ctor c.loop-field.field-index (record { home = c.args.home; ctor = c.args.ctor; place = c.loop-field.place; sort = c.number-sort.result }) =
    record { home_is = refl; ctor_is = refl; place_is = c.loop-field.invariant.0; sort_is = λ id at. subst (λ x. slice_get c.args.sorts.now c.number-sort.result.0 ≡ Some x) (same_Some _ _ (sym (slice_get-get_or c.args.row.now c.loop-field.field-index _ c.loop-field-test.true) ∙ at)) c.number-sort.ensures.at } in
    (omega (arith, c.loop-field.invariant.0), pushed_more c.args.sorts.now c.args.row.now c.args.home c.args.ctor c.args.sels.now c.loop-field.sels c.push_item.new.items c.loop-field.field-index _ c.loop-field.invariant.1 one c.in_ok-push_item.ensures.ok)

pub returns-clause-ok : goal.returns-clause-ok
returns-clause-ok c = λ spellings origins es ctors names numbered at_head at_ctor named.
    let all : c.loop-field.field-index ≡ length c.args.row.now = omega (arith, c.loop-field-test.false, c.loop-field.auto.field-index-end) in
    pushed_stand spellings origins c.args.home c.args.ctor c.args.sorts.now c.args.row.now c.args.sels.now c.loop-field.sels es ctors names
    (subst (ArePushed c.args.sorts.now c.args.row.now c.args.home c.args.ctor c.args.sels.now c.loop-field.sels) all c.loop-field.invariant.1) numbered at_head at_ctor named

pub returns-clause-homes : goal.returns-clause-homes
returns-clause-homes c = pushed_homes c.args.sorts.now c.args.row.now c.args.home c.args.ctor c.args.sels.now c.loop-field.sels c.loop-field.field-index c.loop-field.invariant.1

pub returns-clause-long : goal.returns-clause-long
returns-clause-long c =
    let p = c.loop-field.invariant.1 in
    omega (arith, ap length p.now_is, length-append c.args.sels.now p.more, p.long, c.loop-field-test.false, c.loop-field.auto.field-index-end)
