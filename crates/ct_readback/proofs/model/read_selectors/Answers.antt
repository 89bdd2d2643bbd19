use Rattle.std.proofs.Common.{◌≡◌, ◌+◌, List, length, Err, refl, sym, ap, subst, ◌∙◌, arith}
use Rattle.std.proofs.lemmas.Result.{err_from_is_err_and}
use Rattle.ct_sorts.proofs.PieceLemmas.{Begins-self}
use Rattle.ct_sorts.specs.declared.mark.Mark.{Mark}
use Rattle.ct_sexpr.specs.View.{expressions_of}
use Rattle.ct_eval.specs.declared.interp.Table.{Table}
use Rattle.ct_readback.specs.declared.error.BackError.{BackError}
use Rattle.ct_readback.specs.declared.error.BackError.TheVariants.{Form}
use Rattle.ct_readback.proofs.OutcomeLemmas.{one_error}
use Rattle.ct_readback.specs.ModelReads.{items_of, IsFirstRefused}
use Rattle.ct_readback.specs.Progress.{AreSelectors, first_offs}
use Rattle.ct_readback.proofs.SelectorLemmas.{offs_few, selectors_start}
use Rattle.ct_readback.proofs.GrowthLemmas.{AreSelectorsSoFar, other_more, off_more, off_refused}
use Rattle.ct_readback.proofs.model.read_selectors.Goals as goal

pub loop-s-init : goal.loop-s-init
loop-s-init c =
    let d = c.args.sig.now in
    let g = c.args.graph.now in
    let sizes = c.args.sizes.now in
    let items = items_of (expressions_of c.args.items.now) in (
      Begins-self g,
      c.requires.well_formed,
      let all = offs_few d 0 in omega (arith, all, c.funs-place.ensures.count),
      c.no_defaults-defaults.ensures.defaults d sizes g,
      subst (λ (tables : List Table). AreSelectors d sizes g items (length d.functions) 0 tables) (sym c.new-tables.ensures.items) (selectors_start d sizes items (length d.functions) g),
    )

pub loop-s-preserved-then-not-can_miss : goal.loop-s-preserved-then-not-can_miss
loop-s-preserved-then-not-can_miss c =
    let d = c.args.sig.now in
    let items = items_of (expressions_of c.args.items.now) in
    subst (λ (tables : List Table). AreSelectorsSoFar d c.args.sizes.now items (length d.functions) c.args.graph.now c.default_table.new.graph (c.loop-s.s + 1) c.loop-s.place c.default_table.new.defaults.nodes.items tables)
    (sym c.in_ok-push.ensures.items)
    (other_more d c.args.sizes.now items (length d.functions) c.args.graph.now c.loop-s.graph c.loop-s.s c.loop-s.place c.loop-s.defaults.nodes.items c.loop-s.tables.items c.loop-s.invariant
    c.default_table.new.graph c.default_table.new.defaults.nodes.items c.in_ok-default_table.field-0 c.sel_sort-sort.result c.in_ok-default_table.ensures.grown c.in_ok-default_table.ensures.well_formed
    (sym c.can_miss.ensures.value ∙ c.if-not-can_miss.true) c.in_ok-default_table.ensures.defaults c.sel_sort-sort.ensures.value c.in_ok-default_table.ensures.table)

pub loop-s-preserved : goal.loop-s-preserved
loop-s-preserved c =
    let d = c.args.sig.now in
    let items = items_of (expressions_of c.args.items.now) in
    subst (λ (tables : List Table). AreSelectorsSoFar d c.args.sizes.now items (length d.functions) c.args.graph.now c.read_selector.new.graph (c.loop-s.s + 1) (c.loop-s.place + 1) c.loop-s.defaults.nodes.items tables)
    (sym c.in_ok-push-2.ensures.items)
    (off_more d c.args.sizes.now items (length d.functions) c.args.graph.now c.loop-s.graph c.loop-s.s c.loop-s.place c.loop-s.defaults.nodes.items c.loop-s.tables.items c.loop-s.invariant
    c.read_selector.new.graph c.in_ok-read_selector.field-0 c.in_ok-read_selector.ensures.grown c.in_ok-read_selector.ensures.well_formed
    (sym c.can_miss.ensures.value ∙ c.if-not-can_miss.false) c.in_ok-read_selector.ensures.read)

pub returns-in_err-read_selector-clause-refused : goal.returns-in_err-read_selector-clause-refused
returns-in_err-read_selector-clause-refused c = λ at code is.
    let d = c.args.sig.now in
    let items = items_of (expressions_of c.args.items.now) in
    let p = err_from_is_err_and c.from_residual-in_err-read_selector.result c.from_residual-in_err-read_selector.ensures.1 in
    let sels : c.sels-s-end.result ≡ length d.sels = c.sels-s-end.ensures.value ∙ ap (λ (m : Mark). m.sels) c.mark.ensures.lengths in
    let refused = c.in_err-read_selector.ensures.refused at code (ap (λ (e : BackError). Err e) (sym p.2 ∙ one_error c.from_residual-in_err-read_selector.result p.0 (Form at code) p.1 is)) in
    subst (λ n. IsFirstRefused d items n code) (sym refused.0)
    (off_refused d c.args.sizes.now items (length d.functions) c.args.graph.now c.loop-s.graph c.loop-s.s c.loop-s.place c.loop-s.defaults.nodes.items c.loop-s.tables.items c.loop-s.invariant
    c.requires.functions.0 code c.requires.well_formed refl c.requires.functions.1 (omega (arith, c.loop-s-test.true, sels)) (sym c.can_miss.ensures.value ∙ c.if-not-can_miss.false) refused.1)

pub can_miss-requires : goal.can_miss-requires
can_miss-requires c =
    let sels : c.sels-s-end.result ≡ length c.args.sig.now.sels = c.sels-s-end.ensures.value ∙ ap (λ (m : Mark). m.sels) c.mark.ensures.lengths in
    record { declared = omega (arith, c.loop-s-test.true, sels) }

pub sel_sort-sort-requires : goal.sel_sort-sort-requires
sel_sort-sort-requires c =
    let sels : c.sels-s-end.result ≡ length c.args.sig.now.sels = c.sels-s-end.ensures.value ∙ ap (λ (m : Mark). m.sels) c.mark.ensures.lengths in
    record { inside = omega (arith, c.loop-s-test.true, sels) }

pub read_selector-requires-clause-declared : goal.read_selector-requires-clause-declared
read_selector-requires-clause-declared c =
    let sels : c.sels-s-end.result ≡ length c.args.sig.now.sels = c.sels-s-end.ensures.value ∙ ap (λ (m : Mark). m.sels) c.mark.ensures.lengths in
    omega (arith, c.loop-s-test.true, sels)

pub overflow_add-place : goal.overflow_add-place
overflow_add-place c =
    let few = offs_few c.args.sig.now c.loop-s.s in
    let at = c.loop-s.invariant.2 in
    omega (arith, few, at, c.loop-s-test.true, c.funs-place.ensures.few, c.funs-place.ensures.count)

pub returns-clause-read : goal.returns-clause-read
returns-clause-read c =
    let d = c.args.sig.now in
    let sels : c.sels-s-end.result ≡ length d.sels = c.sels-s-end.ensures.value ∙ ap (λ (m : Mark). m.sels) c.mark.ensures.lengths in
    let e : c.loop-s.s ≡ length d.sels = omega (arith, c.loop-s-test.false, sels) in
    subst (λ n. AreSelectors d c.args.sizes.now c.loop-s.graph (items_of (expressions_of c.args.items.now)) (length d.functions) n c.loop-s.tables.items) e c.loop-s.invariant.4

pub returns-clause-place : goal.returns-clause-place
returns-clause-place c =
    let d = c.args.sig.now in
    let sels : c.sels-s-end.result ≡ length d.sels = c.sels-s-end.ensures.value ∙ ap (λ (m : Mark). m.sels) c.mark.ensures.lengths in
    let e : c.loop-s.s ≡ length d.sels = omega (arith, c.loop-s-test.false, sels) in
    subst (λ n. c.loop-s.place ≡ length d.functions + length (first_offs d n)) e c.loop-s.invariant.2
