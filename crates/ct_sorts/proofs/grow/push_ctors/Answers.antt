use Rattle.std.proofs.Common.{◌≡◌, ℕ, ◌+◌, ◌<◌, ◌≤◌, ◌++◌, All, List, [], ◌∷◌, length, map, take, get_or, sum, Some, slice_get, refl, sym, ◌∙◌, ap, subst, arith, length-append}
use Rattle.std.proofs.lemmas.List.{length-map}
use Rattle.std.proofs.lemmas.Option.{slice_get-get_or}
use Rattle.ct_generics.specs.declared.nodes.ExprId.{ExprId}
use Rattle.ct_generics.specs.Denoted.{sorts_of}
use Rattle.ct_generics.specs.Expression.{Expression}
use Rattle.ct_sorts.specs.declared.entries.CtorEntry.{CtorEntry}
use Rattle.ct_sorts.specs.declared.spelling.Home.{Home}
use Rattle.ct_sorts.specs.declared.spelling.Spelling.{Spelling}
use Rattle.ct_sorts.specs.declared.tables.Tables.{Tables}
use Rattle.ct_sorts.specs.Growing.{AreNumbered}
use Rattle.ct_sorts.specs.Heads.{NamesEach}
use Rattle.ct_sorts.specs.Made.{ctors_of_sort, sels_of_ctor}
use Rattle.ct_sorts.specs.Same.{sort_among}
use Rattle.ct_sorts.specs.Shapes.{field_shapes}
use Rattle.ct_sorts.specs.Stored.{ctor_of, sel_of, spelling_at}
use Rattle.ct_sorts.proofs.CtorsLemmas.{ctors_none, ctors_more, ctors_all, sum_so_far}
use Rattle.ct_sorts.proofs.grow.push_ctors.Goals as goal

pub loop-row-init : goal.loop-row-init
loop-row-init c = (refl, ctors_none c.args.tables.now c.args.sort c.args.head.0 c.args.rows.now)

pub push_ctor-requires-clause-sorts_few : goal.push_ctor-requires-clause-sorts_few
push_ctor-requires-clause-sorts_few c = omega (arith, c.requires.sorts_few, ap (λ (t : Tables). length t.table.sorts) c.loop-row.invariant.1.others)

pub push_ctor-requires-clause-ctors_few : goal.push_ctor-requires-clause-ctors_few
push_ctor-requires-clause-ctors_few c = omega (arith, c.requires.ctors_few, c.loop-row.invariant.1.ctors_long, c.loop-row-test.true)

pub push_ctor-requires-clause-sels_few : goal.push_ctor-requires-clause-sels_few
push_ctor-requires-clause-sels_few c =
    let at : slice_get c.args.rows.now c.loop-row.row-index ≡ Some c.row-item.result = slice_get-get_or c.args.rows.now c.loop-row.row-index c.row-item.result c.loop-row-test.true ∙ ap Some (sym c.row-item.is) in
    omega (arith, c.requires.sels_few, c.loop-row.invariant.1.sels_long, ap length c.as_slice.ensures.value, sum_so_far c.args.rows.now c.loop-row.row-index c.row-item.result at)

pub push_ctor-requires-clause-there : goal.push_ctor-requires-clause-there
push_ctor-requires-clause-there c =
    let there = c.requires.there c.loop-row.row-index c.row-item.result c.loop-row-test.true in
    let row : get_or c.args.rows.now c.loop-row.row-index c.row-item.result ≡ c.as_slice.result.now = sym c.row-item.is ∙ sym c.as_slice.ensures.value in
    subst (λ (t : Tables). All (λ (id : ExprId). (i : ℕ) × (slice_get t.table.sorts i ≡ Some id)) c.as_slice.result.now) (sym c.loop-row.invariant.1.others)
    (subst (All (λ (id : ExprId). (i : ℕ) × (slice_get c.args.tables.now.table.sorts i ≡ Some id))) row there)

pub loop-row-preserved : goal.loop-row-preserved
loop-row-preserved c =
    let old = c.args.tables.now in
    let now = c.loop-row.tables in
    let new = c.push_ctor.new.tables in
    let i = c.loop-row.row-index in
    let row = c.row-item.result in
    let p = c.loop-row.invariant.1 in
    let at : slice_get c.args.rows.now i ≡ Some row = slice_get-get_or c.args.rows.now i row c.loop-row-test.true ∙ ap Some (sym c.row-item.is) in
    let pushed = subst (λ (t : Tables). (names : Spelling) (es : List Expression) → spelling_at t.spellings (record { head = c.args.head.0; ctor = c.loop-row.index }) ≡ Some names → AreNumbered t.table.sorts c.as_slice.result.now (sorts_of t.table) es → NamesEach names es
    → (map (ctor_of t.spellings) new.ctors ≡ map (ctor_of t.spellings) now.ctors ++ ctors_of_sort c.args.sort.0 (length now.sels) (record { name = names.name; fields = field_shapes names.fields es } ∷ []))
    × (map (sel_of t.spellings) new.sels ≡ map (sel_of t.spellings) now.sels ++ sels_of_ctor (sort_among (sorts_of t.table)) (length now.ctors) 0 (field_shapes names.fields es))) p.others c.in_ok-push_ctor.ensures.ok in
    let by_row = subst (λ (r : List ExprId). (names : Spelling) (es : List Expression) → spelling_at old.spellings (record { head = c.args.head.0; ctor = c.loop-row.index }) ≡ Some names → AreNumbered old.table.sorts r (sorts_of old.table) es → NamesEach names es
    → (map (ctor_of old.spellings) new.ctors ≡ map (ctor_of old.spellings) now.ctors ++ ctors_of_sort c.args.sort.0 (length now.sels) (record { name = names.name; fields = field_shapes names.fields es } ∷ []))
    × (map (sel_of old.spellings) new.sels ≡ map (sel_of old.spellings) now.sels ++ sels_of_ctor (sort_among (sorts_of old.table)) (length now.ctors) 0 (field_shapes names.fields es))) c.as_slice.ensures.value pushed in
    let by_index = subst (λ (k : ℕ). (names : Spelling) (es : List Expression) → spelling_at old.spellings (record { head = c.args.head.0; ctor = k }) ≡ Some names → AreNumbered old.table.sorts row (sorts_of old.table) es → NamesEach names es
    → (map (ctor_of old.spellings) new.ctors ≡ map (ctor_of old.spellings) now.ctors ++ ctors_of_sort c.args.sort.0 (length now.sels) (record { name = names.name; fields = field_shapes names.fields es } ∷ []))
    × (map (sel_of old.spellings) new.sels ≡ map (sel_of old.spellings) now.sels ++ sels_of_ctor (sort_among (sorts_of old.table)) (length now.ctors) 0 (field_shapes names.fields es))) c.loop-row.invariant.0 by_row in
    let home = c.in_ok-push_ctor.ensures.homes ∙ ap (λ (k : ℕ). map (λ (e : CtorEntry). e.home) now.ctors ++ record { head = c.args.head.0; ctor = k } ∷ []) c.loop-row.invariant.0 in
    let ctors_long : length new.ctors ≡ length now.ctors + 1 = omega (
      arith,
      ap length home,
      length-map new.ctors (λ (e : CtorEntry). e.home),
      length-map now.ctors (λ (e : CtorEntry). e.home),
      length-append (map (λ (e : CtorEntry). e.home) now.ctors) (record { head = c.args.head.0; ctor = i } ∷ []),
    ) in
    let sels_long : length new.sels ≡ length now.sels + length row = omega (arith, c.in_ok-push_ctor.ensures.long, ap length c.as_slice.ensures.value) in (
      omega (arith, c.loop-row.invariant.0),
      ctors_more old now new c.args.sort c.args.head.0 c.args.rows.now i row p at c.in_ok-push_ctor.ensures.others c.in_ok-push_ctor.ensures.grown.0 c.in_ok-push_ctor.ensures.grown.1 ctors_long sels_long home c.in_ok-push_ctor.ensures.sel_homes by_index,
    )

pub returns-clause-ok : goal.returns-clause-ok
returns-clause-ok c =
    ctors_all c.args.tables.now c.loop-row.tables c.args.sort c.args.head.0 c.args.rows.now c.loop-row.row-index (omega (arith, c.loop-row-test.false)) c.loop-row.invariant.1
