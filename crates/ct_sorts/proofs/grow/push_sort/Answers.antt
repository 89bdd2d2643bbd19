use Rattle.std.proofs.Common.{◌≡◌, ℕ, ◌+◌, ◌<◌, ◌≤◌, ◌++◌, All, List, [], ◌∷◌, length, map, take, drop, sum, Some, slice_get, refl, sym, ◌∙◌, ap, ap₂, subst, arith}
use Rattle.std.specs.List.{AllZip}
use Rattle.std.proofs.lemmas.Option.{slice_get_within}
use Rattle.ct_generics.specs.declared.nodes.ExprId.{ExprId}
use Rattle.ct_generics.specs.Denoted.{declared_of, sorts_of}
use Rattle.ct_generics.specs.Expression.{Expression}
use Rattle.ct_generics.specs.Nodes.{StandFor}
use Rattle.ct_generics.specs.Reach.{fields_of}
use Rattle.ct_sorts.specs.declared.tables.Tables.{Tables}
use Rattle.ct_sorts.specs.Declarations.{ctor_ids}
use Rattle.ct_sorts.specs.Grown.{Begins}
use Rattle.ct_sorts.specs.Growing.{HaveGrown, IsStanding}
use Rattle.ct_generics.specs.SortTable.{AreCounted}
use Rattle.ct_sorts.proofs.CountedLemmas.{counted_stay}
use Rattle.ct_sorts.proofs.PieceLemmas.{Begins-self}
use Rattle.ct_sorts.proofs.ResultLemmas.{on_ok}
use Rattle.ct_sorts.proofs.SortEntryLemmas.{IsEntryReady, ctors_fit, entry_ready, grown_by_entry, grown_nodes, number_within, rows_there, sels_fit, sort_at, sorts_few, standing_nodes, stands_there, with_entries}
use Rattle.ct_sorts.proofs.grow.push_sort.Goals as goal

pub head_and_args-requires : goal.head_and_args-requires
head_and_args-requires c = record { within = number_within c.args.tables.now c.requires.ready c.args.i c.get-id.result c.get-id.ensures.value }

pub field_rows-requires-clause-within : goal.field_rows-requires-clause-within
field_rows-requires-clause-within c = number_within c.args.tables.now c.requires.ready c.args.i c.get-id.result c.get-id.ensures.value

pub returns-in-Err-field_rows-clause-grown : goal.returns-in-Err-field_rows-clause-grown
returns-in-Err-field_rows-clause-grown c =
    let t = c.args.tables.now in
    grown_nodes c.facts.ensures.all t c.requires.ready c.field_rows.new.table c.field_rows.ensures.stay t.ctors t.sels t.sorts (Begins-self t.ctors) (Begins-self t.sels) (Begins-self t.sorts)

pub returns-in-Err-field_rows-clause-standing : goal.returns-in-Err-field_rows-clause-standing
returns-in-Err-field_rows-clause-standing c =
    let t = c.args.tables.now in
    standing_nodes c.facts.ensures.all t c.requires.ready c.field_rows.new.table c.field_rows.ensures.stay t.ctors t.sels t.sorts

pub overflow_cast-i : goal.overflow_cast-i
overflow_cast-i c =
    let t = c.args.tables.now in
    let e = sort_at t c.args.i c.get-id.result c.get-id.ensures.value in
    omega (arith, slice_get_within (sorts_of t.table) c.args.i e.0 e.1, (c.requires.few e.0 e.1).sorts)

pub push_ctors-requires-clause-sorts_few : goal.push_ctors-requires-clause-sorts_few
push_ctors-requires-clause-sorts_few c =
    let t = c.args.tables.now in
    let e = sort_at t c.args.i c.get-id.result c.get-id.ensures.value in
    sorts_few c.facts.ensures.all t c.requires.ready c.field_rows.new.table c.field_rows.ensures.stay c.len-2.ensures.single c.args.i c.requires.next e.0 e.1 (c.requires.few e.0 e.1)

-- the rows of the slice stand for the sorts of the fields
rows_stand : (c : goal.After-as_slice) → (e : Expression) → slice_get (sorts_of c.args.tables.now.table) c.args.i ≡ Some e → AllZip (StandFor c.field_rows.new.table) c.as_slice.result.now (fields_of (declared_of c.args.tables.now.generics).heads e)
rows_stand c e at =
    let t = c.args.tables.now in
    let stands = stands_there c.facts.ensures.all t c.requires.ready c.field_rows.new.table c.field_rows.ensures.stay c.len-2.ensures.single c.args.i c.requires.next e at c.get-id.result c.get-id.ensures.value in
    subst (λ (rows : List (List ExprId)). AllZip (StandFor c.field_rows.new.table) rows (fields_of (declared_of t.generics).heads e)) (sym c.as_slice.ensures.value)
    (c.in-Ok-field_rows.ensures.rows (declared_of t.generics) e c.requires.ready.standing.declared stands)

pub push_ctors-requires-clause-ctors_few : goal.push_ctors-requires-clause-ctors_few
push_ctors-requires-clause-ctors_few c =
    let t = c.args.tables.now in
    let e = sort_at t c.args.i c.get-id.result c.get-id.ensures.value in
    ctors_fit c.facts.ensures.all t c.requires.ready c.field_rows.new.table c.field_rows.ensures.stay c.len-2.ensures.single c.args.i c.requires.next e.0 e.1 c.as_slice.result.now (rows_stand c e.0 e.1) (c.requires.few e.0 e.1)

pub push_ctors-requires-clause-sels_few : goal.push_ctors-requires-clause-sels_few
push_ctors-requires-clause-sels_few c =
    let t = c.args.tables.now in
    let e = sort_at t c.args.i c.get-id.result c.get-id.ensures.value in
    sels_fit c.facts.ensures.all t c.requires.ready c.field_rows.new.table c.field_rows.ensures.stay c.len-2.ensures.single c.args.i c.requires.next e.0 e.1 c.as_slice.result.now (rows_stand c e.0 e.1) (c.requires.few e.0 e.1)

pub push_ctors-requires-clause-there : goal.push_ctors-requires-clause-there
push_ctors-requires-clause-there c =
    let t = c.args.tables.now in
    let e = sort_at t c.args.i c.get-id.result c.get-id.ensures.value in
    rows_there c.facts.ensures.all t c.requires.ready c.field_rows.new.table c.field_rows.ensures.stay c.len-2.ensures.single c.args.i c.requires.next e.0 e.1 c.as_slice.result.now (rows_stand c e.0 e.1)

pub returns-in_err-push_ctors-clause-grown : goal.returns-in_err-push_ctors-clause-grown
returns-in_err-push_ctors-clause-grown c =
    let t = c.args.tables.now in
    let now = c.push_ctors.new.tables in
    subst (HaveGrown t) (sym c.push_ctors.ensures.others)
    (grown_nodes c.facts.ensures.all t c.requires.ready c.field_rows.new.table c.field_rows.ensures.stay now.ctors now.sels t.sorts c.push_ctors.ensures.grown.0 c.push_ctors.ensures.grown.1 (Begins-self t.sorts))

pub returns-in_err-push_ctors-clause-standing : goal.returns-in_err-push_ctors-clause-standing
returns-in_err-push_ctors-clause-standing c =
    let t = c.args.tables.now in
    let now = c.push_ctors.new.tables in
    subst IsStanding (sym c.push_ctors.ensures.others) (standing_nodes c.facts.ensures.all t c.requires.ready c.field_rows.new.table c.field_rows.ensures.stay now.ctors now.sels t.sorts)

pub ctor_ids-requires : goal.ctor_ids-requires
ctor_ids-requires c =
    let t = c.args.tables.now in
    let e = sort_at t c.args.i c.get-id.result c.get-id.ensures.value in
    let stands = stands_there c.facts.ensures.all t c.requires.ready c.field_rows.new.table c.field_rows.ensures.stay c.len-2.ensures.single c.args.i c.requires.next e.0 e.1 c.get-id.result c.get-id.ensures.value in
    let rows = c.in-Ok-field_rows.ensures.rows (declared_of t.generics) e.0 c.requires.ready.standing.declared stands in
    let fit = ctors_fit c.facts.ensures.all t c.requires.ready c.field_rows.new.table c.field_rows.ensures.stay c.len-2.ensures.single c.args.i c.requires.next e.0 e.1 c.in-Ok-field_rows.rows rows (c.requires.few e.0 e.1) in
    record { few = omega (arith, fit, c.len-first_ctor.ensures.len, c.len-3.ensures.len) }

pub returns-in_err-ctors-clause-grown : goal.returns-in_err-ctors-clause-grown
returns-in_err-ctors-clause-grown c =
    let t = c.args.tables.now in
    let now = c.push_ctors.new.tables in
    subst (HaveGrown t) (sym c.push_ctors.ensures.others)
    (grown_nodes c.facts.ensures.all t c.requires.ready c.field_rows.new.table c.field_rows.ensures.stay now.ctors now.sels t.sorts c.push_ctors.ensures.grown.0 c.push_ctors.ensures.grown.1 (Begins-self t.sorts))

pub returns-in_err-ctors-clause-standing : goal.returns-in_err-ctors-clause-standing
returns-in_err-ctors-clause-standing c =
    let t = c.args.tables.now in
    let now = c.push_ctors.new.tables in
    subst IsStanding (sym c.push_ctors.ensures.others) (standing_nodes c.facts.ensures.all t c.requires.ready c.field_rows.new.table c.field_rows.ensures.stay now.ctors now.sels t.sorts)

-- the entry may come
may_come : (c : goal.After-spine-3-1) → IsEntryReady c.push_ctors.new.tables c.head_of-head.result c.in-Ok.spine.args
may_come c =
    let t = c.args.tables.now in
    let e = sort_at t c.args.i c.get-id.result c.get-id.ensures.value in
    let stands = stands_there c.facts.ensures.all t c.requires.ready c.field_rows.new.table c.field_rows.ensures.stay c.len-2.ensures.single c.args.i c.requires.next e.0 e.1 c.get-id.result c.get-id.ensures.value in
    entry_ready c.facts.ensures.all t c.requires.ready c.field_rows.new.table c.field_rows.ensures.stay c.len-2.ensures.single c.args.i c.requires.next e.0 e.1 c.in-Ok.spine.head c.in-Ok.spine.args (c.in-Ok.ensures.spine e.0 stands)
    c.head_of-head.result c.head_of-head.ensures.head (c.requires.few e.0 e.1) c.push_ctors.new.tables c.push_ctors.ensures.others

pub push_entry-requires-clause-standing : goal.push_entry-requires-clause-standing
push_entry-requires-clause-standing c = (may_come c).standing

pub push_entry-requires-clause-few : goal.push_entry-requires-clause-few
push_entry-requires-clause-few c = (may_come c).few

pub push_entry-requires-clause-head : goal.push_entry-requires-clause-head
push_entry-requires-clause-head c = (may_come c).head_there

pub push_entry-requires-clause-different : goal.push_entry-requires-clause-different
push_entry-requires-clause-different c = (may_come c).different_all

pub push_entry-requires-clause-args : goal.push_entry-requires-clause-args
push_entry-requires-clause-args c = (may_come c).args_there

pub push_entry-requires-clause-texts : goal.push_entry-requires-clause-texts
push_entry-requires-clause-texts c = (may_come c).texts

pub push_entry-requires-clause-fresh : goal.push_entry-requires-clause-fresh
push_entry-requires-clause-fresh c = (may_come c).fresh

pub returns-clause-ok : goal.returns-clause-ok
returns-clause-ok c =
    let t = c.args.tables.now in
    on_ok c.push_entry.result (λ pushed e at.
    let stands = stands_there c.facts.ensures.all t c.requires.ready c.field_rows.new.table c.field_rows.ensures.stay c.len-2.ensures.single c.args.i c.requires.next e at c.get-id.result c.get-id.ensures.value in
    let rows = subst (λ (rows : List (List ExprId)). AllZip (StandFor c.field_rows.new.table) rows (fields_of (declared_of t.generics).heads e)) (sym c.as_slice.ensures.value)
    (c.in-Ok-field_rows.ensures.rows (declared_of t.generics) e c.requires.ready.standing.declared stands) in
    let ctors = c.in_ok-ctors.ensures.ok ∙ ap₂ ctor_ids c.len-first_ctor.ensures.len (c.len-3.ensures.len ∙ ap length (sym c.as_slice.ensures.value)) in
    grown_by_entry c.facts.ensures.all t c.requires.ready c.field_rows.new.table c.field_rows.ensures.stay c.len-2.ensures.single c.args.i c.requires.next e at c.in-Ok.spine.head c.in-Ok.spine.args (c.in-Ok.ensures.spine e stands)
    c.head_of-head.result c.head_of-head.ensures.head c.push_ctors.new.tables c.push_entry.new.tables c.as_slice.result.now c.in_ok-ctors.ctors c.push_ctors.ensures.others c.push_entry.ensures.others
    rows c.in_ok-push_ctors.ensures.ok c.in_ok-push_ctors.ensures.homes c.in_ok-push_ctors.ensures.sel_homes c.push_ctors.ensures.grown.0 pushed ctors) c.push_entry.ensures.ok

pub returns-clause-grown : goal.returns-clause-grown
returns-clause-grown c =
    let t = c.args.tables.now in
    let now = c.push_ctors.new.tables in
    let new = c.push_entry.new.tables in
    let same = c.push_entry.ensures.others ∙ ap (λ (x : Tables). record x { sorts = new.sorts }) c.push_ctors.ensures.others in
    subst (HaveGrown t) (sym same)
    (grown_nodes c.facts.ensures.all t c.requires.ready c.field_rows.new.table c.field_rows.ensures.stay now.ctors now.sels new.sorts c.push_ctors.ensures.grown.0 c.push_ctors.ensures.grown.1 (subst (λ (x : Tables). Begins x.sorts new.sorts) c.push_ctors.ensures.others c.push_entry.ensures.grown))

pub returns-clause-standing : goal.returns-clause-standing
returns-clause-standing c =
    let t = c.args.tables.now in
    let now = c.push_ctors.new.tables in
    let new = c.push_entry.new.tables in
    let same = c.push_entry.ensures.others ∙ ap (λ (x : Tables). record x { sorts = new.sorts }) c.push_ctors.ensures.others in
    subst IsStanding (sym same) (standing_nodes c.facts.ensures.all t c.requires.ready c.field_rows.new.table c.field_rows.ensures.stay now.ctors now.sels new.sorts)

pub returns-in-Err-field_rows-clause-counted : goal.returns-in-Err-field_rows-clause-counted
returns-in-Err-field_rows-clause-counted c =
    let t = c.args.tables.now in
    counted_stay t.generics.heads t.table.expressions c.field_rows.new.table t.table.counts c.len.ensures.ordered c.field_rows.ensures.stay

pub returns-in_err-push_ctors-clause-counted : goal.returns-in_err-push_ctors-clause-counted
returns-in_err-push_ctors-clause-counted c =
    let t = c.args.tables.now in
    λ counted.
    subst (λ (x : Tables). AreCounted x.generics x.table) (sym c.push_ctors.ensures.others)
    (counted_stay t.generics.heads t.table.expressions c.field_rows.new.table t.table.counts c.len.ensures.ordered c.field_rows.ensures.stay counted)

pub returns-in_err-ctors-clause-counted : goal.returns-in_err-ctors-clause-counted
returns-in_err-ctors-clause-counted c =
    let t = c.args.tables.now in
    λ counted.
    subst (λ (x : Tables). AreCounted x.generics x.table) (sym c.push_ctors.ensures.others)
    (counted_stay t.generics.heads t.table.expressions c.field_rows.new.table t.table.counts c.len.ensures.ordered c.field_rows.ensures.stay counted)

pub returns-clause-counted : goal.returns-clause-counted
returns-clause-counted c =
    let t = c.args.tables.now in
    let new = c.push_entry.new.tables in
    let same = c.push_entry.ensures.others ∙ ap (λ (x : Tables). record x { sorts = new.sorts }) c.push_ctors.ensures.others in
    λ counted.
    subst (λ (x : Tables). AreCounted x.generics x.table) (sym same)
    (counted_stay t.generics.heads t.table.expressions c.field_rows.new.table t.table.counts c.len.ensures.ordered c.field_rows.ensures.stay counted)
