use Rattle.std.proofs.Common.{◌≡◌, ℕ, ◌+◌, ◌<◌, ◌≤◌, List, length, map, drop, get_or, Some, slice_get, refl, sym, ◌∙◌, ap, subst, arith}
use Rattle.std.proofs.lemmas.List.{length-map}
use Rattle.std.proofs.lemmas.Option.{slice_get-get_or}
use Rattle.ct_lemmas.proofs.Lists.{slice_get-map_at}
use Rattle.ct_generics.specs.declared.nodes.ExprId.{ExprId}
use Rattle.ct_generics.specs.Denoted.{sorts_of, expression_at}
use Rattle.ct_generics.specs.Expression.{Expression}
use Rattle.ct_sorts.specs.declared.tables.Tables.{Tables}
use Rattle.ct_sorts.specs.Growing.{AreWithin, IsGrownBy}
use Rattle.ct_sorts.proofs.PushSortsLemmas.{ArePushedSorts, sorts_none, sorts_more, sorts_all, sorts_fit}
use Rattle.ct_sorts.proofs.grow.push_sorts.Goals as goal

none : ExprId
none = record { 0 = 0 }

sort_listed : (t : Tables) (i : ℕ) → i < length t.table.sorts → slice_get (sorts_of t.table) i ≡ Some (expression_at t.table.expressions (get_or t.table.sorts i none))
sort_listed t i within = slice_get-map_at (expression_at t.table.expressions) t.table.sorts i (get_or t.table.sorts i none) (slice_get-get_or t.table.sorts i none within)

as_long : (old now : Tables) (i : ℕ) → ArePushedSorts old now i → length now.table.sorts ≡ length old.table.sorts
as_long old now i p = sym (length-map now.table.sorts (expression_at now.table.expressions)) ∙ ap length p.grown.same.origins_same ∙ length-map old.table.sorts (expression_at old.table.expressions)

pub loop-i-init : goal.loop-i-init
loop-i-init c = sorts_none c.args.tables.now c.args.first c.requires.first c.requires.ready

pub push_sort-requires-clause-ready : goal.push_sort-requires-clause-ready
push_sort-requires-clause-ready c = c.loop-i.invariant.ready

pub push_sort-requires-clause-next : goal.push_sort-requires-clause-next
push_sort-requires-clause-next c = c.loop-i.invariant.index

pub push_sort-requires-clause-within : goal.push_sort-requires-clause-within
push_sort-requires-clause-within c = omega (arith, c.loop-i-test.true, c.len-i-end.ensures.len, as_long c.args.tables.now c.loop-i.tables c.loop-i.i c.loop-i.invariant)

pub push_sort-requires-clause-few : goal.push_sort-requires-clause-few
push_sort-requires-clause-few c =
    let old = c.args.tables.now in
    λ e at. sorts_fit old c.loop-i.tables c.loop-i.i e c.loop-i.invariant (subst (λ (n : ℕ). AreWithin old (drop n (sorts_of old.table))) c.requires.first c.requires.few) at

pub loop-i-preserved : goal.loop-i-preserved
loop-i-preserved c =
    let old = c.args.tables.now in
    let now = c.loop-i.tables in
    let i = c.loop-i.i in
    let p = c.loop-i.invariant in
    let within : i < length now.table.sorts = omega (arith, c.loop-i-test.true, c.len-i-end.ensures.len, as_long old now i p) in
    let at = sort_listed now i within in
    let e = expression_at now.table.expressions (get_or now.table.sorts i none) in
    sorts_more old now c.push_sort.new.tables i e p at (c.in_ok-push_sort.ensures.ok e at) c.in_ok-push_sort.ensures.grown c.in_ok-push_sort.ensures.standing c.in_ok-push_sort.ensures.counted

pub returns-clause-ok : goal.returns-clause-ok
returns-clause-ok c =
    let old = c.args.tables.now in
    let past : length (sorts_of old.table) ≤ c.loop-i.i = omega (arith, c.loop-i-test.false, c.len-i-end.ensures.len, length-map old.table.sorts (expression_at old.table.expressions)) in
    subst (λ (n : ℕ). IsGrownBy old c.loop-i.tables (drop n (sorts_of old.table))) (sym c.requires.first) (sorts_all old c.loop-i.tables c.loop-i.i past c.loop-i.invariant)

pub returns-clause-grown : goal.returns-clause-grown
returns-clause-grown c = c.loop-i.invariant.have

pub returns-clause-standing : goal.returns-clause-standing
returns-clause-standing c = c.loop-i.invariant.ready.standing

pub returns-clause-counted : goal.returns-clause-counted
returns-clause-counted c = c.loop-i.invariant.counted
