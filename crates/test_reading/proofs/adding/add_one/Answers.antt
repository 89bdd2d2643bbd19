use Rattle.std.proofs.Common.{◌≡◌, List, [], ◌∷◌, Result, Ok, Err, OnOk, OnErr, refl, sym, subst}
use Rattle.ct_generics.specs.declared.error.GenericError.{GenericError}
use Rattle.ct_generics.specs.declared.nodes.Node.{Node}
use Rattle.ct_generics.specs.declared.sort_table.SortTable.{SortTable}
use Rattle.ct_generics.specs.Nodes.{Stands, Stay}
use Rattle.test_reading.proofs.adding.add_one.Goals as goal

-- what holds after either answer
either : {A P Q X : Type 0} (r : Result A GenericError) → OnOk r P → OnErr r Q → (P → X) → (Q → X) → X
either (Ok a) ok err p q = p ok
either (Err e) ok err p q = q err

pub returns-in_err-id : goal.returns-in_err-id
returns-in_err-id c =
    let old = c.args.table.now in
    let new : SortTable = record { expressions = c.resolve.new.table; counts = old.counts; sorts = old.sorts } in
    record { sorts = (c.requires.sorts.0, c.denotations.ensures.stay old new c.requires.sorts.0 c.requires.sorts.1 refl c.resolve.ensures.stay) }

pub add_sorts-requires-clause-sorts : goal.add_sorts-requires-clause-sorts
add_sorts-requires-clause-sorts c =
    let old = c.args.table.now in
    let new = c.forget_counts.new.self in
    let found = c.in_ok-id.ensures.ok c.requires.declared.0 c.requires.declared.1 in
    let stay : Stay old.expressions new.expressions = subst (λ (nodes : List Node). Stay old.expressions nodes) (sym c.forget_counts.ensures.expressions) c.resolve.ensures.stay in
    let stands : Stands new.expressions c.in_ok-id.id.0 found.0 = subst (λ (nodes : List Node). Stands nodes c.in_ok-id.id.0 found.0) (sym c.forget_counts.ensures.expressions) found.2 in
    (c.requires.sorts.0, found.0 ∷ [], c.denotations.ensures.stay old new c.requires.sorts.0 c.requires.sorts.1 c.forget_counts.ensures.sorts stay, (stands, tt))

pub add_sorts-requires-clause-counted : goal.add_sorts-requires-clause-counted
add_sorts-requires-clause-counted c = c.forget_counts.ensures.counted c.args.g.now

pub returns : goal.returns
returns c =
    let old = c.args.table.now in
    let middle = c.forget_counts.new.self in
    let new = c.add_sorts.new.table in
    let found = c.in_ok-id.ensures.ok c.requires.declared.0 c.requires.declared.1 in
    let stay : Stay old.expressions middle.expressions = subst (λ (nodes : List Node). Stay old.expressions nodes) (sym c.forget_counts.ensures.expressions) c.resolve.ensures.stay in
    let stands : Stands middle.expressions c.in_ok-id.id.0 found.0 = subst (λ (nodes : List Node). Stands nodes c.in_ok-id.id.0 found.0) (sym c.forget_counts.ensures.expressions) found.2 in
    let before = c.denotations.ensures.stay old middle c.requires.sorts.0 c.requires.sorts.1 c.forget_counts.ensures.sorts stay in
    record {
      sorts = either c.add_sorts.result c.add_sorts.ensures.ok c.add_sorts.ensures.unchanged
          (λ ok. let added = ok c.requires.declared.0 c.requires.sorts.0 (found.0 ∷ []) c.requires.declared.1 before (stands, tt) in (_, added.2))
          (λ same. (c.requires.sorts.0, c.denotations.ensures.stay middle new c.requires.sorts.0 before same c.add_sorts.ensures.stay));
    }
