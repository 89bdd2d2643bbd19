use Rattle.std.proofs.Common.{◌≡◌, ℕ, ◌+◌, ◌<◌, ◌≤◌, ◌++◌, List, [], ◌∷◌, length, Err, refl, sym, ◌∙◌, ap, ap₂, subst, arith}
use Rattle.std.specs.List.{flat_map}
use Rattle.std.proofs.lemmas.List.{append_assoc, append-nil}
use Rattle.ct_generics.specs.declared.nodes.ExprId.{ExprId}
use Rattle.ct_generics.specs.declared.nodes.Node.{Node}
use Rattle.ct_generics.specs.declared.sort_table.SortTable.{SortTable}
use Rattle.ct_generics.specs.Add.{IsAdded, field_sorts}
use Rattle.ct_generics.specs.Denoted.{declared_of, sorts_of}
use Rattle.ct_generics.specs.Expression.{Expression}
use Rattle.ct_generics.specs.Nodes.{StandFor}
use Rattle.ct_generics.specs.SortTable.{AreSorts}
use Rattle.ct_sorts.specs.Block.{params_of, plain_from}
use Rattle.ct_sorts.proofs.StepLemmas.{grown_with, own_from, own_kept, own_roots, own_stand, refused_below, standing_with}
use Rattle.ct_sorts.proofs.block.add_own.Goals as goal

pub push_own-requires-clause-fresh : goal.push_own-requires-clause-fresh
push_own-requires-clause-fresh c =
    (sorts_of c.args.tables.now.table, c.requires.standing.stand, c.requires.fresh)

pub returns-in_err-given-clause-grown : goal.returns-in_err-given-clause-grown
returns-in_err-given-clause-grown c =
    let t = c.args.tables.now in
    let more = c.push_own.ensures.begun (sorts_of t.table) c.requires.standing.stand in
    grown_with c.facts.ensures.all t c.push_own.new.table more.0 more.1

pub returns-in_err-given-clause-standing : goal.returns-in_err-given-clause-standing
returns-in_err-given-clause-standing c =
    let t = c.args.tables.now in
    let more = c.push_own.ensures.begun (sorts_of t.table) c.requires.standing.stand in
    standing_with c.facts.ensures.all t c.push_own.new.table (sorts_of t.table ++ more.0) c.requires.standing more.1

pub fields_from-requires-clause-declared : goal.fields_from-requires-clause-declared
fields_from-requires-clause-declared c =
    c.requires.standing.declared

pub fields_from-requires-clause-stand : goal.fields_from-requires-clause-stand
fields_from-requires-clause-stand c =
    (sorts_of c.args.tables.now.table ++ plain_from c.args.first_head (params_of c.args.block.now), (c.in_ok-given.ensures.sorts (sorts_of c.args.tables.now.table) c.requires.standing.stand))

pub fields_from-requires-clause-within : goal.fields_from-requires-clause-within
fields_from-requires-clause-within c =
    let t = c.args.tables.now in
    let plain = plain_from c.args.first_head (params_of c.args.block.now) in
    own_from c.facts.ensures.all (declared_of t.generics).heads t.table c.push_own.new.table c.push_own.new.table c.push_own.new.table plain c.len-first_sort.result [] c.len-first_sort.ensures.len (c.in_ok-given.ensures.sorts (sorts_of c.args.tables.now.table) c.requires.standing.stand) refl (λ n x at. at) refl refl

pub returns-in_err-fields-clause-grown : goal.returns-in_err-fields-clause-grown
returns-in_err-fields-clause-grown c =
    let t = c.args.tables.now in
    let plain = plain_from c.args.first_head (params_of c.args.block.now) in
    grown_with c.facts.ensures.all t c.fields_from.new.table plain (c.facts.ensures.all.stay c.push_own.new.table c.fields_from.new.table (sorts_of t.table ++ plain) (c.in_ok-given.ensures.sorts (sorts_of c.args.tables.now.table) c.requires.standing.stand) c.fields_from.ensures.sorts c.fields_from.ensures.stay)

pub returns-in_err-fields-clause-standing : goal.returns-in_err-fields-clause-standing
returns-in_err-fields-clause-standing c =
    let t = c.args.tables.now in
    let plain = plain_from c.args.first_head (params_of c.args.block.now) in
    standing_with c.facts.ensures.all t c.fields_from.new.table (sorts_of t.table ++ plain) c.requires.standing (c.facts.ensures.all.stay c.push_own.new.table c.fields_from.new.table (sorts_of t.table ++ plain) (c.in_ok-given.ensures.sorts (sorts_of c.args.tables.now.table) c.requires.standing.stand) c.fields_from.ensures.sorts c.fields_from.ensures.stay)

pub add_sorts-requires-clause-declared : goal.add_sorts-requires-clause-declared
add_sorts-requires-clause-declared c =
    (declared_of c.args.tables.now.generics, c.requires.standing.declared)

pub add_sorts-requires-clause-sorts : goal.add_sorts-requires-clause-sorts
add_sorts-requires-clause-sorts c =
    let t = c.args.tables.now in
    let plain = plain_from c.args.first_head (params_of c.args.block.now) in
    let kept : AreSorts c.forget_counts.new.self (sorts_of t.table ++ plain) = own_kept c.facts.ensures.all (declared_of c.args.tables.now.generics).heads c.args.tables.now.table c.push_own.new.table c.fields_from.new.table c.forget_counts.new.self (plain_from c.args.first_head (params_of c.args.block.now)) c.len-first_sort.result c.in_ok-fields.fields.items c.len-first_sort.ensures.len (c.in_ok-given.ensures.sorts (sorts_of c.args.tables.now.table) c.requires.standing.stand) c.fields_from.ensures.sorts c.fields_from.ensures.stay c.forget_counts.ensures.sorts c.forget_counts.ensures.expressions in
    let passed : StandFor c.forget_counts.new.self.expressions c.as_slice.result.now (flat_map (field_sorts (declared_of t.generics).heads) plain) = subst (λ (ids : List ExprId). StandFor c.forget_counts.new.self.expressions ids (flat_map (field_sorts (declared_of t.generics).heads) plain)) (sym c.as_slice.ensures.value) (own_roots c.facts.ensures.all (declared_of c.args.tables.now.generics).heads c.args.tables.now.table c.push_own.new.table c.fields_from.new.table c.forget_counts.new.self (plain_from c.args.first_head (params_of c.args.block.now)) c.len-first_sort.result c.in_ok-fields.fields.items c.len-first_sort.ensures.len (c.in_ok-given.ensures.sorts (sorts_of c.args.tables.now.table) c.requires.standing.stand) c.fields_from.ensures.sorts c.fields_from.ensures.stay c.forget_counts.ensures.sorts c.forget_counts.ensures.expressions c.in_ok-fields.ensures.ok) in
    (sorts_of t.table ++ plain, flat_map (field_sorts (declared_of t.generics).heads) plain, kept, passed)

pub add_sorts-requires-clause-counted : goal.add_sorts-requires-clause-counted
add_sorts-requires-clause-counted c =
    c.forget_counts.ensures.counted c.args.tables.now.generics

pub returns-in-Ok-clause-ok : goal.returns-in-Ok-clause-ok
returns-in-Ok-clause-ok c =
    let t = c.args.tables.now in
    let plain = plain_from c.args.first_head (params_of c.args.block.now) in
    let kept : AreSorts c.forget_counts.new.self (sorts_of t.table ++ plain) = own_kept c.facts.ensures.all (declared_of c.args.tables.now.generics).heads c.args.tables.now.table c.push_own.new.table c.fields_from.new.table c.forget_counts.new.self (plain_from c.args.first_head (params_of c.args.block.now)) c.len-first_sort.result c.in_ok-fields.fields.items c.len-first_sort.ensures.len (c.in_ok-given.ensures.sorts (sorts_of c.args.tables.now.table) c.requires.standing.stand) c.fields_from.ensures.sorts c.fields_from.ensures.stay c.forget_counts.ensures.sorts c.forget_counts.ensures.expressions in
    let passed : StandFor c.forget_counts.new.self.expressions c.as_slice.result.now (flat_map (field_sorts (declared_of t.generics).heads) plain) = subst (λ (ids : List ExprId). StandFor c.forget_counts.new.self.expressions ids (flat_map (field_sorts (declared_of t.generics).heads) plain)) (sym c.as_slice.ensures.value) (own_roots c.facts.ensures.all (declared_of c.args.tables.now.generics).heads c.args.tables.now.table c.push_own.new.table c.fields_from.new.table c.forget_counts.new.self (plain_from c.args.first_head (params_of c.args.block.now)) c.len-first_sort.result c.in_ok-fields.fields.items c.len-first_sort.ensures.len (c.in_ok-given.ensures.sorts (sorts_of c.args.tables.now.table) c.requires.standing.stand) c.fields_from.ensures.sorts c.fields_from.ensures.stay c.forget_counts.ensures.sorts c.forget_counts.ensures.expressions c.in_ok-fields.ensures.ok) in
    let added = c.in-Ok.ensures.ok (declared_of t.generics) (sorts_of t.table ++ plain) (flat_map (field_sorts (declared_of t.generics).heads) plain) c.requires.standing.declared kept passed in
    (added.0, c.facts.ensures.all.sorts c.add_sorts.new.table ((sorts_of t.table ++ plain) ++ added.0) added.2, added.1)

pub returns-in-Ok-clause-grown : goal.returns-in-Ok-clause-grown
returns-in-Ok-clause-grown c =
    let t = c.args.tables.now in
    let plain = plain_from c.args.first_head (params_of c.args.block.now) in
    let kept : AreSorts c.forget_counts.new.self (sorts_of t.table ++ plain) = own_kept c.facts.ensures.all (declared_of c.args.tables.now.generics).heads c.args.tables.now.table c.push_own.new.table c.fields_from.new.table c.forget_counts.new.self (plain_from c.args.first_head (params_of c.args.block.now)) c.len-first_sort.result c.in_ok-fields.fields.items c.len-first_sort.ensures.len (c.in_ok-given.ensures.sorts (sorts_of c.args.tables.now.table) c.requires.standing.stand) c.fields_from.ensures.sorts c.fields_from.ensures.stay c.forget_counts.ensures.sorts c.forget_counts.ensures.expressions in
    let passed : StandFor c.forget_counts.new.self.expressions c.as_slice.result.now (flat_map (field_sorts (declared_of t.generics).heads) plain) = subst (λ (ids : List ExprId). StandFor c.forget_counts.new.self.expressions ids (flat_map (field_sorts (declared_of t.generics).heads) plain)) (sym c.as_slice.ensures.value) (own_roots c.facts.ensures.all (declared_of c.args.tables.now.generics).heads c.args.tables.now.table c.push_own.new.table c.fields_from.new.table c.forget_counts.new.self (plain_from c.args.first_head (params_of c.args.block.now)) c.len-first_sort.result c.in_ok-fields.fields.items c.len-first_sort.ensures.len (c.in_ok-given.ensures.sorts (sorts_of c.args.tables.now.table) c.requires.standing.stand) c.fields_from.ensures.sorts c.fields_from.ensures.stay c.forget_counts.ensures.sorts c.forget_counts.ensures.expressions c.in_ok-fields.ensures.ok) in
    let added = c.in-Ok.ensures.ok (declared_of t.generics) (sorts_of t.table ++ plain) (flat_map (field_sorts (declared_of t.generics).heads) plain) c.requires.standing.declared kept passed in
    grown_with c.facts.ensures.all t c.add_sorts.new.table (plain ++ added.0) (subst (AreSorts c.add_sorts.new.table) (append_assoc (sorts_of t.table) plain added.0) added.2)

pub returns-in-Ok-clause-standing : goal.returns-in-Ok-clause-standing
returns-in-Ok-clause-standing c =
    let t = c.args.tables.now in
    let plain = plain_from c.args.first_head (params_of c.args.block.now) in
    let kept : AreSorts c.forget_counts.new.self (sorts_of t.table ++ plain) = own_kept c.facts.ensures.all (declared_of c.args.tables.now.generics).heads c.args.tables.now.table c.push_own.new.table c.fields_from.new.table c.forget_counts.new.self (plain_from c.args.first_head (params_of c.args.block.now)) c.len-first_sort.result c.in_ok-fields.fields.items c.len-first_sort.ensures.len (c.in_ok-given.ensures.sorts (sorts_of c.args.tables.now.table) c.requires.standing.stand) c.fields_from.ensures.sorts c.fields_from.ensures.stay c.forget_counts.ensures.sorts c.forget_counts.ensures.expressions in
    let passed : StandFor c.forget_counts.new.self.expressions c.as_slice.result.now (flat_map (field_sorts (declared_of t.generics).heads) plain) = subst (λ (ids : List ExprId). StandFor c.forget_counts.new.self.expressions ids (flat_map (field_sorts (declared_of t.generics).heads) plain)) (sym c.as_slice.ensures.value) (own_roots c.facts.ensures.all (declared_of c.args.tables.now.generics).heads c.args.tables.now.table c.push_own.new.table c.fields_from.new.table c.forget_counts.new.self (plain_from c.args.first_head (params_of c.args.block.now)) c.len-first_sort.result c.in_ok-fields.fields.items c.len-first_sort.ensures.len (c.in_ok-given.ensures.sorts (sorts_of c.args.tables.now.table) c.requires.standing.stand) c.fields_from.ensures.sorts c.fields_from.ensures.stay c.forget_counts.ensures.sorts c.forget_counts.ensures.expressions c.in_ok-fields.ensures.ok) in
    let added = c.in-Ok.ensures.ok (declared_of t.generics) (sorts_of t.table ++ plain) (flat_map (field_sorts (declared_of t.generics).heads) plain) c.requires.standing.declared kept passed in
    standing_with c.facts.ensures.all t c.add_sorts.new.table ((sorts_of t.table ++ plain) ++ added.0) c.requires.standing added.2

pub returns-in-Err-clause-refused : goal.returns-in-Err-clause-refused
returns-in-Err-clause-refused c =
    let t = c.args.tables.now in
    let plain = plain_from c.args.first_head (params_of c.args.block.now) in
    let kept : AreSorts c.forget_counts.new.self (sorts_of t.table ++ plain) = own_kept c.facts.ensures.all (declared_of c.args.tables.now.generics).heads c.args.tables.now.table c.push_own.new.table c.fields_from.new.table c.forget_counts.new.self (plain_from c.args.first_head (params_of c.args.block.now)) c.len-first_sort.result c.in_ok-fields.fields.items c.len-first_sort.ensures.len (c.in_ok-given.ensures.sorts (sorts_of c.args.tables.now.table) c.requires.standing.stand) c.fields_from.ensures.sorts c.fields_from.ensures.stay c.forget_counts.ensures.sorts c.forget_counts.ensures.expressions in
    let passed : StandFor c.forget_counts.new.self.expressions c.as_slice.result.now (flat_map (field_sorts (declared_of t.generics).heads) plain) = subst (λ (ids : List ExprId). StandFor c.forget_counts.new.self.expressions ids (flat_map (field_sorts (declared_of t.generics).heads) plain)) (sym c.as_slice.ensures.value) (own_roots c.facts.ensures.all (declared_of c.args.tables.now.generics).heads c.args.tables.now.table c.push_own.new.table c.fields_from.new.table c.forget_counts.new.self (plain_from c.args.first_head (params_of c.args.block.now)) c.len-first_sort.result c.in_ok-fields.fields.items c.len-first_sort.ensures.len (c.in_ok-given.ensures.sorts (sorts_of c.args.tables.now.table) c.requires.standing.stand) c.fields_from.ensures.sorts c.fields_from.ensures.stay c.forget_counts.ensures.sorts c.forget_counts.ensures.expressions c.in_ok-fields.ensures.ok) in
    λ n err.
    let tells = λ (added : List Expression). c.in-Err.ensures.refused n (declared_of t.generics) (sorts_of t.table ++ plain) (flat_map (field_sorts (declared_of t.generics).heads) plain) added (ap Err (refused_below c.in-Err.error c.sig_error.result n (c.sig_error.ensures.refused n).0 err)) c.requires.standing.declared kept passed in
    ((tells []).0, λ added. (tells added).1)

pub returns-in-Err-clause-grown : goal.returns-in-Err-clause-grown
returns-in-Err-clause-grown c =
    let t = c.args.tables.now in
    let plain = plain_from c.args.first_head (params_of c.args.block.now) in
    let kept : AreSorts c.forget_counts.new.self (sorts_of t.table ++ plain) = own_kept c.facts.ensures.all (declared_of c.args.tables.now.generics).heads c.args.tables.now.table c.push_own.new.table c.fields_from.new.table c.forget_counts.new.self (plain_from c.args.first_head (params_of c.args.block.now)) c.len-first_sort.result c.in_ok-fields.fields.items c.len-first_sort.ensures.len (c.in_ok-given.ensures.sorts (sorts_of c.args.tables.now.table) c.requires.standing.stand) c.fields_from.ensures.sorts c.fields_from.ensures.stay c.forget_counts.ensures.sorts c.forget_counts.ensures.expressions in
    let passed : StandFor c.forget_counts.new.self.expressions c.as_slice.result.now (flat_map (field_sorts (declared_of t.generics).heads) plain) = subst (λ (ids : List ExprId). StandFor c.forget_counts.new.self.expressions ids (flat_map (field_sorts (declared_of t.generics).heads) plain)) (sym c.as_slice.ensures.value) (own_roots c.facts.ensures.all (declared_of c.args.tables.now.generics).heads c.args.tables.now.table c.push_own.new.table c.fields_from.new.table c.forget_counts.new.self (plain_from c.args.first_head (params_of c.args.block.now)) c.len-first_sort.result c.in_ok-fields.fields.items c.len-first_sort.ensures.len (c.in_ok-given.ensures.sorts (sorts_of c.args.tables.now.table) c.requires.standing.stand) c.fields_from.ensures.sorts c.fields_from.ensures.stay c.forget_counts.ensures.sorts c.forget_counts.ensures.expressions c.in_ok-fields.ensures.ok) in
    grown_with c.facts.ensures.all t c.add_sorts.new.table plain (c.facts.ensures.all.stay c.forget_counts.new.self c.add_sorts.new.table (sorts_of t.table ++ plain) kept c.in-Err.ensures.unchanged c.add_sorts.ensures.stay)

pub returns-in-Err-clause-standing : goal.returns-in-Err-clause-standing
returns-in-Err-clause-standing c =
    let t = c.args.tables.now in
    let plain = plain_from c.args.first_head (params_of c.args.block.now) in
    let kept : AreSorts c.forget_counts.new.self (sorts_of t.table ++ plain) = own_kept c.facts.ensures.all (declared_of c.args.tables.now.generics).heads c.args.tables.now.table c.push_own.new.table c.fields_from.new.table c.forget_counts.new.self (plain_from c.args.first_head (params_of c.args.block.now)) c.len-first_sort.result c.in_ok-fields.fields.items c.len-first_sort.ensures.len (c.in_ok-given.ensures.sorts (sorts_of c.args.tables.now.table) c.requires.standing.stand) c.fields_from.ensures.sorts c.fields_from.ensures.stay c.forget_counts.ensures.sorts c.forget_counts.ensures.expressions in
    let passed : StandFor c.forget_counts.new.self.expressions c.as_slice.result.now (flat_map (field_sorts (declared_of t.generics).heads) plain) = subst (λ (ids : List ExprId). StandFor c.forget_counts.new.self.expressions ids (flat_map (field_sorts (declared_of t.generics).heads) plain)) (sym c.as_slice.ensures.value) (own_roots c.facts.ensures.all (declared_of c.args.tables.now.generics).heads c.args.tables.now.table c.push_own.new.table c.fields_from.new.table c.forget_counts.new.self (plain_from c.args.first_head (params_of c.args.block.now)) c.len-first_sort.result c.in_ok-fields.fields.items c.len-first_sort.ensures.len (c.in_ok-given.ensures.sorts (sorts_of c.args.tables.now.table) c.requires.standing.stand) c.fields_from.ensures.sorts c.fields_from.ensures.stay c.forget_counts.ensures.sorts c.forget_counts.ensures.expressions c.in_ok-fields.ensures.ok) in
    standing_with c.facts.ensures.all t c.add_sorts.new.table (sorts_of t.table ++ plain) c.requires.standing (c.facts.ensures.all.stay c.forget_counts.new.self c.add_sorts.new.table (sorts_of t.table ++ plain) kept c.in-Err.ensures.unchanged c.add_sorts.ensures.stay)
