use Rattle.std.proofs.Common.{refl, sym, ◌∙◌}
use Rattle.std.proofs.lemmas.Bool.{false≢true}
use Rattle.std.proofs.lemmas.Result.{err_from_is_err_and}
use Rattle.ct_lemmas.proofs.Pairs.{AllZip-one_length, AllZip-push, AllZip-weaker}
use Rattle.ct_generics.specs.declared.error.GenericError.TheVariants.{Refused}
use Rattle.ct_generics.specs.declared.nodes.ExprId.{ExprId}
use Rattle.ct_generics.specs.Expression.{Expression}
use Rattle.ct_generics.specs.Nodes.{Stands}
use Rattle.ct_generics.specs.Add.{field_sorts}
use Rattle.ct_generics.proofs.NodeLemmas.{Stands-stay, Stands-within}
use Rattle.ct_generics.proofs.OutcomeLemmas.{err_cast}
use Rattle.ct_generics.proofs.SynonymLemmas.{long-text, short-text, same_refused}
use Rattle.ct_generics.proofs.TaskLemmas.{AreTasks-sorts, AreTasks-stay, not_on}
use Rattle.ct_generics.proofs.RoomLemmas.{IsCounted-stay, Leaves-one, long-no_room, no_room}
use Rattle.ct_generics.proofs.add.make.Goals as goal

pub field_ids-requires-clause-within : goal.field_ids-requires-clause-within
field_ids-requires-clause-within c = Stands-within c.args.table.now.expressions c.args.id.0 c.requires.sort.1 c.requires.sort.3

pub returns-in_err-fields-clause-counted : goal.returns-in_err-fields-clause-counted
returns-in_err-fields-clause-counted c =
    IsCounted-stay c.args.heads.now c.args.table.now.expressions c.field_ids.new.table c.args.table.now.counts c.len-ordered.ensures.ordered c.field_ids.ensures.stay c.requires.counted

pub count_more-requires : goal.count_more-requires
count_more-requires c =
    record { counted = IsCounted-stay c.args.heads.now c.args.table.now.expressions c.field_ids.new.table c.args.table.now.counts c.len-ordered.ensures.ordered c.field_ids.ensures.stay c.requires.counted }

pub returns-then-is_long-clause-refused : goal.returns-then-is_long-clause-refused
returns-then-is_long-clause-refused c n hs e err stored stands =
    let nodes = c.field_ids.new.table in
    let counts = c.count_more.new.counts in
    let now = Stands-stay c.args.table.now.expressions nodes c.args.id.0 e c.field_ids.ensures.stay stands in
    (same_refused 16 n _ refl err, long-no_room hs c.args.left e (long-text hs nodes counts c.args.id e (c.count_more.ensures.counted.counted hs stored) now (rw c.as_slice.ensures.value at (c.is_long.ensures.long.0 c.if-is_long.true))))

pub returns-in_err-rest-clause-refused : goal.returns-in_err-rest-clause-refused
returns-in_err-rest-clause-refused c =
    let p = err_from_is_err_and c.from_residual-in_err-rest.result c.from_residual-in_err-rest.ensures.1 in
    rw (p.1, p.2) (λ n hs e err stored stands.
    let fields = c.in_ok-fields.ensures.fields hs e stored stands in
    let spent = c.in_err-rest.ensures.refused n (err_cast _ (Refused n) err) in
    let long = AllZip-one_length (λ (x : ExprId) (f : Expression). Stands c.field_ids.new.table x.0 f) c.in_ok-fields.fields.ids (field_sorts hs e) fields.1 in
    (spent.0, no_room hs c.args.left e c.in_ok-fields.fields.ctors c.len.result spent.1 fields.0 (c.len.ensures.len ∙ long)))

pub push-requires : goal.push-requires
push-requires c =
    record { fresh = not_on c.args.table.now.expressions c.args.table.now.sorts c.requires.sort.0 c.args.id c.requires.sort.1 c.requires.sort.2 c.requires.sort.3 c.requires.sort.4 }

pub returns-clause-made : goal.returns-clause-made
returns-clause-made c hs es e later stored sorts stands are =
    let old = c.args.table.now.expressions in
    let nodes = c.field_ids.new.table in
    let stay = c.field_ids.ensures.stay in
    let counts = c.count_more.new.counts in
    let now = Stands-stay old nodes c.args.id.0 e stay stands in
    let fields = c.in_ok-fields.ensures.fields hs e stored stands in
    let ids = c.in_ok-fields.fields.ids in
    let long = AllZip-one_length (λ (x : ExprId) (f : Expression). Stands nodes x.0 f) ids (field_sorts hs e) fields.1 in
    let small = short-text hs nodes counts c.args.id e c.in_ok-count_more.ensures.long (c.count_more.ensures.counted.counted hs stored) now (λ too_long. false≢true (sym c.if-is_long.false ∙ c.is_long.ensures.long.1 (rw c.as_slice.ensures.value too_long))) in
    let stand = AllZip-weaker (λ (x : ExprId) (f : Expression). Stands old x.0 f) (λ (x : ExprId) (f : Expression). Stands nodes x.0 f) (λ x f is. Stands-stay old nodes x.0 f stay is) c.args.table.now.sorts es sorts in (
      Leaves-one hs c.args.left c.in_ok-rest.rest e c.in_ok-fields.fields.ctors c.len.result c.in_ok-rest.ensures.spent fields.0 (c.len.ensures.len ∙ long) small,
      rw c.in_ok-push.ensures.ok (AllZip-push (λ (x : ExprId) (f : Expression). Stands nodes x.0 f) c.args.table.now.sorts es c.args.id e stand now),
      AreTasks-sorts nodes c.args.tasks.now.items c.push_sorts.new.tasks.items ids (field_sorts hs e) later (rw c.as_slice-2.ensures.value at c.in_ok-push_sorts.ensures.pushed) fields.1 (AreTasks-stay old nodes c.args.tasks.now.items later stay are),
    )
