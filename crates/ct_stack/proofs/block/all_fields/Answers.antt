use Rattle.std.proofs.Common.{◌≡◌, ◌-◌, List, [], ◌∷◌, length, map, take, drop, subst, arith}
use Rattle.std.proofs.lemmas.Result.{err_from_is_err_and}
use Rattle.std.proofs.lemmas.List.Elements.{All-nil, All-push}
use Rattle.ct_lemmas.proofs.Prefixes.{nothing_left, rest-item}
use Rattle.ct_generics.specs.declared.decl.Field.{Field}
use Rattle.ct_command.specs.declared.command.Named.{Named}
use Rattle.ct_command.specs.Seen.{named_seen}
use Rattle.ct_stack.specs.Elaborations.{IsFieldOf, IsBelow}
use Rattle.ct_stack.proofs.ErrorLemmas.{same_refusal}
use Rattle.ct_stack.proofs.ZipLemmas.{IsZipped, zip_start, zip_push, zip_end, zip_stop}
use Rattle.ct_stack.proofs.block.all_fields.Goals as goal

pub loop-left-init : goal.loop-left-init
loop-left-init c =
    rw c.in_ok-all.ensures.items (zip_start (IsFieldOf (map (λ p. p.now) c.args.params.now)) (map named_seen c.args.fields.now), All-nil (IsBelow (length c.args.params.now)))

pub returns-in_err-sort-clause-refused : goal.returns-in_err-sort-clause-refused
returns-in_err-sort-clause-refused c =
    let R = IsFieldOf (map (λ p. p.now) c.args.params.now) in
    let whole = map named_seen c.args.fields.now in
    let out = c.loop-left.all.items in
    let left = c.loop-left.left.now in
    let others = take (length left - 1) (drop 1 left) in
    let split : left ≡ c.first-item.result ∷ others = rest-item left c.first-item.result c.in-len1-up.len_at_least c.first-item.is in
    let so_far = subst (λ (ns : List Named). IsZipped R whole out (map named_seen ns)) split c.loop-left.invariant.0 in
    let p = err_from_is_err_and c.from_residual-in_err-sort.result c.from_residual-in_err-sort.ensures.1 in
    rw (p.1, p.2)
    (λ n e.
    let h = c.in_err-sort.ensures.refused n (same_refusal _ n e) in
    (h.0, zip_stop R whole out (named_seen c.first-item.result) (map named_seen others) (λ y is. h.1 y.sort is.sort) so_far))

pub loop-left-preserved : goal.loop-left-preserved
loop-left-preserved c =
    let R = IsFieldOf (map (λ p. p.now) c.args.params.now) in
    let whole = map named_seen c.args.fields.now in
    let out = c.loop-left.all.items in
    let left = c.loop-left.left.now in
    let others = take (length left - 1) (drop 1 left) in
    let split : left ≡ c.first-item.result ∷ others = rest-item left c.first-item.result c.in-len1-up.len_at_least c.first-item.is in
    let so_far = subst (λ (ns : List Named). IsZipped R whole out (map named_seen ns)) split c.loop-left.invariant.0 in
    let field : Field = record { name = c.in_ok-name.name; sort = c.in_ok-sort.sort } in
    rw c.in_ok-push.ensures.items (
      zip_push R whole out (named_seen c.first-item.result) field (map named_seen others) (record { name = c.in_ok-name.ensures.ok; sort = c.in_ok-sort.ensures.ok }) so_far,
      All-push (IsBelow (length c.args.params.now)) out field c.loop-left.invariant.1 c.in_ok-sort.ensures.below,
    )

pub returns-clause-ok : goal.returns-clause-ok
returns-clause-ok c =
    let R = IsFieldOf (map (λ p. p.now) c.args.params.now) in
    let whole = map named_seen c.args.fields.now in
    let out = c.loop-left.all.items in
    let none : c.loop-left.left.now ≡ [] = nothing_left c.loop-left.left.now (omega (arith, c.in_default.len_below)) in
    zip_end R whole out (subst (λ (ns : List Named). IsZipped R whole out (map named_seen ns)) none c.loop-left.invariant.0)

pub returns-clause-below : goal.returns-clause-below
returns-clause-below c = c.loop-left.invariant.1
