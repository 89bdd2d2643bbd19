use Rattle.std.proofs.Common.{◌≡◌, ◌-◌, List, [], ◌∷◌, length, map, take, drop, subst, arith}
use Rattle.std.proofs.lemmas.Result.{err_from_is_err_and}
use Rattle.std.proofs.lemmas.List.Elements.{All-nil, All-push}
use Rattle.ct_lemmas.proofs.Prefixes.{nothing_left, rest-item}
use Rattle.ct_generics.specs.declared.decl.CtorDecl.{CtorDecl}
use Rattle.ct_command.specs.declared.command.Constructor.{Constructor}
use Rattle.ct_command.specs.Seen.{constructor_seen}
use Rattle.ct_stack.specs.Elaborations.{IsCtorOf, HasFieldsBelow}
use Rattle.ct_stack.proofs.ErrorLemmas.{same_refusal}
use Rattle.ct_stack.proofs.ZipLemmas.{IsZipped, zip_start, zip_push, zip_end, zip_stop}
use Rattle.ct_stack.proofs.block.all_ctors.Goals as goal

pub loop-left-init : goal.loop-left-init
loop-left-init c =
    rw c.in_ok-all.ensures.items (zip_start (IsCtorOf (map (λ p. p.now) c.args.params.now)) (map constructor_seen c.args.ctors.now), All-nil (HasFieldsBelow (length c.args.params.now)))

pub returns-in_err-fields-clause-refused : goal.returns-in_err-fields-clause-refused
returns-in_err-fields-clause-refused c =
    let R = IsCtorOf (map (λ p. p.now) c.args.params.now) in
    let whole = map constructor_seen c.args.ctors.now in
    let out = c.loop-left.all.items in
    let left = c.loop-left.left.now in
    let others = take (length left - 1) (drop 1 left) in
    let split : left ≡ c.first-item.result ∷ others = rest-item left c.first-item.result c.in-len1-up.len_at_least c.first-item.is in
    let so_far = subst (λ (ns : List Constructor). IsZipped R whole out (map constructor_seen ns)) split c.loop-left.invariant.0 in
    let told = rw c.as_slice.ensures.value at c.in_err-fields.ensures.refused in
    let p = err_from_is_err_and c.from_residual-in_err-fields.result c.from_residual-in_err-fields.ensures.1 in
    rw (p.1, p.2)
    (λ n e.
    let said = told n (same_refusal _ n e) in
    (said.0, zip_stop R whole out (constructor_seen c.first-item.result) (map constructor_seen others) (λ y is. said.1 y.fields is.fields) so_far))

pub loop-left-preserved : goal.loop-left-preserved
loop-left-preserved c =
    let R = IsCtorOf (map (λ p. p.now) c.args.params.now) in
    let whole = map constructor_seen c.args.ctors.now in
    let out = c.loop-left.all.items in
    let left = c.loop-left.left.now in
    let others = take (length left - 1) (drop 1 left) in
    let split : left ≡ c.first-item.result ∷ others = rest-item left c.first-item.result c.in-len1-up.len_at_least c.first-item.is in
    let so_far = subst (λ (ns : List Constructor). IsZipped R whole out (map constructor_seen ns)) split c.loop-left.invariant.0 in
    let ctor : CtorDecl = record { name = c.in_ok-name.name; fields = c.new.result } in
    let zipped = rw c.as_slice.ensures.value at c.in_ok-fields.ensures.ok in
    let fields_are : c.new.result ≡ c.in_ok-fields.fields.items = c.new.ensures.value in
    rw c.in_ok-push.ensures.items (
      zip_push R whole out (constructor_seen c.first-item.result) ctor (map constructor_seen others) (record { name = c.in_ok-name.ensures.ok; fields = rw fields_are zipped }) so_far,
      All-push (HasFieldsBelow (length c.args.params.now)) out ctor c.loop-left.invariant.1 (rw fields_are c.in_ok-fields.ensures.below),
    )

pub returns-clause-ok : goal.returns-clause-ok
returns-clause-ok c =
    let R = IsCtorOf (map (λ p. p.now) c.args.params.now) in
    let whole = map constructor_seen c.args.ctors.now in
    let out = c.loop-left.all.items in
    let none : c.loop-left.left.now ≡ [] = nothing_left c.loop-left.left.now (omega (arith, c.in_default.len_below)) in
    zip_end R whole out (subst (λ (ns : List Constructor). IsZipped R whole out (map constructor_seen ns)) none c.loop-left.invariant.0)

pub returns-clause-below : goal.returns-clause-below
returns-clause-below c = c.loop-left.invariant.1
