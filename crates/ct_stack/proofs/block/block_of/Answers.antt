use Rattle.std.proofs.Common.{◌≡◌, ◌-◌, List, [], ◌∷◌, length, map, take, drop, subst, arith}
use Rattle.std.proofs.lemmas.Result.{err_from_is_err_and}
use Rattle.ct_lemmas.proofs.Prefixes.{nothing_left, rest-item}
use Rattle.ct_command.specs.declared.command.SortHead.{SortHead as ReadHead}
use Rattle.ct_command.specs.declared.command.Body.{Body as ReadBody}
use Rattle.ct_command.specs.Seen.{head_seen, body_seen}
use Rattle.ct_stack.proofs.BlockLemmas.{AreDeclared, decls_push, decls_stop, decls_end, below_more, split_first}
use Rattle.ct_stack.proofs.ErrorLemmas.{same_refusal}
use Rattle.ct_stack.proofs.block.block_of.Goals as goal

pub returns-in_err-decl-clause-refused : goal.returns-in_err-decl-clause-refused
returns-in_err-decl-clause-refused c =
    let heads = map head_seen c.args.heads.now in
    let bodies = map body_seen c.args.bodies.now in
    let out = c.loop-heads_left.decls.items in
    let hs = c.loop-heads_left.heads_left.now in
    let bs = c.loop-heads_left.bodies_left.now in
    let more_hs = take (length hs - 1) (drop 1 hs) in
    let more_bs = take (length bs - 1) (drop 1 bs) in
    let (h, split_hs) = split_first hs c.in-len1-up.len_at_least in
    let split_bs : bs ≡ c.body-item.result ∷ more_bs = rest-item bs c.body-item.result c.in-len1-up-bodies_left.len_at_least c.body-item.is in
    let first = subst (λ (xs : List ReadHead). AreDeclared heads bodies out (map head_seen xs) (map body_seen bs)) split_hs c.loop-heads_left.invariant.0 in
    let so_far = subst (λ (xs : List ReadBody). AreDeclared heads bodies out (map head_seen (h ∷ more_hs)) (map body_seen xs)) split_bs first in
    let p = err_from_is_err_and c.from_residual-in_err-decl.result c.from_residual-in_err-decl.ensures.1 in
    let told = rw split_hs at c.in_err-decl.ensures.refused in
    rw (p.1, p.2)
    (λ n e.
    let said = told n (same_refusal _ n e) in
    (said.0, decls_stop heads bodies out (head_seen h) (map head_seen more_hs) (body_seen c.body-item.result) (map body_seen more_bs) so_far said.1))

pub loop-heads_left-preserved : goal.loop-heads_left-preserved
loop-heads_left-preserved c =
    let heads = map head_seen c.args.heads.now in
    let bodies = map body_seen c.args.bodies.now in
    let out = c.loop-heads_left.decls.items in
    let hs = c.loop-heads_left.heads_left.now in
    let bs = c.loop-heads_left.bodies_left.now in
    let more_hs = take (length hs - 1) (drop 1 hs) in
    let more_bs = take (length bs - 1) (drop 1 bs) in
    let (h, split_hs) = split_first hs c.in-len1-up.len_at_least in
    let split_bs : bs ≡ c.body-item.result ∷ more_bs = rest-item bs c.body-item.result c.in-len1-up-bodies_left.len_at_least c.body-item.is in
    let first = subst (λ (xs : List ReadHead). AreDeclared heads bodies out (map head_seen xs) (map body_seen bs)) split_hs c.loop-heads_left.invariant.0 in
    let so_far = subst (λ (xs : List ReadBody). AreDeclared heads bodies out (map head_seen (h ∷ more_hs)) (map body_seen xs)) split_bs first in
    let told = rw split_hs at c.in_ok-decl.ensures.ok in
    rw c.in_ok-push.ensures.items (
      decls_push heads bodies out (head_seen h) (map head_seen more_hs) (body_seen c.body-item.result) (map body_seen more_bs) so_far c.in_ok-decl.decl told,
      below_more out c.in_ok-decl.decl c.loop-heads_left.invariant.1 c.in_ok-decl.ensures.below,
    )

pub returns-clause-ok : goal.returns-clause-ok
returns-clause-ok c =
    let heads = map head_seen c.args.heads.now in
    let bodies = map body_seen c.args.bodies.now in
    let out = c.loop-heads_left.decls.items in
    let left = map body_seen c.loop-heads_left.bodies_left.now in
    let none : c.loop-heads_left.heads_left.now ≡ [] = nothing_left c.loop-heads_left.heads_left.now (omega (arith, c.in_default.len_below)) in
    decls_end heads bodies out left (subst (λ (xs : List ReadHead). AreDeclared heads bodies out (map head_seen xs) left) none c.loop-heads_left.invariant.0)
