use Rattle.std.proofs.Common.{◌≡◌, ◌-◌, List, [], ◌∷◌, ◌++◌, map, All, length, take, drop, subst, sym, arith}
use Rattle.std.proofs.lemmas.List.{append-nil}
use Rattle.std.proofs.lemmas.List.Elements.{All-head, All-tail}
use Rattle.std.proofs.lemmas.Result.{err_from_is_err_and}
use Rattle.ct_lemmas.proofs.Prefixes.{nothing_left, rest-item}
use Rattle.ct_formulas.specs.declared.tree.Tree.{Tree}
use Rattle.ct_terms.specs.CoreTree.{CoreTree}
use Rattle.ct_formulas.specs.TreeFormula.{formula_of}
use Rattle.ct_compile.specs.Effect.{AllStand}
use Rattle.ct_stack.specs.Held.{IsTableOf, context_in}
use Rattle.ct_stack.specs.Sorts.{HasSomeSort}
use Rattle.ct_stack.proofs.ErrorLemmas.{same_refusal}
use Rattle.ct_stack.proofs.GrowingLemmas.{IsUnderWay, not_begun, one_number_more, too_many_by_one, all_made, prefix_of_prefix}
use Rattle.ct_stack.proofs.value.core_numbers.Goals as goal

pub returns-in_err-numbers-clause-grown : goal.returns-in_err-numbers-clause-grown
returns-in_err-numbers-clause-grown c = ([], sym (append-nil c.args.table.now))

pub returns-in_err-numbers-clause-sorted : goal.returns-in_err-numbers-clause-sorted
returns-in_err-numbers-clause-sorted c = c.requires.table

pub loop-left-init : goal.loop-left-init
loop-left-init c =
    (rw c.in_ok-numbers.ensures.items (not_begun (context_in c.args.scope.now) (map formula_of c.args.trees.now) c.args.table.now c.requires.table (omega (arith, c.len.ensures.few, c.len.ensures.count))), c.requires.sorted)

pub core_number-requires-clause-sorted : goal.core_number-requires-clause-sorted
core_number-requires-clause-sorted c =
    let left = c.loop-left.left.now in
    let others = take (length left - 1) (drop 1 left) in
    let split : left ≡ c.first-item.result ∷ others = rest-item left c.first-item.result c.in-len1-up.len_at_least c.first-item.is in
    All-head (HasSomeSort c.args.scope.now.sig) c.first-item.result others (subst (All (HasSomeSort c.args.scope.now.sig)) split c.loop-left.invariant.1)

pub core_number-requires-clause-table : goal.core_number-requires-clause-table
core_number-requires-clause-table c = c.loop-left.invariant.0.sorted

pub returns-in_err-number-clause-sorted : goal.returns-in_err-number-clause-sorted
returns-in_err-number-clause-sorted c = c.in_err-number.ensures.sorted

pub returns-in_err-number-clause-grown : goal.returns-in_err-number-clause-grown
returns-in_err-number-clause-grown c = prefix_of_prefix c.args.table.now c.loop-left.table c.core_number.new.table c.loop-left.invariant.0.grown c.in_err-number.ensures.grown

pub returns-in_err-number-clause-refused : goal.returns-in_err-number-clause-refused
returns-in_err-number-clause-refused c =
    let loop = c.loop-left in
    let context = context_in c.args.scope.now in
    let all = map formula_of c.args.trees.now in
    let left = loop.left.now in
    let others = take (length left - 1) (drop 1 left) in
    let split : left ≡ c.first-item.result ∷ others = rest-item left c.first-item.result c.in-len1-up.len_at_least c.first-item.is in
    let way = subst (λ (ts : List Tree). IsUnderWay context all (map formula_of ts) c.args.table.now loop.table loop.numbers.items) split loop.invariant.0 in
    let p = err_from_is_err_and c.from_residual-in_err-number.result c.from_residual-in_err-number.ensures.1 in
    rw (p.1, p.2)
    (λ n e.
    let said = c.in_err-number.ensures.refused n (same_refusal _ n e) in
    (said.0, λ roots of. too_many_by_one context all c.args.table.now (formula_of c.first-item.result) (map formula_of others) loop.table loop.numbers.items way roots (said.1 (roots ++ way.so_far) (way.exact roots of))))

pub returns-in_err-push-clause-sorted : goal.returns-in_err-push-clause-sorted
returns-in_err-push-clause-sorted c = c.in_ok-number.ensures.sorted

pub returns-in_err-push-clause-grown : goal.returns-in_err-push-clause-grown
returns-in_err-push-clause-grown c = prefix_of_prefix c.args.table.now c.loop-left.table c.core_number.new.table c.loop-left.invariant.0.grown c.in_ok-number.ensures.grown

pub loop-left-preserved : goal.loop-left-preserved
loop-left-preserved c =
    let loop = c.loop-left in
    let context = context_in c.args.scope.now in
    let all = map formula_of c.args.trees.now in
    let left = loop.left.now in
    let others = take (length left - 1) (drop 1 left) in
    let split : left ≡ c.first-item.result ∷ others = rest-item left c.first-item.result c.in-len1-up.len_at_least c.first-item.is in
    let way = subst (λ (ts : List Tree). IsUnderWay context all (map formula_of ts) c.args.table.now loop.table loop.numbers.items) split loop.invariant.0 in (
      rw c.in_ok-push.ensures.items (one_number_more context all c.args.table.now (formula_of c.first-item.result) (map formula_of others) loop.table loop.numbers.items way c.core_trees.ensures.longer c.core_number.new.table c.in_ok-number.number c.in_ok-number.ensures.grown c.len-in-len1-up.ensures.ordered c.in_ok-number.ensures.sorted c.in_ok-number.ensures.few c.in_ok-number.ensures.stands c.in_ok-number.ensures.made),
      All-tail (HasSomeSort c.args.scope.now.sig) c.first-item.result others (subst (All (HasSomeSort c.args.scope.now.sig)) split loop.invariant.1),
    )

pub returns-clause-numbers : goal.returns-clause-numbers
returns-clause-numbers c =
    let loop = c.loop-left in
    let context = context_in c.args.scope.now in
    let all = map formula_of c.args.trees.now in
    let none : loop.left.now ≡ [] = nothing_left loop.left.now (omega (arith, c.in_default.len_below)) in
    let way = subst (λ (ts : List Tree). IsUnderWay context all (map formula_of ts) c.args.table.now loop.table loop.numbers.items) none loop.invariant.0 in
    subst (AllStand loop.table loop.numbers.items) (all_made context all c.args.table.now loop.table loop.numbers.items way) way.stand

pub returns-clause-made : goal.returns-clause-made
returns-clause-made c =
    let loop = c.loop-left in
    let context = context_in c.args.scope.now in
    let all = map formula_of c.args.trees.now in
    let none : loop.left.now ≡ [] = nothing_left loop.left.now (omega (arith, c.in_default.len_below)) in
    let way = subst (λ (ts : List Tree). IsUnderWay context all (map formula_of ts) c.args.table.now loop.table loop.numbers.items) none loop.invariant.0 in
    λ roots of. subst (λ (cs : List CoreTree). IsTableOf c.args.scope.now.sig (roots ++ cs) loop.table) (all_made context all c.args.table.now loop.table loop.numbers.items way) (way.exact roots of)

pub returns-clause-few : goal.returns-clause-few
returns-clause-few c = c.loop-left.invariant.0.few

pub returns-clause-sorted : goal.returns-clause-sorted
returns-clause-sorted c = c.loop-left.invariant.0.sorted

pub returns-clause-grown : goal.returns-clause-grown
returns-clause-grown c = c.loop-left.invariant.0.grown
