use Rattle.std.proofs.Common.{◌≡◌, ◌<◌, ◌++◌, ◌||◌, ◌&&◌, List, ℕ, [], ◌∷◌, length, get_or, nat_eq, sym, ap, subst, ◌∙◌}
use Rattle.std.proofs.lemmas.List.{take_all, get_or_read}
use Rattle.ct_partition.specs.Sets.{has, row_at}
use Rattle.ct_partition.proofs.WaitingLemmas.{IsParentAdded-none, IsParentAdded-more}
use Rattle.ct_partition.proofs.parents.add_parent.Goals as goal

pub loop-child-init : goal.loop-child-init
loop-child-init c = IsParentAdded-none c.args.rows.now.items c.args.parent

pub loop-child-preserved : goal.loop-child-preserved
loop-child-preserved c =
    let old = c.args.rows.now.items in
    let children = c.args.children.now in
    let k = c.loop-child.child-index in
    let rows = c.loop-child.rows.items in
    let child = get_or children k 0 in
    let inside : child < length old = c.requires.within k 0 c.loop-child-test.true in
    let room : child < length rows = subst (λ n. child < n) (sym c.loop-child.invariant.long) inside in
    let row : c.push.new.self ≡ row_at rows child ++ c.args.parent ∷ [] = c.in_ok-push.ensures.value ∙ ap (λ (xs : List ℕ). xs ++ c.args.parent ∷ []) (get_or_read rows child c.index_mut.result.now room c.index_mut.ensures.value []) in
    IsParentAdded-more old c.args.parent children k 0 rows c.push.new.self c.loop-child-test.true inside row c.loop-child.invariant

pub returns : goal.returns
returns c =
    let done = c.loop-child.invariant in
    let all = take_all c.loop-child.child-index c.args.children.now c.loop-child-test.false in
    record {
      long = done.long;
      added = λ child i.
          done.added child i ∙ ap (λ (xs : List ℕ). has (row_at c.args.rows.now.items child) i || (nat_eq c.args.parent i && has xs child)) all;
    }
