use Rattle.std.proofs.Common.{◌≡◌, ◌+◌, ◌-◌, ◌<◌, length, refl, ap, arith}
use Rattle.ct_sexpr.proofs.Opened.{open_of-refill, open_of-fill, OnErr-any}
use Rattle.ct_sexpr.proofs.open_lists.OpenLists.add.Goals as goal

pub returns-in_err-push-clause-refused : goal.returns-in_err-push-clause-refused
returns-in_err-push-clause-refused c =
    let lists = c.self.inside.lists in
    let depth : length lists.items ≡ c.args.self.now.depth = ap (λ o. o.depth) c.self.view_is in
    let innermost = c.len-depth.result - 1 in
    let within : innermost < length lists.items = omega (arith, lists.ok.0) in
    OnErr-any _ (open_of-refill lists.items innermost c.index_mut.result.now c.push.new.self c.args.self.now c.self.view_is within c.index_mut.ensures.value c.in_err-push.ensures.items)

pub returns-clause-ok : goal.returns-clause-ok
returns-clause-ok c = λ _.
    let lists = c.self.inside.lists in
    let depth : length lists.items ≡ c.args.self.now.depth = ap (λ o. o.depth) c.self.view_is in
    let innermost = c.len-depth.result - 1 in
    let last : innermost + 1 ≡ length lists.items = omega (arith, lists.ok.0) in
    open_of-fill lists.items innermost c.index_mut.result.now c.push.new.self c.args.item _ c.args.self.now c.self.view_is last c.index_mut.ensures.value c.in_ok-push.ensures.items refl
