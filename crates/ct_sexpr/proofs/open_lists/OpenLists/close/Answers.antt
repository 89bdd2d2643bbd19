use Rattle.std.proofs.Common.{◌≡◌, ◌+◌, ◌-◌, ◌<◌, length, ap, ◌∙◌, arith, set, length-set}
use Rattle.std.proofs.lemmas.List.{length_push}
use Rattle.ct_sexpr.proofs.Opened.{open_of-refill, open_of-close, OnErr-any}
use Rattle.ct_sexpr.proofs.open_lists.OpenLists.close.Goals as goal

pub returns-in_err-reserve-clause-refused : goal.returns-in_err-reserve-clause-refused
returns-in_err-reserve-clause-refused c =
    let lists = c.self.inside.lists in
    let depth : length lists.items ≡ c.args.self.now.depth = ap (λ o. o.depth) c.self.view_is in
    let outer = c.len-outer.result - 2 in
    let within : outer < length lists.items = omega (arith, lists.ok.0) in
    OnErr-any _ (open_of-refill lists.items outer c.index_mut.result.now c.reserve.new.self c.args.self.now c.self.view_is within c.index_mut.ensures.value c.in_err-reserve.ensures.items)

pub returns-clause-ok : goal.returns-clause-ok
returns-clause-ok c =
    let lists = c.self.inside.lists in
    let depth : length lists.items ≡ c.args.self.now.depth = ap (λ o. o.depth) c.self.view_is in
    let outer = c.len-outer.result - 2 in
    let within : outer < length lists.items = omega (arith, lists.ok.0) in
    let view = open_of-refill lists.items outer c.index_mut.result.now c.reserve.new.self c.args.self.now c.self.view_is within c.index_mut.ensures.value c.in_ok-reserve.ensures.items in
    let count : length (set lists.items outer c.reserve.new.self) ≡ length c.pop.new.self.items + 1 = ap length c.in-Some.ensures.items ∙ length_push c.pop.new.self.items c.in-Some.items in
    let ends : outer + 1 ≡ length c.pop.new.self.items = omega (arith, lists.ok.0, length-set lists.items outer c.reserve.new.self) in
    open_of-close (set lists.items outer c.reserve.new.self) c.pop.new.self.items c.in-Some.items c.index_mut-2.result.now c.push.new.self outer c.args.self.now view c.in-Some.ensures.items ends c.index_mut-2.ensures.value c.in_ok-push.ensures.items
