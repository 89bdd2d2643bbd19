use Rattle.std.proofs.Common.{◌≡◌, ℕ, ◌-◌, List, length, take, drop, reverse, ap, ◌∙◌, arith}
use Rattle.ct_scope.specs.declared.bound.Bound.{Bound}
use Rattle.ct_scope.proofs.StackLemmas.{last_left}
use Rattle.ct_scope.proofs.environment.Environment.unbind.Goals as goal

pub returns : goal.returns
returns c =
    let items = c.self.inside.bounds.items in
    let left : c.saturating_sub-left.result ≡ length items - c.args.count = omega arith in
    record { rest = ap (λ (xs : List Bound). reverse xs) (c.truncate.ensures.items ∙ ap (λ (k : ℕ). take k items) left) ∙ last_left items c.args.count ∙ ap (drop c.args.count) c.self.view_is }
