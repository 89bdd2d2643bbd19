use Rattle.std.proofs.Common.{◌≡◌, ◌∙◌, length, vec_len, arith}
use Rattle.ct_names.proofs.StackLemmas.{below-seen, found-seen, none-seen}
use Rattle.ct_names.proofs.stack.Variables.find.Goals as goal

pub overflow_sub-result-in-Some : goal.overflow_sub-result-in-Some
overflow_sub-result-in-Some c =
    let count : vec_len c.self.inside.entries ≡ length c.self.inside.entries.items = omega (arith, c.self.inside.entries.ok.0) in
    omega (arith, below-seen c.self.inside.entries.items c.self.inside.positions c.self.invariant c.args.self.now c.self.view_is c.args.name.now c.in-Some.position c.len.result c.in-Some.ensures.position (c.len.ensures ∙ count))

pub returns-in-Some : goal.returns-in-Some
returns-in-Some c =
    let count : vec_len c.self.inside.entries ≡ length c.self.inside.entries.items = omega (arith, c.self.inside.entries.ok.0) in
    record { found = found-seen c.self.inside.entries.items c.self.inside.positions c.self.invariant c.args.self.now c.self.view_is c.args.name.now c.in-Some.position c.len.result c.in-Some.ensures.position (c.len.ensures ∙ count) }

pub returns-in-None : goal.returns-in-None
returns-in-None c = record { found = none-seen c.self.inside.entries.items c.self.inside.positions c.self.invariant c.args.self.now c.self.view_is c.args.name.now c.in-None.ensures.position }
