use Rattle.std.proofs.Common.{arith}
use Rattle.ct_generics.specs.declared.tasks.Task.TheVariants.{Add, Arguments}
use Rattle.ct_generics.proofs.TaskLemmas.{bare-args, begun-bare, begun-arguments, weight-push, tripled-less, weighs}
use Rattle.ct_generics.proofs.tasks.begin_arguments.Goals as goal

pub returns-in_default-clause-begun : goal.returns-in_default-clause-begun
returns-in_default-clause-begun c ids =
    begun-bare c.args.table.now ids c.args.id c.args.tasks.now.items (λ e stands. bare-args c.args.table.now c.args.id.0 e c.in_default.ensures.none stands)

pub returns-in_default-clause-less : goal.returns-in_default-clause-less
returns-in_default-clause-less c = let h = weighs (Arguments c.args.id) in omega (arith, h)

pub returns-clause-begun : goal.returns-clause-begun
returns-clause-begun c ids =
    let parts = c.in-Some.parts in
    begun-arguments c.args.table.now ids c.args.id parts.function parts.argument c.args.tasks.now.items c.push.new.self.items c.push-2.new.self.items c.in-Some.ensures.parts c.in_ok-push.ensures.items c.in_ok-push-2.ensures.items

pub returns-clause-less : goal.returns-clause-less
returns-clause-less c =
    let parts = c.in-Some.parts in
    let first = weight-push c.args.tasks.now.items c.push.new.self.items (Add parts.argument) c.in_ok-push.ensures.items in
    let second = weight-push c.push.new.self.items c.push-2.new.self.items (Arguments parts.function) c.in_ok-push-2.ensures.items in
    let less = tripled-less parts.function.0 parts.argument.0 c.args.id.0 c.in-Some.ensures.below.0 c.in-Some.ensures.below.1 in
    omega (arith, first, second, less)
