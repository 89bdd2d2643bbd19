use Rattle.ct_log.specs.Equations.{equation}
use Rattle.ct_log.specs.Look.{HaveArguments}
use Rattle.ct_log.proofs.LookLemmas.{none_gives}
use Rattle.ct_log.proofs.StepLemmas.{arguments-none, arguments-no_left, arguments-no_right, arguments-found}
use Rattle.ct_log.proofs.steps.arguments.Goals as goal

pub returns-in-None : goal.returns-in-None
returns-in-None c = record {
  arguments = λ x y. none_gives (HaveArguments c.args.table.now c.args.t c.args.u c.args.place x y) (equation x y) (arguments-none c.args.table.now c.args.t c.args.u c.args.place x y c.in-None.ensures.built);
}

pub returns-in-None-argument : goal.returns-in-None-argument
returns-in-None-argument c =
    let built = (c.constructor.ensures.built c.in-Some.c).1 c.in-Some.is in
    record {
      arguments = λ x y. none_gives (HaveArguments c.args.table.now c.args.t c.args.u c.args.place x y) (equation x y) (arguments-no_left c.args.table.now c.args.t c.args.u c.args.place c.in-Some.c x y built c.in-None-argument.ensures.argument);
    }

pub returns-in-None-argument-2 : goal.returns-in-None-argument-2
returns-in-None-argument-2 c =
    let built = (c.constructor.ensures.built c.in-Some.c).1 c.in-Some.is in
    record {
      arguments = λ x y. none_gives (HaveArguments c.args.table.now c.args.t c.args.u c.args.place x y) (equation x y) (arguments-no_right c.args.table.now c.args.t c.args.u c.args.place c.in-Some.c x y built c.in-None-argument-2.ensures.argument);
    }

pub returns-in-Some-argument-2 : goal.returns-in-Some-argument-2
returns-in-Some-argument-2 c =
    let left = (c.argument.ensures.argument c.in-Some-argument.left).1 c.in-Some-argument.is in
    let right = (c.argument-in-Some-argument.ensures.argument c.in-Some-argument-2.right).1 c.in-Some-argument-2.is in
    record { arguments = arguments-found c.args.table.now c.args.t c.args.u c.args.place c.in-Some.c c.in-Some-argument.left c.in-Some-argument-2.right left right }
