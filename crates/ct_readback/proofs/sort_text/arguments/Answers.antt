use Rattle.std.proofs.Common.{get_or}
use Rattle.std.proofs.lemmas.Option.{slice_get-get_or}
use Rattle.ct_generics.specs.Expression.{args_of}
use Rattle.ct_instances.specs.Among.{origin_of}
use Rattle.ct_instances.proofs.CtorNameLemmas.{origin_at}
use Rattle.ct_readback.proofs.SaysLemmas.{arguments_are, arguments_inside}
use Rattle.ct_readback.proofs.sort_text.arguments.Goals as goal

pub returns-clause-value : goal.returns-clause-value
returns-clause-value c =
    let d = c.args.sig.now in
    let sort = origin_of d c.args.s in
    arguments_are d c.sort_args.result.now (args_of sort) (c.sort_args.ensures.value sort (origin_at d c.sorts.ensures.consistent c.args.s c.requires.declared))

pub returns-clause-inside : goal.returns-clause-inside
returns-clause-inside c = λ k z within.
    let d = c.args.sig.now in
    let sort = origin_of d c.args.s in
    let args = c.sort_args.result.now in
    arguments_inside d c.sorts.ensures.consistent args (args_of sort) (c.sort_args.ensures.value sort (origin_at d c.sorts.ensures.consistent c.args.s c.requires.declared)) k (get_or args k z) (slice_get-get_or args k z within)
