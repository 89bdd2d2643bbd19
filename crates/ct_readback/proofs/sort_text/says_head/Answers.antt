use Rattle.std.proofs.Common.{◌∙◌}
use Rattle.ct_sexpr.specs.View.{expression_of}
use Rattle.ct_instances.specs.Among.{origin_of}
use Rattle.ct_instances.proofs.CtorNameLemmas.{origin_at}
use Rattle.ct_readback.proofs.SaysLemmas.{plain_head, generic_head}
use Rattle.ct_readback.proofs.sort_text.says_head.Goals as goal

pub gen_name-requires : goal.gen_name-requires
gen_name-requires c =
    let d = c.args.sig.now in
    record { generic = (c.in-Some.ensures.value (origin_of d c.args.s) (origin_at d c.sorts.ensures.consistent c.args.s c.requires.declared)).1 }

pub returns-in-None : goal.returns-in-None
returns-in-None c =
    let d = c.args.sig.now in
    let plain = c.in-None.ensures.value (origin_of d c.args.s) (origin_at d c.sorts.ensures.consistent c.args.s c.requires.declared) in
    record { value = c.is_named.ensures.value ∙ plain_head d c.sorts.ensures.consistent c.args.s plain c.sort_name.result.now (expression_of c.args.expr.now) c.sort_name.ensures.value }

pub returns-in-Some : goal.returns-in-Some
returns-in-Some c =
    let d = c.args.sig.now in
    let found = c.in-Some.ensures.value (origin_of d c.args.s) (origin_at d c.sorts.ensures.consistent c.args.s c.requires.declared) in
    record { value = c.is_named-in-Some.ensures.value ∙ generic_head d c.args.s c.in-Some.g found.1.0 found.0 found.1.1 c.gen_name.result.now (expression_of c.args.expr.now) (c.gen_name.ensures.value found.1.0 found.1.1) }
